-- Tokens, one by one, and lists of what is written with tokens. All of the tokens belong to it, and nothing reads from
-- left to right.
use Rattle.std.specs.Prelude.{◌≡◌, ℕ, ◌⊎◌, true, List, [], ◌∷◌, ◌++◌, Option, Some}
use Rattle.bsdl_text.specs.declared.tokens.Kind.TheVariants as kind
use Rattle.bsdl_text.specs.Bytes.{begins_word}
use Rattle.bsdl_text.specs.Cutting.{Lexeme}
use Rattle.bsdl_text.specs.Words.{same_name}

-- a token that is this mark
abbrev pub IsMark : ℕ → Lexeme → Type 0
IsMark c t = t.text ≡ c ∷ []

-- a word, whatever it is
abbrev pub IsWord : Lexeme → Type 0
IsWord t = t.kind ≡ kind.Word

-- a token that spells this keyword, in any case
abbrev pub Spells : List ℕ → Lexeme → Type 0
Spells keyword t = same_name t.text keyword ≡ true

-- a token that stands for this, by a table of words or as a number
abbrev pub StandsFor : {A : Type 0} → (List ℕ → Option A) → A → Lexeme → Type 0
StandsFor meaning x t = meaning t.text ≡ Some x

-- a word begins with a letter, so it is no mark; each token of a text is so
abbrev pub IsToken : Lexeme → Type 0
IsToken t = IsWord t → (c : ℕ) × (more : List ℕ) × (t.text ≡ c ∷ more) × (begins_word c ≡ true)

-- ---- lists

-- one word, kept as it is
abbrev pub IsOneWord : Lexeme → List Lexeme → Type 0
IsOneWord t ts = (ts ≡ t ∷ []) × IsWord t

-- one string
abbrev pub IsOneString : Lexeme → List Lexeme → Type 0
IsOneString t ts = (ts ≡ t ∷ []) × (t.kind ≡ kind.Text)

-- no token
abbrev pub IsNothing : List Lexeme → Type 0
IsNothing ts = ts ≡ []

-- [mark]
abbrev pub IsMarkOrNothing : ℕ → List Lexeme → Type 0
IsMarkOrNothing c ts = (ts ≡ []) ⊎ ((t : Lexeme) × (ts ≡ t ∷ []) × IsMark c t)

-- {separator item} end
abbrev pub AreMore : {A : Type 0} → (Item : A → List Lexeme → Type 0) → (separator : ℕ) → (End : List Lexeme → Type 0)
    → List A → List Lexeme → Type 0
AreMore Item separator End [] ts = End ts
AreMore Item separator End (x ∷ xs) ts =
    (s : Lexeme) × (front rest : List Lexeme) × (ts ≡ s ∷ (front ++ rest)) × IsMark separator s × Item x front
    × AreMore Item separator End xs rest

-- item {separator item} end
abbrev pub AreListed : {A : Type 0} → (Item : A → List Lexeme → Type 0) → (separator : ℕ)
    → (End : List Lexeme → Type 0) → List A → List Lexeme → Type 0
AreListed Item separator End [] ts = ⊥
AreListed Item separator End (x ∷ xs) ts =
    (front rest : List Lexeme) × (ts ≡ front ++ rest) × Item x front × AreMore Item separator End xs rest

-- item {separator item}
abbrev pub IsChain : {A : Type 0} → (Item : A → List Lexeme → Type 0) → (separator : ℕ) → List A → List Lexeme → Type 0
IsChain Item separator xs ts = AreListed Item separator IsNothing xs ts

-- item {separator item} [separator]
abbrev pub IsList : {A : Type 0} → (Item : A → List Lexeme → Type 0) → (separator : ℕ) → List A → List Lexeme → Type 0
IsList Item separator xs ts = AreListed Item separator (IsMarkOrNothing separator) xs ts
