-- Reading tokens from left to right: what fits, and the first token that does not.
use Rattle.std.specs.Prelude.{ℕ, zero, suc, Bool, true, false, if◌then◌else◌, List, [], ◌∷◌, length, Option, Some}
use Rattle.std.specs.Prelude.{None, bytes_eq}
use Rattle.std.specs.List.{list_all}
use Rattle.std.specs.Char.{is_ascii_digit}
use Rattle.std.specs.Str.Parse.{digits_value}
use Rattle.bsdl_text.specs.declared.tokens.Kind.{Kind}
use Rattle.bsdl_text.specs.declared.tokens.Kind.TheVariants as kind
use Rattle.bsdl_text.specs.Cutting.{Lexeme, tokens, bad_place, cuts_of}
use Rattle.bsdl_text.specs.Words.{text_within}

-- what is read at the front of tokens, and the tokens behind it; or where the first token that does not fit stands,
-- which is None at the end
pub data Read (A : Type 0) : Type 0 where
  fits : A → List Lexeme → Read A
  misfit : Option ℕ → Read A

-- one after the other
infixl 10 ◌>>=◌
abbrev pub ◌>>=◌ : {A B : Type 0} → Read A → (A → List Lexeme → Read B) → Read B
(fits x rest) >>= f = f x rest
(misfit at) >>= f = misfit at

-- where the first token stands
abbrev pub front_place : List Lexeme → Option ℕ
front_place [] = None
front_place (t ∷ ts) = Some t.start

-- what stands at the front does not fit
abbrev pub refused_at : {A : Type 0} → List Lexeme → Read A
refused_at ts = misfit (front_place ts)

-- a token that passes a test
abbrev pub one : (Lexeme → Bool) → List Lexeme → Read Lexeme
one test [] = misfit None
one test (t ∷ ts) = if test t then fits t ts else misfit (Some t.start)

abbrev pub is_word_kind : Kind → Bool
is_word_kind kind.Word = true
is_word_kind _ = false

abbrev pub is_text_kind : Kind → Bool
is_text_kind kind.Text = true
is_text_kind _ = false

-- a word, whatever it is
abbrev pub word : List Lexeme → Read Lexeme
word ts = one (λ t. is_word_kind t.kind) ts

-- a string
abbrev pub string : List Lexeme → Read Lexeme
string ts = one (λ t. is_text_kind t.kind) ts

abbrev pub is_mark_of : ℕ → Lexeme → Bool
is_mark_of c t = bytes_eq t.text (c ∷ [])

-- this mark
abbrev pub mark : ℕ → List Lexeme → Read Lexeme
mark c ts = one (is_mark_of c) ts

-- whether this mark stands at the front
abbrev pub stands : ℕ → List Lexeme → Bool
stands c [] = false
stands c (t ∷ ts) = is_mark_of c t

abbrev pub is_over : List Lexeme → Bool
is_over [] = true
is_over (t ∷ ts) = false

-- what the first token stands for, where it stands for something
abbrev pub meant : {A : Type 0} → Option A → ℕ → List Lexeme → Read A
meant None place rest = misfit (Some place)
meant (Some x) place rest = fits x rest

abbrev pub keyword : {A : Type 0} → (List ℕ → Option A) → List Lexeme → Read A
keyword meaning [] = misfit None
keyword meaning (t ∷ ts) = meant (meaning t.text) t.start ts

-- digits alone, of any length
abbrev pub whole_number : List ℕ → Option ℕ
whole_number text = if list_all is_ascii_digit text then Some (digits_value 10 text) else None

abbrev pub number : List Lexeme → Read ℕ
number ts = keyword whole_number ts

-- `{separator one}`, as far as separators stand; each takes a token, so there are at most `n` on n tokens
unfoldable pub chain : {A : Type 0} → (List Lexeme → Read A) → (separator : ℕ) → ℕ → List Lexeme → Read (List A)
chain item separator zero ts = fits [] ts
chain item separator (suc n) ts =
    if stands separator ts
    then (mark separator ts >>= λ m rest. item rest >>= λ x more. chain item separator n more >>=
    λ xs after. fits (x ∷ xs) after)
    else fits [] ts

-- `one {separator one}`
abbrev pub joined_by : {A : Type 0} → (List Lexeme → Read A) → (separator : ℕ) → List Lexeme → Read (List A)
joined_by item separator ts =
    item ts >>= λ x rest. chain item separator (length rest) rest >>= λ xs after. fits (x ∷ xs) after

-- `{separator one} [separator]`, up to where the list closes
unfoldable pub further : {A : Type 0} → (List Lexeme → Read A) → (separator : ℕ) → (closes : List Lexeme → Bool) → ℕ
    → List Lexeme → Read (List A)
further item separator closes zero ts = if closes ts then fits [] ts else refused_at ts
further item separator closes (suc n) ts =
    if closes ts then fits [] ts
    else mark separator ts >>= λ m rest.
    if closes rest then fits [] rest
    else item rest >>= λ x more. further item separator closes n more >>= λ xs after. fits (x ∷ xs) after

-- `one {separator one} [separator]`, up to where the list closes
abbrev pub separated : {A : Type 0} → (List Lexeme → Read A) → (separator : ℕ) → (closes : List Lexeme → Bool)
    → List Lexeme → Read (List A)
separated item separator closes ts =
    item ts >>= λ x rest. further item separator closes (length rest) rest >>= λ xs after. fits (x ∷ xs) after

-- the text of a string, or of several joined by `&`
abbrev pub joined_text : List Lexeme → Read (List ℕ)
joined_text ts = joined_by string 38 ts >>= λ strings rest. fits (text_within strings) rest

-- what the text within quotes says as a whole
abbrev pub complete : {A : Type 0} → Option ℕ → Read A → Option A
complete None (fits x []) = Some x
complete None (fits x (t ∷ ts)) = None
complete None (misfit at) = None
complete (Some place) r = None

abbrev pub quoted_value : {A : Type 0} → (List Lexeme → Read A) → List ℕ → Option A
quoted_value item text = complete (bad_place (cuts_of true text)) (item (tokens (cuts_of true text)))
