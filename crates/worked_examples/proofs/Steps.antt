-- Readers one after another, and tokens one by one.
use Rattle.std.specs.Prelude.{⊤}
use Rattle.std.proofs.Common.{◌≡◌, ℕ, Bool, true, false, cond, List, [], ◌∷◌, ◌++◌, Option, Some, None, refl, sym, ap, ◌∙◌, append_assoc}
use Rattle.std.specs.List.{AllByRecursion}
use Rattle.std.proofs.lemmas.Slice.Eq.{bytes_eq-Decides}
use Rattle.bsdl_text.specs.declared.tokens.Kind.{Kind}
use Rattle.bsdl_text.specs.declared.tokens.Kind.TheVariants as kind
use Rattle.bsdl_text.specs.Cutting.{Lexeme}
use Rattle.bsdl_text.specs.Words.{same_name}
use Rattle.bsdl_text.specs.Reading.{Read, fits, misfit, ◌>>=◌, one, word, string, mark, is_mark_of, is_word_kind, is_text_kind, meant, keyword}
use Rattle.bsdl_entity.specs.Keywords.{is_word, this_word}
use Rattle.worked_examples.specs.Lists.{IsMark, IsWord, Spells, StandsFor, IsToken}

-- ---- what a reader finds, and what it reads

-- tokens in front, which are this, and the rest
pub record Found {A : Type 0} (Is : A → List Lexeme → Type 0) (x : A) (ts rest : List Lexeme) : Type 0 where
  pub front : List Lexeme
  pub split : ts ≡ front ++ rest
  pub is : Is x front

abbrev pub Finds : {A : Type 0} → (List Lexeme → Read A) → (A → List Lexeme → Type 0) → Type 0
Finds {A} r Is = (ts : List Lexeme) (x : A) (rest : List Lexeme) → r ts ≡ fits x rest → Found Is x ts rest

abbrev pub AreTokens : List Lexeme → Type 0
AreTokens ts = AllByRecursion IsToken ts

-- it reads all that is so, before a rest of which this is true
abbrev pub Reads : {A : Type 0} → (List Lexeme → Read A) → (A → List Lexeme → Type 0) → (Before : List Lexeme → Type 0) → Type 0
Reads {A} r Is Before = (front : List Lexeme) (x : A) (rest : List Lexeme) → Is x front → AreTokens front → Before rest → r (front ++ rest) ≡ fits x rest

abbrev pub Anything : List Lexeme → Type 0
Anything ts = ⊤

pub record Bound {A B : Type 0} (r : Read A) (f : A → List Lexeme → Read B) (y : B) (rest : List Lexeme) : Type 0 where
  pub x : A
  pub more : List Lexeme
  pub first : r ≡ fits x more
  pub next : f x more ≡ fits y rest

pub bound : {A B : Type 0} (r : Read A) (f : A → List Lexeme → Read B) (y : B) (rest : List Lexeme) → (r >>= f) ≡ fits y rest → Bound r f y rest
bound (fits x more) f y rest e = record { x = x; more = more; first = refl; next = e }
bound (misfit at) f y rest e = absurd cc

-- both parts of an equation of what was read
pub same_read : {A : Type 0} (x y : A) (ts rest : List Lexeme) → fits x ts ≡ fits y rest → (x ≡ y) × (ts ≡ rest)
same_read x y ts rest e = (cc, cc)

pub if_fits : {A : Type 0} (b : Bool) (at : Option ℕ) (r : Read A) (x : A) (rest : List Lexeme) → cond b r (misfit at) ≡ fits x rest → (b ≡ true) × (r ≡ fits x rest)
if_fits true at r x rest e = (refl, e)
if_fits false at r x rest e = absurd cc

-- two parts, one behind the other
pub joined_split : (ts front middle more rest : List Lexeme) → ts ≡ front ++ middle → middle ≡ more ++ rest → ts ≡ (front ++ more) ++ rest
joined_split ts front middle more rest a b = a ∙ ap (λ (x : List Lexeme). front ++ x) b ∙ sym (append_assoc front more rest)

-- tokens of two parts
pub front_tokens : (xs ys : List Lexeme) → AreTokens (xs ++ ys) → AreTokens xs
front_tokens [] ys h = tt
front_tokens (x ∷ xs) ys h = (h.0, front_tokens xs ys h.1)

pub back_tokens : (xs ys : List Lexeme) → AreTokens (xs ++ ys) → AreTokens ys
back_tokens [] ys h = h
back_tokens (x ∷ xs) ys h = back_tokens xs ys h.1

-- ---- one token

one_by : (test : Lexeme → Bool) (u : Lexeme) (us : List Lexeme) (b : Bool) (t : Lexeme) (rest : List Lexeme) → test u ≡ b → cond b (fits u us) (misfit (Some u.start)) ≡ fits t rest → (u ∷ us ≡ t ∷ rest) × (test t ≡ true)
one_by test u us true t rest is e =
    let s = same_read u t us rest e in
    (cc (s.0, s.1), ap test (sym s.0) ∙ is)
one_by test u us false t rest is e = absurd cc

pub one_found : (test : Lexeme → Bool) (ts : List Lexeme) (t : Lexeme) (rest : List Lexeme) → one test ts ≡ fits t rest → (ts ≡ t ∷ rest) × (test t ≡ true)
one_found test [] t rest e = absurd cc
one_found test (u ∷ us) t rest e = one_by test u us (test u) t rest refl e

pub mark_is : (c : ℕ) (t : Lexeme) → IsMark c t → is_mark_of c t ≡ true
mark_is c t h = (bytes_eq-Decides t.text (c ∷ [])).1 h

pub is_mark : (c : ℕ) (t : Lexeme) → is_mark_of c t ≡ true → IsMark c t
is_mark c t h = (bytes_eq-Decides t.text (c ∷ [])).0 h

pub mark_found : (c : ℕ) (ts : List Lexeme) (t : Lexeme) (rest : List Lexeme) → mark c ts ≡ fits t rest → (ts ≡ t ∷ rest) × IsMark c t
mark_found c ts t rest e = let o = one_found (is_mark_of c) ts t rest e in (o.0, is_mark c t o.1)

pub mark_read : (c : ℕ) (t : Lexeme) (rest : List Lexeme) → IsMark c t → mark c (t ∷ rest) ≡ fits t rest
mark_read c t rest h = rw (mark_is c t h) refl

pub word_kind : (k : Kind) → is_word_kind k ≡ true → k ≡ kind.Word
word_kind kind.Word h = refl
word_kind kind.Number h = absurd cc
word_kind kind.Text h = absurd cc
word_kind kind.Mark h = absurd cc

text_kind : (k : Kind) → is_text_kind k ≡ true → k ≡ kind.Text
text_kind kind.Text h = refl
text_kind kind.Number h = absurd cc
text_kind kind.Word h = absurd cc
text_kind kind.Mark h = absurd cc

pub word_is : (t : Lexeme) → IsWord t → is_word_kind t.kind ≡ true
word_is t h = ap is_word_kind h

pub word_found : (ts : List Lexeme) (t : Lexeme) (rest : List Lexeme) → word ts ≡ fits t rest → (ts ≡ t ∷ rest) × IsWord t
word_found ts t rest e = let o = one_found (λ t. is_word_kind t.kind) ts t rest e in (o.0, word_kind t.kind o.1)

pub word_read : (t : Lexeme) (rest : List Lexeme) → IsWord t → word (t ∷ rest) ≡ fits t rest
word_read t rest h = rw h refl

pub string_found : (ts : List Lexeme) (t : Lexeme) (rest : List Lexeme) → string ts ≡ fits t rest → (ts ≡ t ∷ rest) × (t.kind ≡ kind.Text)
string_found ts t rest e = let o = one_found (λ t. is_text_kind t.kind) ts t rest e in (o.0, text_kind t.kind o.1)

pub string_read : (t : Lexeme) (rest : List Lexeme) → t.kind ≡ kind.Text → string (t ∷ rest) ≡ fits t rest
string_read t rest h = rw h refl

pub record Meant {A : Type 0} (meaning : List ℕ → Option A) (ts : List Lexeme) (x : A) (rest : List Lexeme) : Type 0 where
  pub token : Lexeme
  pub split : ts ≡ token ∷ rest
  pub is : StandsFor meaning x token

meant_by : {A : Type 0} (meaning : List ℕ → Option A) (t : Lexeme) (ts : List Lexeme) (o : Option A) (x : A) (rest : List Lexeme) → meaning t.text ≡ o → meant o t.start ts ≡ fits x rest → Meant meaning (t ∷ ts) x rest
meant_by meaning t ts None x rest is e = absurd cc
meant_by meaning t ts (Some y) x rest is e =
    let s = same_read y x ts rest e in
    record { token = t; split = ap (λ (us : List Lexeme). t ∷ us) s.1; is = is ∙ ap (λ z. Some z) s.0 }

pub keyword_found : {A : Type 0} (meaning : List ℕ → Option A) (ts : List Lexeme) (x : A) (rest : List Lexeme) → keyword meaning ts ≡ fits x rest → Meant meaning ts x rest
keyword_found meaning [] x rest e = absurd cc
keyword_found meaning (t ∷ ts) x rest e = meant_by meaning t ts (meaning t.text) x rest refl e

pub keyword_read : {A : Type 0} (meaning : List ℕ → Option A) (t : Lexeme) (x : A) (rest : List Lexeme) → StandsFor meaning x t → keyword meaning (t ∷ rest) ≡ fits x rest
keyword_read meaning t x rest h = rw h refl

spelt_by : (test b : Bool) → cond test (Some true) None ≡ Some b → test ≡ true
spelt_by true b e = refl
spelt_by false b e = absurd cc

pub record Spelt (w : List ℕ) (ts rest : List Lexeme) : Type 0 where
  pub token : Lexeme
  pub split : ts ≡ token ∷ rest
  pub is : Spells w token

pub this_found : (w : List ℕ) (ts : List Lexeme) (b : Bool) (rest : List Lexeme) → this_word w ts ≡ fits b rest → Spelt w ts rest
this_found w ts b rest e =
    let m = keyword_found (is_word w) ts b rest e in
    record { token = m.token; split = m.split; is = spelt_by (same_name m.token.text w) b m.is }

pub this_read : (w : List ℕ) (t : Lexeme) (rest : List Lexeme) → Spells w t → this_word w (t ∷ rest) ≡ fits true rest
this_read w t rest h = rw h refl
