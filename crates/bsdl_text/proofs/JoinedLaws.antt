-- Strings joined by `&`, one string more.
use Rattle.std.proofs.Common.{◌≡◌, ℕ, zero, suc, ◌≤◌, ◌<◌, true, false, List, [], ◌∷◌, ◌++◌, length, refl, sym, ap, ◌∙◌, Option, arith}
use Rattle.std.proofs.lemmas.List.{append-nil, append_assoc}
use Rattle.bsdl_text.specs.Cutting.{Lexeme}
use Rattle.bsdl_text.specs.Words.{inner, text_within}
use Rattle.bsdl_text.specs.Reading.{Read, fits, misfit, ◌>>=◌, string, mark, stands, chain, joined_by}
use Rattle.bsdl_text.proofs.ListLaws.{prepend, prepend-prepend}

abbrev ampersand : ℕ
ampersand = 38

abbrev pub more : ℕ → List Lexeme → Read (List Lexeme)
more n ts = chain string ampersand n ts

is_prepended : (x : Lexeme) (r : Read (List Lexeme)) → (r >>= λ xs after. fits (x ∷ xs) after) ≡ prepend (x ∷ []) r
is_prepended x (fits xs after) = refl
is_prepended x (misfit at) = refl

none_stands : (ts : List Lexeme) → length ts ≤ 0 → stands ampersand ts ≡ true → ⊥
none_stands [] short here = cc
none_stands (t ∷ ts) short here = omega (arith, short)

at_last : (n : ℕ) (ts : List Lexeme) → stands ampersand ts ≡ false → more n ts ≡ fits [] ts
unfolding chain
at_last zero ts none = refl
at_last (suc n) ts none = rw none refl

at_string : (n : ℕ) (ts : List Lexeme) (t : Lexeme) (rest : List Lexeme) (x : Lexeme) (after : List Lexeme) → length ts ≤ n → stands ampersand ts ≡ true → mark ampersand ts ≡ fits t rest → string rest ≡ fits x after
    → length after < length ts → (m : ℕ) × (length after ≤ m) × (more n ts ≡ prepend (x ∷ []) (more m after))
unfolding chain
at_string zero ts t rest x after short here marked next less = absurd (none_stands ts short here)
at_string (suc n) ts t rest x after short here marked next less = (n, omega (arith, short, less), rw (here, marked, next) (is_prepended x (more n after)))

at_no_string : (n : ℕ) (ts : List Lexeme) (t : Lexeme) (rest : List Lexeme) (at : Option ℕ) → length ts ≤ n → stands ampersand ts ≡ true → mark ampersand ts ≡ fits t rest → string rest ≡ misfit at → more n ts ≡ misfit at
unfolding chain
at_no_string zero ts t rest at short here marked none = absurd (none_stands ts short here)
at_no_string (suc n) ts t rest at short here marked none = rw (here, marked, none) refl

joined-one : (strings : List Lexeme) (x : Lexeme) → text_within (strings ++ x ∷ []) ≡ text_within strings ++ inner x
joined-one [] x = append-nil (inner x)
joined-one (s ∷ strings) x = ap (λ us. inner s ++ us) (joined-one strings x) ∙ sym (append_assoc (inner s) (text_within strings) (inner x))

-- the text so far is that of these strings, and what is read behind them makes the whole
pub record Joining (whole : Read (List Lexeme)) (text : List ℕ) (ts : List Lexeme) : Type 0 where
  pub strings : List Lexeme
  pub rounds : ℕ
  pub enough : length ts ≤ rounds
  pub text_is : text ≡ text_within strings
  pub whole_is : whole ≡ prepend strings (more rounds ts)

pub first_joined : (ts : List Lexeme) (x : Lexeme) (rest : List Lexeme) → string ts ≡ fits x rest → Joining (joined_by string ampersand ts) (inner x) rest
first_joined ts x rest first =
    record { strings = x ∷ []; rounds = length rest; enough = omega arith; text_is = sym (append-nil (inner x)); whole_is = rw first (is_prepended x (more (length rest) rest)) }

abbrev text_of : Read (List Lexeme) → Read (List ℕ)
text_of r = r >>= λ strings rest. fits (text_within strings) rest

module _ (whole : Read (List Lexeme)) (text : List ℕ) (ts : List Lexeme) (j : Joining whole text ts) where
  pub all_joined : stands ampersand ts ≡ false → text_of whole ≡ fits text ts
  all_joined none =
      ap text_of (j.whole_is ∙ ap (prepend j.strings) (at_last j.rounds ts none)) ∙ ap (λ ss. fits (text_within ss) ts) (append-nil j.strings) ∙ ap (λ t. fits t ts) (sym j.text_is)

  pub joined_no_string : (at : Option ℕ) (t : Lexeme) (rest : List Lexeme) → stands ampersand ts ≡ true → mark ampersand ts ≡ fits t rest → string rest ≡ misfit at → text_of whole ≡ misfit at
  joined_no_string at t rest here marked none = ap text_of (j.whole_is ∙ ap (prepend j.strings) (at_no_string j.rounds ts t rest at j.enough here marked none))

  pub one_joined : (t : Lexeme) (rest : List Lexeme) (x : Lexeme) (after : List Lexeme) → stands ampersand ts ≡ true → mark ampersand ts ≡ fits t rest → string rest ≡ fits x after → length after < length ts
      → Joining whole (text ++ inner x) after
  one_joined t rest x after here marked next less =
      let step = at_string j.rounds ts t rest x after j.enough here marked next less in
      record {
        strings = j.strings ++ x ∷ [];
        rounds = step.0;
        enough = step.1;
        text_is = ap (λ us. us ++ inner x) j.text_is ∙ sym (joined-one j.strings x);
        whole_is = j.whole_is ∙ ap (prepend j.strings) step.2 ∙ prepend-prepend j.strings x (more step.0 after);
      }
