-- Rows within quotes, and their patterns, are read as they are written.
use Rattle.std.specs.Prelude.{⊤}
use Rattle.std.proofs.Common.{◌≡◌, ℕ, Bool, true, false, cond, List, [], ◌∷◌, ◌++◌, refl, sym, ap, subst, ◌∙◌, append_assoc}
use Rattle.std.specs.List.{flat_map, list_all, AllByRecursion}
use Rattle.std.proofs.lemmas.List.{append-nil}
use Rattle.bsdl_text.specs.Cutting.{Lexeme}
use Rattle.bsdl_text.specs.Marks.{comma, opening, closing}
use Rattle.bsdl_text.specs.Reading.{Read, fits, ◌>>=◌, one, mark, stands, is_over, is_mark_of, separated}
use Rattle.bsdl_device.specs.Device.{Pattern}
use Rattle.bsdl_values.specs.InstructionValues.{rows, bracketed, is_digit, are_digits, digits_on, pattern, pattern_of}
use Rattle.worked_examples.specs.Lists.{IsMark}
use Rattle.worked_examples.specs.Quoted.{AreRows, AreBracketed, IsDigits, IsPattern}
use Rattle.worked_examples.proofs.Steps.{Found, Finds, Reads, AreTokens, Anything, bound, same_read, joined_split, front_tokens, one_found, mark_found, mark_is, is_mark}
use Rattle.worked_examples.proofs.ListReads.{separated_found, separated_read}
use Rattle.worked_examples.proofs.PortReads.{other_mark}
use Rattle.worked_examples.proofs.TextReads.{Exact}

-- ---- all of the tokens

module _ {A : Type 0} (item : List Lexeme → Read A) (Item : A → List Lexeme → Type 0) where
  pub exact_found : Finds item Item → (ts : List Lexeme) (x : A) → item ts ≡ fits x [] → Item x ts
  exact_found finds ts x e = let f = finds ts x [] e in subst (Item x) (sym (f.split ∙ append-nil f.front)) f.is

  pub exact_read : (Before : List Lexeme → Type 0) → Before [] → Reads item Item Before → (ts : List Lexeme) (x : A) → AreTokens ts → Item x ts → item ts ≡ fits x []
  exact_read Before last reads ts x tokens h = ap item (sym (append-nil ts)) ∙ reads ts x [] h tokens last

  -- ---- rows

  module _ (Before : List Lexeme → Type 0) (finds : Finds item Item) (reads : Reads item Item Before)
      (behind : (s : Lexeme) (ts : List Lexeme) → IsMark comma s → Before (s ∷ ts)) where
    pub rows_exact : Before [] → ((x : A) (front : List Lexeme) → Item x front → (t : Lexeme) × (ts : List Lexeme) × (front ≡ t ∷ ts)) → Exact (rows item) (AreRows Item)
    rows_exact last some = record {
      found = exact_found_rows;
      read = λ ts xs tokens h.
          ap (rows item) (sym (append-nil ts)) ∙ separated_read item Item Before comma reads behind is_over (λ s us m. refl)
          (λ x front us h t. let p = some x front h in subst (λ vs. is_over (vs ++ us) ≡ false) (sym p.2) refl) ts xs [] h tokens refl last;
    }
      where
        exact_found_rows : (ts : List Lexeme) (xs : List A) → rows item ts ≡ fits xs [] → AreRows Item xs ts
        exact_found_rows ts xs e =
            let f = separated_found item Item comma finds is_over ts xs [] e in
            subst (AreRows Item xs) (sym (f.split ∙ append-nil f.front)) f.is

    abbrev behind_list : List A → List Lexeme → Read (List A)
    behind_list xs b = mark closing b >>= λ n c. fits xs c

    abbrev behind_opening : Lexeme → List Lexeme → Read (List A)
    behind_opening m a = separated item comma (stands closing) a >>= behind_list

    pub bracketed_found : Finds (bracketed item) (AreBracketed Item)
    bracketed_found ts xs rest e =
        let b1 = bound (mark opening ts) behind_opening xs rest e in
        let m = mark_found opening ts b1.x b1.more b1.first in
        let b2 = bound (separated item comma (stands closing) b1.more) behind_list xs rest b1.next in
        let f = separated_found item Item comma finds (stands closing) b1.more b2.x b2.more b2.first in
        let b3 = bound (mark closing b2.more) (λ n c. fits b2.x c) xs rest b2.next in
        let k = mark_found closing b2.more b3.x b3.more b3.first in
        let s = same_read b2.x xs b3.more rest b3.next in
        let end : b2.more ≡ (b3.x ∷ []) ++ rest = cc (k.0, s.1) in
        let inner : b1.more ≡ (f.front ++ b3.x ∷ []) ++ rest = joined_split b1.more f.front b2.more (b3.x ∷ []) rest f.split end in
        subst (λ ys. Found (AreBracketed Item) ys ts rest) s.0
        (record {
          front = b1.x ∷ (f.front ++ b3.x ∷ []);
          split = m.0 ∙ ap (λ (us : List Lexeme). b1.x ∷ us) inner;
          is = (b1.x, b3.x, f.front, refl, m.1, f.is, k.1);
        })

    pub bracketed_read : ((s : Lexeme) (ts : List Lexeme) → IsMark closing s → Before (s ∷ ts)) → ((x : A) (front ts : List Lexeme) → Item x front → AreTokens front → stands closing (front ++ ts) ≡ false) → Reads (bracketed item) (AreBracketed Item) Anything
    bracketed_read shut opens front xs rest h tokens b =
        let m = h.0 in
        let k = h.1 in
        let listed = h.2 in
        let all = subst AreTokens h.3 tokens in
        let parts : (s : Lexeme) (ts : List Lexeme) → IsMark comma s → stands closing (s ∷ ts) ≡ false = λ s ts i. other_mark comma closing s i refl in
        let here : separated item comma (stands closing) (listed ++ k ∷ rest) ≡ fits xs (k ∷ rest) =
        separated_read item Item Before comma reads behind (stands closing) parts opens listed xs (k ∷ rest) h.5 (front_tokens listed (k ∷ []) all.1) (mark_is closing k h.6) (shut k rest h.6) in
        let whole : bracketed item (m ∷ (listed ++ k ∷ rest)) ≡ fits xs rest = rw (mark_is opening m h.4, here, mark_is closing k h.6) refl in
        subst (λ us. bracketed item (us ++ rest) ≡ fits xs rest) (sym h.3) (ap (λ (us : List Lexeme). bracketed item (m ∷ us)) (append_assoc listed (k ∷ []) rest) ∙ whole)

-- ---- patterns

abbrev pub texts : List Lexeme → List ℕ
texts ts = flat_map (λ t. t.text) ts

-- digits, as far as they go
abbrev AreDigits : List ℕ → List Lexeme → Type 0
AreDigits ds ts = AllByRecursion IsDigits ts × (ds ≡ texts ts)

digits_by : (t : Lexeme) (ts : List Lexeme) (test : Bool) (ds : List ℕ) (rest : List Lexeme) → are_digits t ≡ test → cond test (digits_on ts >>= λ ds rest. fits (t.text ++ ds) rest) (fits [] (t ∷ ts)) ≡ fits ds rest → ((x : List ℕ) (r : List Lexeme) → digits_on ts ≡ fits x r → Found AreDigits x ts r)
    → Found AreDigits ds (t ∷ ts) rest
digits_by t ts true ds rest is e again =
    let b = bound (digits_on ts) (λ ds rest. fits (t.text ++ ds) rest) ds rest e in
    let f = again b.x b.more b.first in
    let s = same_read (t.text ++ b.x) ds b.more rest b.next in
    record { front = t ∷ f.front; split = ap (λ (us : List Lexeme). t ∷ us) (f.split ∙ ap (λ (us : List Lexeme). f.front ++ us) s.1); is = ((is, f.is.0), sym s.0 ∙ ap (λ (x : List ℕ). t.text ++ x) f.is.1) }
digits_by t ts false ds rest is e again =
    let s = same_read [] ds (t ∷ ts) rest e in
    record { front = []; split = s.1; is = (tt, sym s.0) }

digits_found : Finds digits_on AreDigits
unfolding digits_on
digits_found [] ds rest e = let s = same_read [] ds [] rest e in record { front = []; split = s.1; is = (tt, sym s.0) }
digits_found (t ∷ ts) ds rest e = digits_by t ts (are_digits t) ds rest refl e (digits_found ts)

-- tokens that do not begin with digits
abbrev pub NoDigits : List Lexeme → Type 0
NoDigits [] = ⊤
NoDigits (t ∷ ts) = are_digits t ≡ false

digits_end : (rest : List Lexeme) → NoDigits rest → digits_on rest ≡ fits [] rest
unfolding digits_on
digits_end [] h = refl
digits_end (t ∷ ts) h = rw h refl

digits_read : (front rest : List Lexeme) → AllByRecursion IsDigits front → NoDigits rest → digits_on (front ++ rest) ≡ fits (texts front) rest
unfolding digits_on
digits_read [] rest all end = digits_end rest end
digits_read (t ∷ ts) rest all end = rw (all.0, digits_read ts rest all.1 end) refl

pub pattern_found : Finds pattern IsPattern
pattern_found ts p rest e =
    let b1 = bound (one are_digits ts) (λ t a. digits_on a >>= λ ds b. fits (pattern_of (t.text ++ ds)) b) p rest e in
    let d = one_found are_digits ts b1.x b1.more b1.first in
    let b2 = bound (digits_on b1.more) (λ ds b. fits (pattern_of (b1.x.text ++ ds)) b) p rest b1.next in
    let f = digits_found b1.more b2.x b2.more b2.first in
    let s = same_read (pattern_of (b1.x.text ++ b2.x)) p b2.more rest b2.next in
    record {
      front = b1.x ∷ f.front;
      split = d.0 ∙ ap (λ (us : List Lexeme). b1.x ∷ us) (f.split ∙ ap (λ (us : List Lexeme). f.front ++ us) s.1);
      is = (b1.x, f.front, refl, (d.1, f.is.0), sym s.0 ∙ ap (λ (x : List ℕ). pattern_of (b1.x.text ++ x)) f.is.1);
    }

pub pattern_read : Reads pattern IsPattern NoDigits
pattern_read front p rest h tokens end =
    let all = subst (AllByRecursion IsDigits) h.2 h.3 in
    let value : pattern_of (texts (h.0 ∷ h.1)) ≡ p = ap (λ (us : List Lexeme). pattern_of (texts us)) (sym h.2) ∙ sym h.4 in
    let whole : pattern (h.0 ∷ (h.1 ++ rest)) ≡ fits (pattern_of (texts (h.0 ∷ h.1))) rest = rw (all.0, digits_read h.1 rest all.1 end) refl in
    subst (λ us. pattern (us ++ rest) ≡ fits p rest) (sym h.2) (whole ∙ ap (λ (q : Pattern). fits q rest) value)

pub pattern_some : (p : Pattern) (front : List Lexeme) → IsPattern p front → (t : Lexeme) × (ts : List Lexeme) × (front ≡ t ∷ ts)
pattern_some p front h = (h.0, h.1, h.2)

-- digits are no mark
digits_by_mark : (c : ℕ) (t : Lexeme) (b : Bool) → list_all is_digit (c ∷ []) ≡ false → are_digits t ≡ true → is_mark_of c t ≡ b → b ≡ false
digits_by_mark c t false none digits is = refl
digits_by_mark c t true none digits is =
    absurd (let f : true ≡ false = sym digits ∙ ap (list_all is_digit) (is_mark c t is) ∙ none in cc)

pub pattern_opens : (p : Pattern) (front ts : List Lexeme) → IsPattern p front → AreTokens front → stands closing (front ++ ts) ≡ false
pattern_opens p front ts h tokens =
    let all = subst (AllByRecursion IsDigits) h.2 h.3 in
    subst (λ us. stands closing (us ++ ts) ≡ false) (sym h.2) (digits_by_mark closing h.0 (is_mark_of closing h.0) refl all.0 refl)

pub mark_no_digits : (c : ℕ) (s : Lexeme) → list_all is_digit (c ∷ []) ≡ false → IsMark c s → are_digits s ≡ false
mark_no_digits c s none h = ap (list_all is_digit) h ∙ none

pub comma_no_digits : (s : Lexeme) (ts : List Lexeme) → IsMark comma s → NoDigits (s ∷ ts)
comma_no_digits s ts h = mark_no_digits comma s refl h

pub closing_no_digits : (s : Lexeme) (ts : List Lexeme) → IsMark closing s → NoDigits (s ∷ ts)
closing_no_digits s ts h = mark_no_digits closing s refl h
