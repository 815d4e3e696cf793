-- A word that goes through the links of a chain, from the last on.
use Rattle.std.proofs.Common.{◌≡◌, ℕ, zero, suc, ◌<◌, ◌≤◌, Bool, List, [], ◌∷◌, ◌++◌, length, take, drop, set, get_or, map, refl, sym, ap, subst, ◌∙◌, arith, append_assoc, length-append}
use Rattle.std.proofs.Math.Seq.{drop-append_seam, take-append_seam}
use Rattle.std.proofs.lemmas.List.{take-append-drop, take-append-le, drop-append-le, length-take, length-drop, length-set, get_or-take}
use Rattle.board_chain.specs.Rows.{joined_registers, IsCutBack}
use Rattle.board_chain.specs.Words.{word_bits}
use Rattle.jt_bits.proofs.WordShifts.{length-word}

-- ---- one register, what stands behind it, and a word

module _ (r rest word through : List Bool) (n : ℕ) (long : length word ≡ n) (is : through ≡ take n (rest ++ word)) where
  abbrev behind : List Bool
  behind = drop n (rest ++ word)

  through-long : length through ≡ n
  through-long = ap (λ (l : List Bool). length l) is ∙ omega (arith, length-take n (rest ++ word), length-append rest word, long)

  passing : (r ++ rest) ++ word ≡ (r ++ through) ++ behind
  passing =
      append_assoc r rest word ∙ ap (λ (l : List Bool). r ++ l) (sym (take-append-drop n (rest ++ word)) ∙ ap (λ (l : List Bool). l ++ behind) (sym is))
      ∙ sym (append_assoc r through behind)

  long-front : n ≤ length (r ++ through)
  long-front = omega (arith, length-append r through, through-long)

  stays : drop n ((r ++ rest) ++ word) ≡ drop n (r ++ through) ++ behind
  stays = ap (drop n) passing ∙ drop-append-le n (r ++ through) behind long-front

  part-long : length (drop n (r ++ through)) ≡ length r
  part-long = omega (arith, length-drop n (r ++ through), length-append r through, through-long)

  -- what the register takes
  pub its_part : take (length r) (drop n ((r ++ rest) ++ word)) ≡ drop n (r ++ through)
  its_part =
      ap (take (length r)) stays ∙ ap (λ (k : ℕ). take k (drop n (r ++ through) ++ behind)) (sym part-long)
      ∙ take-append_seam (drop n (r ++ through)) behind

  -- what those behind it take
  pub other_parts : drop (length r) (drop n ((r ++ rest) ++ word)) ≡ drop n (rest ++ word)
  other_parts =
      ap (drop (length r)) stays ∙ ap (λ (k : ℕ). drop k (drop n (r ++ through) ++ behind)) (sym part-long)
      ∙ drop-append_seam (drop n (r ++ through)) behind

  -- what leaves it
  pub leaves : take n (r ++ through) ≡ take n ((r ++ rest) ++ word)
  leaves = sym (ap (take n) passing ∙ take-append-le n (r ++ through) behind long-front)

-- ---- the links

from_place : {A : Type 0} (xs : List A) (k : ℕ) (d : A) → k < length xs → drop k xs ≡ get_or xs k d ∷ drop (suc k) xs
from_place [] k d h = absurd (omega arith)
from_place (x ∷ xs) zero d h = refl
from_place (x ∷ xs) (suc k) d h = from_place xs k d (omega arith)

set_place : {A : Type 0} (xs : List A) (k : ℕ) (y : A) → k < length xs → drop k (set xs k y) ≡ y ∷ drop (suc k) xs
set_place [] k y h = absurd (omega arith)
set_place (x ∷ xs) zero y h = refl
set_place (x ∷ xs) (suc k) y h = set_place xs k y (omega arith)

set_behind : {A : Type 0} (xs : List A) (k : ℕ) (y : A) → take k (set xs k y) ≡ take k xs
set_behind [] k y = refl
set_behind (x ∷ xs) zero y = refl
set_behind (x ∷ xs) (suc k) y = ap (λ l. x ∷ l) (set_behind xs k y)

shorter : {A : Type 0} (xs ys : List A) (k : ℕ) → take (suc k) xs ≡ take (suc k) ys → take k xs ≡ take k ys
shorter xs ys k e = sym (again xs k) ∙ ap (take k) e ∙ again ys k
  where
    again : {A : Type 0} (l : List A) (k : ℕ) → take k (take (suc k) l) ≡ take k l
    again [] zero = refl
    again [] (suc k) = refl
    again (x ∷ l) zero = refl
    again (x ∷ l) (suc k) = ap (λ m. x ∷ m) (again l k)

past_end : {A : Type 0} (xs : List A) (k : ℕ) → length xs ≤ k → drop k xs ≡ []
past_end [] zero h = refl
past_end [] (suc k) h = refl
past_end (x ∷ xs) zero h = absurd (omega arith)
past_end (x ∷ xs) (suc k) h = past_end xs k (omega arith)

-- The links from place i on have taken their parts, those before it are as they were, and `entering` goes into the one before place i.
pub record Through {A : Type 0} (register : A → List Bool) (is_put : A → List Bool → A → Type 0) (olds now : List A) (i word n entering : ℕ) : Type 0 where
  pub count : length now ≡ length olds
  pub front : take i now ≡ take i olds
  pub cut : IsCutBack register is_put (drop n (joined_registers (map register (drop i olds)) ++ word_bits word n)) (drop i olds) (drop i now)
  pub enters : word_bits entering n ≡ take n (joined_registers (map register (drop i olds)) ++ word_bits word n)

take_word : (xs : List Bool) (n : ℕ) → length xs ≡ n → xs ≡ take n xs
take_word [] zero e = refl
take_word [] (suc n) e = absurd (omega (arith, e))
take_word (x ∷ xs) zero e = absurd (omega (arith, e))
take_word (x ∷ xs) (suc n) e = ap (λ (l : List Bool). x ∷ l) (take_word xs n (omega (arith, e)))

pub through_none : {A : Type 0} (register : A → List Bool) (is_put : A → List Bool → A → Type 0) (olds : List A) (i word n : ℕ) → i ≡ length olds → Through register is_put olds olds i word n word
through_none register is_put olds i word n end =
    let none : drop i olds ≡ [] = past_end olds i (omega (arith, end)) in
    record {
      count = refl;
      front = refl;
      cut = subst (λ l. IsCutBack register is_put (drop n (joined_registers (map register l) ++ word_bits word n)) l l) (sym none) tt;
      enters = subst (λ l. word_bits word n ≡ take n (joined_registers (map register l) ++ word_bits word n)) (sym none) (take_word (word_bits word n) n (length-word word n));
    }

pub through_more : {A : Type 0} (register : A → List Bool) (is_put : A → List Bool → A → Type 0) (olds now : List A) (i k word n entering leaving : ℕ) (d x y : A)
    → i ≡ suc k → k < length now → get_or now k d ≡ x → Through register is_put olds now i word n entering
    → is_put x (drop n (register x ++ word_bits entering n)) y → word_bits leaving n ≡ take n (register x ++ word_bits entering n)
    → Through register is_put olds (set now k y) k word n leaving
through_more register is_put olds now i k word n entering leaving d x y next h at so put out =
    let front : take (suc k) now ≡ take (suc k) olds = subst (λ (m : ℕ). take m now ≡ take m olds) next so.front in
    let in_olds : k < length olds = omega (arith, h, so.count) in
    let same : get_or olds k d ≡ x =
    sym (get_or-take (suc k) olds k d (omega arith)) ∙ ap (λ l. get_or l k d) (sym front) ∙ get_or-take (suc k) now k d (omega arith) ∙ at in
    let old : drop k olds ≡ x ∷ drop (suc k) olds = from_place olds k d in_olds ∙ ap (λ a. a ∷ drop (suc k) olds) same in
    let new : drop k (set now k y) ≡ y ∷ drop (suc k) now = set_place now k y h in
    let rest = joined_registers (map register (drop (suc k) olds)) in
    let cut = subst (λ (m : ℕ). IsCutBack register is_put (drop n (joined_registers (map register (drop m olds)) ++ word_bits word n)) (drop m olds) (drop m now)) next so.cut in
    let enters = subst (λ (m : ℕ). word_bits entering n ≡ take n (joined_registers (map register (drop m olds)) ++ word_bits word n)) next so.enters in
    let r = register x in
    let w = word_bits word n in
    let e = word_bits entering n in
    record {
      count = length-set now k y ∙ so.count;
      front = set_behind now k y ∙ shorter now olds k front;
      cut = subst (λ l. IsCutBack register is_put (drop n (joined_registers (map register l) ++ w)) l (drop k (set now k y))) (sym old)
          (subst (λ l. IsCutBack register is_put (drop n ((r ++ rest) ++ w)) (x ∷ drop (suc k) olds) l) (sym new) (
            subst (λ (b : List Bool). is_put x b y) (sym (its_part r rest w e n (length-word word n) enters)) put,
            subst (λ (b : List Bool). IsCutBack register is_put b (drop (suc k) olds) (drop (suc k) now)) (sym (other_parts r rest w e n (length-word word n) enters)) cut,
          ));
      enters = subst (λ l. word_bits leaving n ≡ take n (joined_registers (map register l) ++ w)) (sym old)
          (out ∙ leaves r rest w e n (length-word word n) enters);
    }

pub through_all : {A : Type 0} (register : A → List Bool) (is_put : A → List Bool → A → Type 0) (olds now : List A) (i word n entering : ℕ) → i ≡ 0 → Through register is_put olds now i word n entering
    → IsCutBack register is_put (drop n (joined_registers (map register olds) ++ word_bits word n)) olds now
through_all register is_put olds now i word n entering none so =
    subst (λ (m : ℕ). IsCutBack register is_put (drop n (joined_registers (map register (drop m olds)) ++ word_bits word n)) (drop m olds) (drop m now)) none so.cut
