-- One more key in a list and in the tree of first places.
use Rattle.std.proofs.Common.{◌≡◌, ℕ, suc, ◌+◌, nat_lt, ◌==◌, Bool, true, false, not, cond, List, [], ◌∷◌, ◌++◌, length, Option, Some, None, refl, ap, sym, ◌∙◌, arith}
use Rattle.std.specs.List.{position, position_or_len}
use Rattle.std.specs.Option.{unwrap_or}
use Rattle.std.specs.BTreeMap.{BTreeMap, get, is_at, Updates}
use Rattle.std.specs.declared.cmp.Ordering.{Ordering}
use Rattle.std.specs.Cmp.{IsTotalOrder, eq_by_cmp_equiv}
use Rattle.std.proofs.lemmas.List.Folds.{position_or_len_push}
use Rattle.std.proofs.lemmas.List.{length-append}
use Rattle.std.proofs.lemmas.Bool.Decides.{nat_tests}
use Rattle.board_tables.specs.FirstPlaces.{AreFirst}

-- the place, or the last one where there is none and the last passes
abbrev or_last : Option ℕ → Bool → ℕ → Option ℕ
or_last (Some k) b n = Some k
or_last None b n = cond b (Some n) None

bound_at : (b : Bool) (k n : ℕ) → nat_lt n k ≡ false → nat_lt (suc n) (cond (not b) (1 + k) 0) ≡ false
bound_at true k n h = grind (arith, nat_tests)
bound_at false k n h = grind (arith, nat_tests)

position_bound : {A : Type 0} (p : A → Bool) (xs : List A) → nat_lt (length xs) (position_or_len p xs) ≡ false
position_bound p [] = refl
position_bound p (x ∷ xs) = bound_at (p x) _ _ (position_bound p xs)

last_at : (b l e : Bool) (n k : ℕ) → nat_lt k n ≡ l → (k == n) ≡ e → nat_lt n k ≡ false
    → cond (nat_lt (cond e (n + cond b 0 1) k) (n + 1)) (Some (cond e (n + cond b 0 1) k)) None ≡ or_last (cond l (Some k) None) b n
last_at true true true n k p q h = grind (arith, nat_tests)
last_at true true false n k p q h = grind (arith, nat_tests)
last_at true false true n k p q h = grind (arith, nat_tests)
last_at true false false n k p q h = grind (arith, nat_tests)
last_at false true true n k p q h = grind (arith, nat_tests)
last_at false true false n k p q h = grind (arith, nat_tests)
last_at false false true n k p q h = grind (arith, nat_tests)
last_at false false false n k p q h = grind (arith, nat_tests)

position_push : {A : Type 0} (p : A → Bool) (xs : List A) (y : A) → position p (xs ++ y ∷ []) ≡ or_last (position p xs) (p y) (length xs)
position_push p xs y =
    rw (position_or_len_push p xs y, length-append xs (y ∷ []))
    (last_at (p y) (nat_lt (position_or_len p xs) (length xs)) (position_or_len p xs == length xs) (length xs) (position_or_len p xs) refl refl (position_bound p xs))

or_none : (o : Option ℕ) (n : ℕ) → or_last o false n ≡ o
or_none None n = refl
or_none (Some k) n = refl

found_or_last : (o : Option ℕ) (n : ℕ) → Some (unwrap_or o n) ≡ or_last o true n
found_or_last None n = refl
found_or_last (Some k) n = refl

module _ {K : Type 0} (cmp : K → K → Ordering) (order : IsTotalOrder cmp) (m : BTreeMap K ℕ) (ks : List K) (first : AreFirst cmp m ks) (key : K) where
  -- a key equal to this one has the same place
  same_place : (q : K) → is_at (cmp key) q ≡ true → position (is_at (cmp q)) ks ≡ get cmp m key
  same_place q h = ap (λ t. position t ks) (λ i z. sym ((eq_by_cmp_equiv order).congr key q z h) i) ∙ sym (first key)

  turned : (q : K) → is_at (cmp q) key ≡ is_at (cmp key) q
  turned q = (eq_by_cmp_equiv order).symm q key

  pub one_more : (n : BTreeMap K ℕ) (place w : ℕ) → place ≡ length ks → w ≡ unwrap_or (get cmp m key) place → Updates cmp m n key (Some w) → AreFirst cmp n (ks ++ key ∷ [])
  one_more n place w is value u q = u.0 q ∙ by (is_at (cmp key) q) refl ∙ sym (position_push (is_at (cmp q)) ks key)
    where
      by : (b : Bool) → is_at (cmp key) q ≡ b → cond b (Some w) (get cmp m q) ≡ or_last (position (is_at (cmp q)) ks) (is_at (cmp q) key) (length ks)
      by true h = rw (same_place q h, turned q, h, value, is) (found_or_last (get cmp m key) (length ks))
      by false h = rw (turned q, h) (first q ∙ sym (or_none _ _))
