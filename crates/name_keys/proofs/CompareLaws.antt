-- Names compared by their ends, and byte by byte.
use Rattle.std.proofs.Common.{◌≡◌, ◌≤◌, ℕ, zero, suc, List, [], ◌∷◌, map, length, take, drop, min, refl, sym, ap, ◌∙◌, arith}
use Rattle.std.specs.Char.{to_ascii_uppercase}
use Rattle.std.specs.Cmp.Lexicographic.{slice_cmp}
use Rattle.std.specs.Ordering.{nat_cmp, ordering_then}
use Rattle.std.specs.declared.cmp.Ordering.{Ordering}
use Rattle.std.proofs.lemmas.Bool.Decides.{nat_tests}
use Rattle.std.proofs.lemmas.Cmp.{nat_cmp_total, tied_itself}
use Rattle.name_keys.specs.Keys.{end_of, key_order}

more : (a b : ℕ) → nat_cmp (suc a) (suc b) ≡ nat_cmp a b
more a b = grind (arith, nat_tests)

-- behind what both have, the lengths decide
pub order_ends : (xs ys : List ℕ) (i : ℕ) → i ≡ min (length xs) (length ys)
    → nat_cmp (length xs) (length ys) ≡ slice_cmp nat_cmp (map to_ascii_uppercase (drop i xs)) (map to_ascii_uppercase (drop i ys))
order_ends [] [] zero is = refl
order_ends [] (y ∷ ys) zero is = grind (arith, nat_tests)
order_ends (x ∷ xs) [] zero is = grind (arith, nat_tests)
order_ends (x ∷ xs) (y ∷ ys) zero is = absurd (omega arith)
order_ends [] ys (suc i) is = absurd (omega arith)
order_ends (x ∷ xs) [] (suc i) is = absurd (omega arith)
order_ends (x ∷ xs) (y ∷ ys) (suc i) is = more (length xs) (length ys) ∙ order_ends xs ys i (omega arith)

-- keys by their ends, and where these are the same by all bytes
pub ordered : (one other p q : List ℕ) (e f : ℕ) (o r : Ordering) → p ≡ one → q ≡ other → e ≡ end_of p → f ≡ end_of q → o ≡ nat_cmp e f
    → r ≡ ordering_then o (slice_cmp nat_cmp p q) → r ≡ key_order one other
unfolding key_order
ordered one other p q e f o r one_is other_is e_is f_is o_is r_is =
    r_is ∙ ap (λ a. ordering_then a (slice_cmp nat_cmp p q)) (o_is ∙ ap (λ n. nat_cmp n f) e_is ∙ ap (nat_cmp (end_of p)) f_is)
    ∙ ap (λ (l : List ℕ). key_order l q) one_is ∙ ap (key_order one) other_is

-- what names begin with alike does not order them
pub order_behind : (xs ys : List ℕ) (n : ℕ) → n ≤ length xs → n ≤ length ys → map to_ascii_uppercase (take n xs) ≡ map to_ascii_uppercase (take n ys)
    → slice_cmp nat_cmp (map to_ascii_uppercase (drop n xs)) (map to_ascii_uppercase (drop n ys)) ≡ slice_cmp nat_cmp (map to_ascii_uppercase xs) (map to_ascii_uppercase ys)
order_behind xs ys zero one other same = refl
order_behind [] ys (suc n) one other same = absurd (omega arith)
order_behind (x ∷ xs) [] (suc n) one other same = absurd (omega arith)
order_behind (x ∷ xs) (y ∷ ys) (suc n) one other same =
    let first : to_ascii_uppercase x ≡ to_ascii_uppercase y = cc in
    let rest : map to_ascii_uppercase (take n xs) ≡ map to_ascii_uppercase (take n ys) = cc in
    order_behind xs ys n (omega arith) (omega arith) rest
    ∙ ap (λ o. ordering_then o (slice_cmp nat_cmp (map to_ascii_uppercase xs) (map to_ascii_uppercase ys))) (sym (ap (nat_cmp (to_ascii_uppercase x)) (sym first) ∙ tied_itself nat_cmp_total (to_ascii_uppercase x)))
