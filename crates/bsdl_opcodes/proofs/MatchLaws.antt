-- Patterns from the other end.
use Rattle.std.proofs.Common.{◌≡◌, ◌≢◌, ℕ, Bool, true, false, ◌&&◌, List, [], ◌∷◌, ◌++◌, length, map, refl, sym, ap, ◌∙◌, arith, suc}
use Rattle.std.specs.Prelude.{Option, reverse, unwrap_or, ◌==◌}
use Rattle.std.specs.List.{list_all}
use Rattle.std.proofs.lemmas.List.{reverse-append}
use Rattle.std.proofs.lemmas.List.Folds.{list_all-append}
use Rattle.std.proofs.lemmas.Bool.Decides.{nat_tests}
use Rattle.bsdl_device.specs.Device.{Pattern}
use Rattle.bsdl_values.specs.InstructionValues.{bit}
use Rattle.bsdl_device.specs.Opcodes.{matches, matches_bit, x_as_0}

and_swap : (a b : Bool) → (a && b) ≡ (b && a)
and_swap true true = refl
and_swap true false = refl
and_swap false true = refl
and_swap false false = refl

and_assoc : (a b c : Bool) → (a && (b && c)) ≡ ((a && b) && c)
and_assoc true b c = refl
and_assoc false b c = refl

and_false : (a : Bool) → (a && false) ≡ false
and_false true = refl
and_false false = refl

one_at_end : (p : Pattern) (bs : List Bool) (d : Option Bool) (b : Bool) → matches (p ++ d ∷ []) (bs ++ b ∷ []) ≡ (matches p bs && matches_bit d b)
one_at_end [] [] d b = and_swap (matches_bit d b) true
one_at_end [] (c ∷ []) d b = and_false (matches_bit d c)
one_at_end [] (c ∷ e ∷ bs) d b = and_false (matches_bit d c)
one_at_end (e ∷ []) [] d b = and_false (matches_bit e b)
one_at_end (e ∷ f ∷ p) [] d b = and_false (matches_bit e b)
one_at_end (e ∷ p) (c ∷ bs) d b = ap (λ r. matches_bit e c && r) (one_at_end p bs d b) ∙ and_assoc (matches_bit e c) (matches p bs) (matches_bit d b)

reverse_cons : {A : Type 0} (x : A) (xs : List A) → reverse (x ∷ xs) ≡ reverse xs ++ x ∷ []
reverse_cons x xs = reverse-append (x ∷ []) xs

past_end : (p : Pattern) (d : Option Bool) → matches (p ++ d ∷ []) [] ≡ false
past_end [] d = refl
past_end (e ∷ p) d = refl

past_bits : (bs : List Bool) (b : Bool) → matches [] (bs ++ b ∷ []) ≡ false
past_bits [] b = refl
past_bits (c ∷ bs) b = refl

pub matches_reversed : (p : Pattern) (bs : List Bool) → matches (reverse p) (reverse bs) ≡ matches p bs
matches_reversed [] [] = refl
matches_reversed [] (b ∷ bs) = rw (reverse_cons b bs) (past_bits (reverse bs) b)
matches_reversed (d ∷ p) [] = rw (reverse_cons d p) (past_end (reverse p) d)
matches_reversed (d ∷ p) (b ∷ bs) =
    rw (reverse_cons d p, reverse_cons b bs) (one_at_end (reverse p) (reverse bs) d b ∙ and_swap (matches (reverse p) (reverse bs)) (matches_bit d b) ∙ ap (λ r. matches_bit d b && r) (matches_reversed p bs))

-- the same of the digits as they are written
bits_reversed : (q : Pattern) → x_as_0 (reverse q) ≡ reverse (x_as_0 q)
bits_reversed [] = refl
bits_reversed (d ∷ q) =
    ap x_as_0 (reverse_cons d q) ∙ map_behind (reverse q) d ∙ ap (λ bs. bs ++ unwrap_or d false ∷ []) (bits_reversed q) ∙ sym (reverse_cons (unwrap_or d false) (x_as_0 q))
  where
    map_behind : (p : Pattern) (e : Option Bool) → x_as_0 (p ++ e ∷ []) ≡ x_as_0 p ++ unwrap_or e false ∷ []
    map_behind [] e = refl
    map_behind (f ∷ p) e = ap (λ bs. unwrap_or f false ∷ bs) (map_behind p e)

pub written_match : (p q : Pattern) → matches (reverse p) (x_as_0 (reverse q)) ≡ matches p (x_as_0 q)
written_match p q = ap (matches (reverse p)) (bits_reversed q) ∙ matches_reversed p (x_as_0 q)

one_is : (d : ℕ) → unwrap_or (bit d) false ≡ (d == 49)
one_is d = grind (arith, nat_tests)

all_ones : (ds : List ℕ) → list_all (λ b. b) (x_as_0 (map bit ds)) ≡ list_all (λ d. d == 49) ds
all_ones [] = refl
all_ones (d ∷ ds) = rw (one_is d) (ap (λ r. (d == 49) && r) (all_ones ds))

all_reversed : (bs : List Bool) → list_all (λ b. b) (reverse bs) ≡ list_all (λ b. b) bs
all_reversed [] = refl
all_reversed (b ∷ bs) =
    ap (list_all (λ b. b)) (reverse_cons b bs) ∙ list_all-append (λ b. b) (reverse bs) (b ∷ []) ∙ ap (λ r. r && (b && true)) (all_reversed bs)
    ∙ swapped (list_all (λ b. b) bs) b
  where
    swapped : (r b : Bool) → (r && (b && true)) ≡ (b && r)
    swapped true true = refl
    swapped true false = refl
    swapped false true = refl
    swapped false false = refl

pub ones_reversed : (ds : List ℕ) → list_all (λ b. b) (x_as_0 (reverse (map bit ds))) ≡ list_all (λ d. d == 49) ds
ones_reversed ds = ap (list_all (λ b. b)) (bits_reversed (map bit ds)) ∙ all_reversed (x_as_0 (map bit ds)) ∙ all_ones ds

pub other_length : (xs ys : List ℕ) → length xs ≢ length ys → matches (map bit xs) (x_as_0 (map bit ys)) ≡ false
other_length [] [] h = absurd (h refl)
other_length [] (y ∷ ys) h = refl
other_length (x ∷ xs) [] h = refl
other_length (x ∷ xs) (y ∷ ys) h = ap (λ r. matches_bit (bit x) (unwrap_or (bit y) false) && r) (other_length xs ys (λ e. h (ap suc e))) ∙ and_false (matches_bit (bit x) (unwrap_or (bit y) false))
