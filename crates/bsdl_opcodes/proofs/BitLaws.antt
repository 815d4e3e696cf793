-- The bits of a pattern, from the right.
use Rattle.std.proofs.Common.{◌≡◌, ◌<◌, ℕ, ◌+◌, ◌-◌, Bool, false, nat_eq, List, [], ◌∷◌, ◌++◌, length, map, take, get_or, sym, ap, ◌∙◌, arith}
use Rattle.bsdl_device.specs.Opcodes.{x_as_0}
use Rattle.std.specs.Prelude.{Some, option_map, reverse, slice_get, slice_set, unwrap_or}
use Rattle.std.proofs.lemmas.Bool.Decides.{nat_tests}
use Rattle.std.proofs.lemmas.List.{get_or-reverse, length-map, length-reverse, take_more, take_more_set}
use Rattle.std.proofs.lemmas.Option.{get_or_from_slice_get, slice_get-get_or, slice_get-map}
use Rattle.bsdl_values.specs.InstructionValues.{bit}

from_right : (ds : List ℕ) (k d : ℕ) → k < length ds → slice_get (reverse (map bit ds)) k ≡ Some (bit (get_or ds (length ds - 1 - k) d))
from_right ds k d h =
    let len : length (map bit ds) ≡ length ds = length-map ds bit in
    let within : k < length (reverse (map bit ds)) = rw (length-reverse (map bit ds), len) h in
    let inside : k < length (map bit ds) = rw len h in
    let place : length ds - 1 - k < length ds = omega arith in
    let place_in : length ds - 1 - k < length (map bit ds) = rw len place in
    slice_get-get_or (reverse (map bit ds)) k (bit d) within ∙ ap Some (get_or-reverse (map bit ds) k (bit d) inside)
    ∙ ap (λ (n : ℕ). Some (get_or (map bit ds) (n - 1 - k) (bit d))) len
    ∙ sym (slice_get-get_or (map bit ds) (length ds - 1 - k) (bit d) place_in)
    ∙ slice_get-map bit ds (length ds - 1 - k) ∙ ap (option_map bit) (slice_get-get_or ds (length ds - 1 - k) d place)

-- what stands at a place that is there, whatever would stand where none is
pub same_digit : (ds : List ℕ) (k c d : ℕ) → k < length ds → get_or ds k c ≡ get_or ds k d
same_digit ds k c d h = let same : Some (get_or ds k c) ≡ Some (get_or ds k d) = sym (slice_get-get_or ds k c h) ∙ slice_get-get_or ds k d h in cc

one_is : (d : ℕ) → unwrap_or (bit d) false ≡ nat_eq d 49
one_is d = grind (arith, nat_tests)

pub bit_more : (ds : List ℕ) (bs : List Bool) (i d : ℕ) → length bs ≡ length ds → i < length ds → d ≡ get_or ds (length ds - 1 - i) d → take i bs ≡ take i (x_as_0 (reverse (map bit ds)))
    → take (i + 1) (slice_set bs i (nat_eq d 49)) ≡ take (i + 1) (x_as_0 (reverse (map bit ds)))
bit_more ds bs i d len h digit front =
    let target = x_as_0 (reverse (map bit ds)) in
    let b = nat_eq d 49 in
    let inside : i < length bs = omega arith in
    let at : slice_get target i ≡ Some b =
    slice_get-map (λ o. unwrap_or o false) (reverse (map bit ds)) i ∙ ap (option_map (λ o. unwrap_or o false)) (from_right ds i d h)
    ∙ ap Some (one_is (get_or ds (length ds - 1 - i) d) ∙ ap (λ (n : ℕ). nat_eq n 49) (sym digit)) in
    let whole : length target ≡ length ds = length-map (reverse (map bit ds)) (λ o. unwrap_or o false) ∙ length-reverse (map bit ds) ∙ length-map ds bit in
    let there : i < length target = rw whole h in
    take_more_set bs i b inside ∙ ap (λ xs. xs ++ b ∷ []) front ∙ ap (λ (c : Bool). take i target ++ c ∷ []) (sym (get_or_from_slice_get target i b b at)) ∙ sym (take_more target i b there)
