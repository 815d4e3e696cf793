-- What patterns end in.
use Rattle.std.proofs.Common.{◌≡◌, ◌&&◌, ℕ, true, false, List, [], ◌∷◌, refl}
use Rattle.std.specs.Prelude.{Some, None, slice_get}
use Rattle.bsdl_device.specs.Device.{Pattern}
use Rattle.bsdl_values.specs.InstructionValues.{pattern_of}
use Rattle.bsdl_values.specs.InstructionView.{patterns}
use Rattle.bsdl_rules.specs.Lengths.{captures_one, ends_in_one}
use Rattle.bsdl_rules.specs.Sizes.{is_bit}

pub captures_by_bits : (p : Pattern) → captures_one p ≡ (is_bit (slice_get p 0) true && is_bit (slice_get p 1) false)
captures_by_bits [] = refl
captures_by_bits (None ∷ p) = refl
captures_by_bits (Some false ∷ p) = refl
captures_by_bits (Some true ∷ []) = refl
captures_by_bits (Some true ∷ None ∷ p) = refl
captures_by_bits (Some true ∷ Some true ∷ p) = refl
captures_by_bits (Some true ∷ Some false ∷ p) = refl

ends_by_bit : (p : Pattern) (ps : List Pattern) → ends_in_one (p ∷ ps) ≡ is_bit (slice_get p 0) true
ends_by_bit [] ps = refl
ends_by_bit (None ∷ p) ps = refl
ends_by_bit (Some true ∷ p) ps = refl
ends_by_bit (Some false ∷ p) ps = refl

pub first_ends : (codes : List (List ℕ)) (code : List ℕ) → Some code ≡ slice_get codes 0 → ends_in_one (patterns codes) ≡ is_bit (slice_get (pattern_of code) 0) true
first_ends [] code is = absurd cc
first_ends (c ∷ cs) code is = let same : code ≡ c = cc in rw same (ends_by_bit (pattern_of c) (patterns cs))

pub none_ends : (codes : List (List ℕ)) → None ≡ slice_get codes 0 → ends_in_one (patterns codes) ≡ true
none_ends [] is = refl
none_ends (c ∷ cs) is = absurd cc
