-- The first of patterns, by its digits.
use Rattle.std.proofs.Common.{◌≡◌, ℕ, List, [], ◌∷◌, ap, refl, Bor}
use Rattle.std.specs.Prelude.{Option, Some, None, option_map, slice_get}
use Rattle.bsdl_device.specs.Device.{Pattern}
use Rattle.bsdl_values.specs.InstructionValues.{pattern_of}
use Rattle.bsdl_values.specs.InstructionView.{patterns}

pub first_seen : (found : Option (Bor (List ℕ))) (all : List (List ℕ)) → option_map {U = List ℕ} (λ digits. digits.now) found ≡ slice_get all 0
    → option_map {U = Pattern} (λ digits. pattern_of digits.now) found ≡ slice_get (patterns all) 0
first_seen None [] is = refl
first_seen None (p ∷ ps) is = absurd cc
first_seen (Some digits) [] is = absurd cc
first_seen (Some digits) (p ∷ ps) is = let same : digits.now ≡ p = cc in ap (λ (q : List ℕ). Some (pattern_of q)) same

pub first_there : (all : List (List ℕ)) (digits : List ℕ) → Some digits ≡ slice_get all 0 → slice_get (patterns all) 0 ≡ Some (pattern_of digits)
first_there [] digits is = absurd cc
first_there (p ∷ ps) digits is = let same : p ≡ digits = cc in ap (λ (q : List ℕ). Some (pattern_of q)) same

pub none_there : (all : List (List ℕ)) → None ≡ slice_get all 0 → slice_get (patterns all) 0 ≡ None
none_there [] is = refl
none_there (p ∷ ps) is = absurd cc
