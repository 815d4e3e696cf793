-- The step whose value is wanted.
use Rattle.std.proofs.Common.{◌≡◌, Bool, true, false, List, ◌∷◌, ap, arith}
use Rattle.std.specs.Prelude.{◌==◌, if◌then◌else◌}
use Rattle.std.proofs.lemmas.Bool.Decides.{nat_tests}
use Rattle.scan_vectors.specs.declared.failures.Mismatch.{Mismatch}
use Rattle.svf_programs.specs.Steps.{Numbered}
use Rattle.play_explained.specs.Wanted.{wanted_in, wanted_of}

module _ (s : Numbered) (ss : List Numbered) (f : Mismatch) where
  by_test : Bool → Bool
  by_test b = if b then wanted_in s.what f else wanted_of ss f

  pub wanted_here : s.number ≡ f.command → wanted_of (s ∷ ss) f ≡ wanted_in s.what f
  unfolding by_test
  wanted_here same =
      let test : (s.number == f.command) ≡ true = grind (arith, nat_tests, same) in
      ap by_test test

  pub wanted_later : (s.number ≡ f.command → ⊥) → wanted_of (s ∷ ss) f ≡ wanted_of ss f
  unfolding by_test
  wanted_later other =
      let test : (s.number == f.command) ≡ false = grind (arith, nat_tests, other) in
      ap by_test test
