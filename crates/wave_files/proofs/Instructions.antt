-- Devices that keep their instructions.
use Rattle.std.proofs.Common.{◌≡◌, ℕ, zero, suc, Bool, true, false, List, [], ◌∷◌, drop, Some, refl, sym, ap, ◌∙◌}
use Rattle.std.specs.Prelude.{slice_get, unwrap_or, if◌then◌else◌}
use Rattle.std.specs.Cmp.Lexicographic.{pointwise}
use mathlib.Core.Bool.{beq}
use Rattle.board_model.specs.Chain.{ChipState}
use Rattle.wave_files.specs.Changes.{KeepsInstructions}
use Rattle.wave_files.specs.Extras.{name_change, name_line}
use Rattle.wave_files.specs.Values.{instruction_change, latch}
use Rattle.wave_files.proofs.Numbers.{same_some}

beq-self : (x : Bool) → beq x x ≡ true
beq-self true = refl
beq-self false = refl

same-self : (xs : List Bool) → pointwise beq xs xs ≡ true
same-self [] = refl
same-self (x ∷ xs) = rw (beq-self x) (same-self xs)

pub no_change : (n : ℕ) (was is : List Bool) → was ≡ is → instruction_change n was is ≡ []
no_change n was is e = ap (λ (x : List Bool). instruction_change n was x) (sym e) ∙ rw (same-self was) refl

-- nor is a name told
pub no_name : (names : Bool) (n : ℕ) (c d : ChipState) → latch c ≡ latch d → name_change names n c d ≡ []
no_name names n c d e =
    ap (λ (x : List Bool). if pointwise beq (latch c) x then [] else name_line names n d) (sym e) ∙ rw (same-self (latch c)) refl

-- the device at a place keeps its own
pub keeps_at : (cs ds : List ChipState) (i : ℕ) (x y : ChipState) → slice_get cs i ≡ Some x → slice_get ds i ≡ Some y → KeepsInstructions cs ds
    → latch x ≡ latch y
keeps_at [] ds zero x y here there e = absurd cc
keeps_at [] ds (suc i) x y here there e = absurd cc
keeps_at (c ∷ cs) [] i x y here there e = absurd cc
keeps_at (c ∷ cs) (d ∷ ds) zero x y here there e =
    sym (ap latch (same_some c x here))
    ∙ ap (λ (l : List (List Bool)). unwrap_or (slice_get l 0) []) e
    ∙ ap latch (same_some d y there)
keeps_at (c ∷ cs) (d ∷ ds) (suc i) x y here there e = keeps_at cs ds i x y here there (ap (λ (l : List (List Bool)). drop 1 l) e)
