-- A reset by a mask, 64 cells at a time, is the reset of each cell.
use Rattle.std.proofs.Common.{◌≡◌, ◌<◌, ℕ, suc, ◌+◌, ◌^◌, ◌||◌, ◌&&◌, Bool, true, false, not, List, [], ◌∷◌, length, refl, ap, ◌∙◌, arith, if◌then◌else◌}
use Rattle.jt_bits.specs.Packed.{has_bit}
use Rattle.jt_bits.specs.Words.{bit_of}
use Rattle.bsdl_device.specs.declared.Cell.{Cell}
use Rattle.bsdl_device.specs.declared.Function.{Function}
use Rattle.bsdl_device.specs.declared.Function.TheVariants as kind
use Rattle.boundary.specs.Cells.{AreDisabling, disabling_value, reset_cell, reset_from}
use Rattle.boundary.specs.Resets.{ResetsEach, is_reset, reset_cells}
use Rattle.boundary.proofs.CaptureLaws.{merged, merged_bit}

-- ---- one word

chosen_is : (marked disabling update : Bool)
    → ((disabling && marked) || (update && not marked)) ≡ (if marked then disabling else update)
chosen_is true true true = refl
chosen_is true true false = refl
chosen_is true false true = refl
chosen_is true false false = refl
chosen_is false true true = refl
chosen_is false true false = refl
chosen_is false false true = refl
chosen_is false false false = refl

pub word_bit : (marked disabling update j : ℕ) → marked < 2 ^ 64 → j < 64
    → has_bit (merged update disabling marked) j ≡ (if has_bit marked j then has_bit disabling j else has_bit update j)
word_bit marked disabling update j fits h =
    merged_bit update disabling marked j fits h ∙ chosen_is (has_bit marked j) (has_bit disabling j) (has_bit update j)

-- ---- all cells

cell_is : (all : List Cell) (k : ℕ) (function : Function) (d u : Bool) → d ≡ disabling_value k all
    → (if is_reset function then d else u) ≡ reset_cell all k function u
cell_is all k kind.ControlR d u is = is
cell_is all k kind.Control d u is = refl
cell_is all k kind.Input d u is = refl
cell_is all k kind.Clock d u is = refl
cell_is all k kind.ObserveOnly d u is = refl
cell_is all k kind.Bidir d u is = refl
cell_is all k kind.Output2 d u is = refl
cell_is all k kind.Output3 d u is = refl
cell_is all k kind.Internal d u is = refl

of_bits : (all : List Cell) (k : ℕ) (cells : List Cell) (values : ℕ → Bool) (us ns : List Bool)
    → length us ≡ length cells → length ns ≡ length cells
    → ((i : ℕ) → i < length cells → values i ≡ disabling_value (k + i) all)
    → ((i : ℕ) → i < length cells → bit_of ns i ≡ (if bit_of (reset_cells cells) i then values i else bit_of us i))
    → ns ≡ reset_from all k cells us
of_bits all k [] values [] [] lu ln are each = refl
of_bits all k [] values (u ∷ us) ns lu ln are each = absurd (omega (arith, lu))
of_bits all k [] values [] (n ∷ ns) lu ln are each = absurd (omega (arith, ln))
of_bits all k (c ∷ cs) values [] ns lu ln are each = absurd (omega (arith, lu))
of_bits all k (c ∷ cs) values (u ∷ us) [] lu ln are each = absurd (omega (arith, ln))
of_bits all k (c ∷ cs) values (u ∷ us) (n ∷ ns) lu ln are each =
    let here : values 0 ≡ disabling_value k all =
    are 0 (omega arith) ∙ ap (λ (m : ℕ). disabling_value m all) (omega arith) in
    let first : n ≡ reset_cell all k c.function u =
    each 0 (omega arith) ∙ cell_is all k c.function (values 0) u here in
    λ i. first i
    ∷ of_bits all (suc k) cs (λ j. values (suc j)) us ns (omega (arith, lu)) (omega (arith, ln))
    (λ j h. are (suc j) (omega (arith, h)) ∙ ap (λ (m : ℕ). disabling_value m all) (omega arith))
    (λ j h. each (suc j) (omega (arith, h))) i

pub reset_by_mask : (cells : List Cell) (marked disabling old new : List Bool) → marked ≡ reset_cells cells
    → AreDisabling cells disabling → length old ≡ length cells → ResetsEach marked disabling old new
    → new ≡ reset_from cells 0 cells old
reset_by_mask cells marked disabling old new is values long resets =
    of_bits cells 0 cells (bit_of disabling) old new long (resets.long ∙ long)
    (λ i h. values.each i h ∙ ap (λ (m : ℕ). disabling_value m cells) (omega arith))
    (λ i h. resets.each i (omega (arith, h, long))
    ∙ (λ k. if bit_of (is k) i then bit_of disabling i else bit_of old i))
