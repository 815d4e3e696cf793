-- What 64 cells drive, by words.
use Rattle.std.proofs.Common.{◌≡◌, ◌<◌, ◌+◌, ℕ, Bool, true, false, ◌||◌, List, Option, Some, None, option_and_then, option_map, slice_get, if◌then◌else◌, refl, sym, ap, subst, ◌∙◌, ◌⊎◌, ⊎_elim}
use Rattle.std.proofs.lemmas.Bool.{or_cases}
use Rattle.std.proofs.lemmas.Option.{none-some, same_Some}
use Rattle.jt_bits.specs.Packed.{has_bit}
use Rattle.jt_bits.specs.Words.{bit_of}
use Rattle.bsdl_device.specs.declared.Cell.{Cell}
use Rattle.bsdl_device.specs.declared.Control3.{Control3}
use Rattle.chip_registers.specs.Mode.{Mode}
use Rattle.chip_registers.specs.Mode.TheVariants.{Extest, Clamp, HighZ, Core}
use Rattle.pin_nets.specs.declared.Drive.{Drive}
use Rattle.pin_nets.specs.declared.Drive.TheVariants.{Strong, Nothing}
use Rattle.boundary.specs.Cells.{BoundaryValue, cell_drive, drive_of_driver, left_by}
use Rattle.boundary.specs.Controls.{IsControlled, disabled_by}
use Rattle.boundary.specs.Driven.{TellsBy, TellsCells, cell_leaves, leaves}
use Rattle.boundary.specs.Plain.{plain_cells}
use Rattle.boundary.specs.declared.DrivenCells.{DrivenCells}
use Rattle.boundary.specs.declared.controls.Controlled.{Controlled}
use Rattle.boundary.proofs.MaskLaws.{zero_bit}
use Rattle.boundary.proofs.ControlLaws.{says}
use Rattle.boundary.proofs.PlainLaws.{marked, no, strong}

-- ---- a cell with a control

abbrev its : List Bool → ℕ → Option Cell → Drive
its bits k None = Nothing
its bits k (Some c) = cell_drive bits k c.control

abbrev its-control : Option Cell → Option Control3
its-control o = option_and_then (λ (c : Cell). c.control) o

by-control : (bits : List Bool) (k : ℕ) (control : Option Control3) (disabled : Bool) → option_map (says bits) control ≡ Some disabled
    → cell_drive bits k control ≡ (if disabled then leaves control else Strong (bit_of bits k))
by-control bits k None disabled e = absurd (none-some disabled e)
by-control bits k (Some t) disabled e =
    ap (λ (b : Bool). if b then left_by t.leaves else Strong (bit_of bits k)) (same_Some (says bits t) disabled e)

by-cell : (bits : List Bool) (k : ℕ) (o : Option Cell) (disabled : Bool) → option_map (says bits) (its-control o) ≡ Some disabled
    → its bits k o ≡ (if disabled then leaves (its-control o) else Strong (bit_of bits k))
by-cell bits k None disabled e = absurd (none-some disabled e)
by-cell bits k (Some c) disabled e = by-control bits k c.control disabled e

ruled : (cells : List Cell) (bits : List Bool) (k : ℕ) (disabled : Bool) → disabled_by cells bits k ≡ Some disabled
    → drive_of_driver bits (Some k) cells ≡ (if disabled then cell_leaves cells k else Strong (bit_of bits k))
ruled cells bits k disabled e = by-cell bits k (slice_get cells k) disabled e

-- ---- 64 cells

pub told_by_words : (cells : List Cell) (plain force : List Bool) (first mask bits own : ℕ) (words : Controlled) → plain ≡ plain_cells cells
    → ((j : ℕ) → j < 64 → has_bit mask j ≡ bit_of plain (first + j)) → ((j : ℕ) → j < 64 → has_bit bits j ≡ bit_of force (first + j))
    → IsControlled cells force first words → ((j : ℕ) → has_bit own j ≡ (has_bit mask j || has_bit words.on j))
    → TellsBy cells force first (record { own = own; bits = bits; off = words.off; mute = 0 })
told_by_words cells plain force first mask bits own words is masked word said both = record {
  each = λ j h. record {
    own = λ on. ap Some (⊎_elim
        (λ without. strong force cells (first + j) (sym (marked cells plain (first + j) is) ∙ sym (masked j h) ∙ without))
        (λ with. ruled cells force (first + j) false (said.on j h with))
        (or_cases (has_bit mask j) (has_bit words.on j) (sym (both j) ∙ on))
        ∙ ap Strong (sym (word j h)));
    off = λ off. ap Some (ruled cells force (first + j) true (said.off j h off));
    mute = λ mute. absurd (no (sym (zero_bit j) ∙ mute));
  };
}

-- ---- in a mode

pub told_update : (mode : Mode) (b : BoundaryValue) (first : ℕ) (words : DrivenCells) → (mode ≡ Extest) ⊎ (mode ≡ Clamp) → TellsBy b.cells b.update first words
    → TellsCells mode b first words
told_update mode b first words at tells = ⊎_elim
    (λ e. subst (λ (m : Mode). TellsCells m b first words) (sym e) (record { each = tells.each }))
    (λ e. subst (λ (m : Mode). TellsCells m b first words) (sym e) (record { each = tells.each }))
    at

pub told_core : (mode : Mode) (b : BoundaryValue) (first : ℕ) (words : DrivenCells) → mode ≡ Core → TellsBy b.cells b.core first words
    → TellsCells mode b first words
told_core mode b first words e tells = subst (λ (m : Mode). TellsCells m b first words) (sym e) (record { each = tells.each })

pub told_nowhere : (mode : Mode) (b : BoundaryValue) (first mute : ℕ) → mode ≡ HighZ
    → TellsCells mode b first (record { own = 0; bits = 0; off = 0; mute = mute })
told_nowhere mode b first mute e = subst (λ (m : Mode). TellsCells m b first (record { own = 0; bits = 0; off = 0; mute = mute })) (sym e) (record {
  each = λ j h. record {
    own = λ on. absurd (no (sym (zero_bit j) ∙ on));
    off = λ off. absurd (no (sym (zero_bit j) ∙ off));
    mute = λ mute. refl;
  };
})
