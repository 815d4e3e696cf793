-- What is done to a device of a chain at rest, without TCK. The proof terms among it stand here since `impl Link` names
-- them: there is nothing to judge in them.
use Rattle.std.specs.Prelude.{◌≡◌, Bool, true, ℕ, List, refl}
use Rattle.std.proofs.Common.{◌∙◌}
use Rattle.jt_tap.specs.declared.Column.{Column}
use Rattle.jt_tap.specs.declared.Work.TheVariants.{Captures}
use Rattle.scan_registers.specs.Chips.{IsPut}
use Rattle.chip_instructions.specs.Instruction.{meaning}
use Rattle.scan_registers.specs.Puts.{put_both, put_nothing}
use Rattle.boundary.specs.Cells.{BoundaryValue, IsWhole}
use Rattle.boundary.specs.Masks.{SeesSighted}
use Rattle.board_model.specs.Cells.{Member}
use Rattle.board_model.specs.Chain.{ChipState}
use Rattle.board_model.specs.Whole.{selected_bits_of}
use Rattle.board_chips.specs.WiredChips.{WiredChipValue, captures_boundary, member_of}

-- a device in other registers
abbrev pub as_member : Member → ChipState → ChipState
as_member m c = record { member = m; state = c.state; tdo = c.tdo }

-- if the column's capture is of the boundary register, each cell that captures what its port sees was told that
abbrev pub IsSightedFor : Column → (ℕ → Bool) → WiredChipValue → Type 0
IsSightedFor column sees s = captures_boundary (Captures column) (meaning s.chip.device s.chip.latch).selected ≡ true
    → IsWhole s.chip.boundary × SeesSighted sees s.chip.device.cells s.chip.boundary.seen

-- ---- a device as a link

-- the second is the first with these bits in the column's register
pub record IsPutInto (column : Column) (bits : List Bool) (s t : WiredChipValue) : Type 0 where
  pub chip : IsPut (λ (b : BoundaryValue). b.stage) (λ (b : BoundaryValue). b.update)
      (λ (b : BoundaryValue) stage update. record b { stage = stage; update = update }) column bits s.chip t.chip
  pub name : t.name ≡ s.name
  pub constants : t.constants ≡ s.constants
  pub follows : t.follows ≡ s.follows
  pub nets : t.nets ≡ s.nets

-- what a device has already changes nothing
pub puts_nothing : (s : WiredChipValue) (column : Column) → IsPutInto column (selected_bits_of column (member_of s)) s s
puts_nothing s column = record {
  chip = put_nothing (λ (b : BoundaryValue). b.stage) (λ (b : BoundaryValue). b.update)
      (λ (b : BoundaryValue) stage update. record b { stage = stage; update = update }) (λ b. refl) s.chip column;
  name = refl;
  constants = refl;
  follows = refl;
  nets = refl;
}

-- of two puts the second holds
pub puts_both : (a b c : WiredChipValue) (column : Column) (s t : List Bool) → IsPutInto column s a b
    → IsPutInto column t b c → IsPutInto column t a c
puts_both a b c column s t first second = record {
  chip = put_both (λ (b : BoundaryValue). b.stage) (λ (b : BoundaryValue). b.update)
      (λ (b : BoundaryValue) stage update. record b { stage = stage; update = update }) (λ b s u t v. refl)
      a.chip b.chip c.chip column s t first.chip second.chip;
  name = second.name ∙ first.name;
  constants = second.constants ∙ first.constants;
  follows = second.follows ∙ first.follows;
  nets = second.nets ∙ first.nets;
}
