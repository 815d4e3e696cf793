-- What is done to all devices of a chain at once, without TCK.
use Rattle.std.specs.Prelude.{◌≡◌, ◌++◌, Bool, true, ℕ, List, [], ◌∷◌, length, drop}
use Rattle.jt_tap.specs.declared.Column.{Column}
use Rattle.jt_tap.specs.declared.State.{State}
use Rattle.jt_tap.specs.declared.State.TheVariants.{Reset}
use Rattle.board_model.specs.Cells.{Member}
use Rattle.board_model.specs.Chain.{ChipState, members}
use Rattle.board_model.specs.Resting.{chip_at_rest}
use Rattle.board_model.specs.Whole.{capture_member, cut_back, joined_bits, settled_member, trst_member}
use Rattle.board_chips.specs.AtRest.{as_member}
use Rattle.board_chips.specs.WiredChips.{IsKept, WiredChipValue, chip_state, member_of, told_by}
use Rattle.board_chips.specs.Telling.{IsAt, sight}
use Rattle.board_chips.specs.WiringValues.{WiringValue}
use Rattle.board_chain.specs.Chains.{ChainValue}

-- the devices in these registers, one after another
abbrev pub as_members : List Member → List ChipState → List ChipState
as_members (m ∷ ms) (c ∷ cs) = as_member m c ∷ as_members ms cs
as_members _ _ = []

-- the devices in registers that f makes of theirs
abbrev pub in_registers : (List Member → List Member) → List ChipState → List ChipState
in_registers f chips = as_members (f (members chips)) chips

-- the same chain in these registers
abbrev pub chain_as : List Member → ChainValue → ChainValue
chain_as ms c = record c { chips = as_members ms c.chips }

-- the devices, each with its part of what stays in
abbrev pub shifted_through : Column → List Bool → List Member → List Member
shifted_through column t ms = cut_back column (drop (length t) (joined_bits column ms ++ t)) ms

-- ---- one device, in the code's terms

-- its registers are changed so
pub record Changes (f : Member → Member) (place : ℕ) (s t : WiredChipValue) : Type 0 where
  pub kept : IsKept s t
  pub trst : t.chip.trst ≡ s.chip.trst
  pub chip : chip_state t ≡ as_member (f (member_of s)) (chip_state s)

-- its controller stands in a state, and TDO is not driven
pub record Stands (state : State) (place : ℕ) (s t : WiredChipValue) : Type 0 where
  pub kept : IsKept s t
  pub trst : t.chip.trst ≡ s.chip.trst
  pub chip : chip_state t ≡ chip_at_rest state (member_of s)

-- TRST is asserted to it, where the chain rests in a state
pub record AssertsTrst (rests : State) (place : ℕ) (s t : WiredChipValue) : Type 0 where
  pub kept : IsKept s t
  pub told : t.chip.trst ≡ true
  pub chip : chip_state t ≡ chip_at_rest Reset (trst_member (settled_member rests) (member_of s))

-- the column's register captures what the device's place sees, and the core bits that its boundary holds
pub record CapturesAt (w : WiringValue) (column : Column) (place : ℕ) (s t : WiredChipValue) : Type 0 where
  pub kept : IsKept s t
  pub trst : t.chip.trst ≡ s.chip.trst
  pub chip : (held : List Member) → IsAt w place held s
      → chip_state t
      ≡ as_member (capture_member column (told_by (sight w held place) s) (member_of s)) (chip_state s)
