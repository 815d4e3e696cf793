-- What one edge does to each device, in the code's terms.
use Rattle.std.specs.Prelude.{⊤}
use Rattle.std.specs.Prelude.{◌≡◌, ◌+◌, Bool, ℕ, suc, List, [], ◌∷◌, drop, map, if◌then◌else◌}
use Rattle.board_model.specs.Cells.{Member}
use Rattle.board_model.specs.Chain as chain
use Rattle.board_chips.specs.WiredChips.{DrivesStill, IsKept, WiredChipValue, chip_state, member_of, told_by}
use Rattle.board_chips.specs.Telling.{IsAt, sight}
use Rattle.board_chips.specs.WiringValues.{WiringValue}

-- each device, from this place on, stands to the one it became as R has it
abbrev pub EachFrom : (R : ℕ → WiredChipValue → WiredChipValue → Type 0) → ℕ → List WiredChipValue
    → List WiredChipValue → Type 0
EachFrom R i [] [] = ⊤
EachFrom R i (s ∷ old) (t ∷ new) = R i s t × EachFrom R (suc i) old new
EachFrom R i _ _ = ⊥

-- a falling edge
pub record Falls (place : ℕ) (s t : WiredChipValue) : Type 0 where
  pub kept : IsKept s t
  pub trst : t.chip.trst ≡ s.chip.trst
  pub chip : chip_state t ≡ chain.fall (chip_state s)

-- each port bit drives what it drove, whatever the core bits are
abbrev pub Still : ℕ → WiredChipValue → WiredChipValue → Type 0
Still place s t = DrivesStill (member_of s) (member_of t)

-- TRST asserted or released
pub record TakesTrst (trst : Bool) (place : ℕ) (s t : WiredChipValue) : Type 0 where
  pub kept : IsKept s t
  pub told : t.chip.trst ≡ trst
  pub chip : chip_state t ≡ (if trst then chain.assert_trst (chip_state s) else chip_state s)

-- a rising edge, given TMS, the TDI of the chain's end, and all devices before the edge
pub record Rises
    (w : WiringValue)
    (tms tdi : Bool)
    (all : List WiredChipValue)
    (place : ℕ)
    (s t : WiredChipValue) : Type 0
  where
    pub kept : IsKept s t
    pub trst : t.chip.trst ≡ s.chip.trst
    pub chip : (held : List Member) → IsAt w place held s
        → chip_state t ≡ chain.rise s.chip.trst tms (chain.tdi_before tdi (drop (place + 1) (map chip_state all)))
        (told_by (sight w held place) s) (chip_state s)
