-- The net of a cell is what its device is wired to.
use Rattle.std.proofs.Common.{◌≡◌, ◌+◌, ℕ, List, map, Option, Some, None, option_map, slice_get, refl, ap, ◌∙◌, arith}
use Rattle.std.specs.Prelude.{option_and_then}
use Rattle.std.proofs.lemmas.Option.{slice_get-map}
use Rattle.bsdl_device.specs.declared.Cell.{Cell}
use Rattle.pin_nets.specs.Wired.{Net}
use Rattle.board_plan.specs.CellNets.{cell_net}
use Rattle.board_chips.specs.WiredChips.{WiredChipValue, chip_state}
use Rattle.board_chips.specs.Wires.{AreWired}
use Rattle.board_chips.proofs.StringLaws.{wired_at}

chosen : (f : Cell → Option ℕ) (o : Option Cell) → option_and_then (λ net. net) (option_map f o) ≡ option_and_then f o
chosen f None = refl
chosen f (Some c) = refl

pub wired_cell : (nets : List Net) (chips : List WiredChipValue) (i cell : ℕ) (s : WiredChipValue) → AreWired nets 0 chips → slice_get chips i ≡ Some s
    → option_and_then (λ net. net) (slice_get s.nets cell) ≡ option_and_then (cell_net nets i) (slice_get s.chip.device.cells cell)
wired_cell nets chips i cell s wired here =
    let same : 0 + i ≡ i = omega arith in
    ap (λ (ns : List (Option ℕ)). option_and_then (λ net. net) (slice_get ns cell))
    (wired_at nets 0 i chips s wired here ∙ ap (λ (k : ℕ). map (cell_net nets k) s.chip.device.cells) same)
    ∙ ap (option_and_then (λ net. net)) (slice_get-map (cell_net nets i) s.chip.device.cells cell)
    ∙ chosen (cell_net nets i) (slice_get s.chip.device.cells cell)

pub of_chip : (nets : List Net) (i cell : ℕ) (o : Option WiredChipValue)
    → option_map (λ c. option_and_then (cell_net nets i) (slice_get c.member.device.cells cell)) (option_map chip_state o)
    ≡ option_map (λ (s : WiredChipValue). option_and_then (cell_net nets i) (slice_get s.chip.device.cells cell)) o
of_chip nets i cell None = refl
of_chip nets i cell (Some s) = refl
