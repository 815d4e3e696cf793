-- Pins by numbers, and the number of the pin from which each bit of a capture is taken.
use Rattle.std.specs.Prelude.{ℕ, List, [], map, option_and_then, slice_index_or, Option, None}
use Rattle.std.specs.List.{AllByRecursion}
use Rattle.bsdl_device.specs.declared.Cell.{Cell}
use Rattle.boundary.specs.Masks.{sighted_port}
use Rattle.chip_instructions.specs.Fitting.{IsFormed}
use Rattle.board_model.specs.Cells.{Member}
use Rattle.fault_events.specs.Sources.{Source, Fixed, Seen, sources}

-- the number that tables, one a device, have for a port bit; none where they have none
abbrev pub number_in : List (List (Option ℕ)) → (device port : ℕ) → Option ℕ
number_in tables device port = slice_index_or (slice_index_or tables device []) port None

-- of a bit: of its pin, none where it hangs on no net
abbrev pub number_of : List (List (Option ℕ)) → Source → Option ℕ
number_of tables (Fixed b) = None
number_of tables (Seen pin) = number_in tables pin.device pin.port

-- of the pin whose sight a cell of a device captures
abbrev pub number_of_cell : List (List (Option ℕ)) → (device : ℕ) → Cell → Option ℕ
number_of_cell tables device c = option_and_then (number_in tables device) (sighted_port c.port c.function)

-- of every bit of a capture, from TDO to TDI
abbrev pub numbers : List (List (Option ℕ)) → List Member → List (Option ℕ)
numbers tables ms = map (number_of tables) (sources ms)

-- each list that a register takes has that register's length
abbrev pub AllFormed : List Member → Type 0
AllFormed ms = AllByRecursion (λ (m : Member). IsFormed m.device) ms
