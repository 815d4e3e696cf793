-- Cycles of TCK that shift, many at once: on a board whose devices all stand in the Shift state of one column, and
-- whose TDOs a falling edge there has set.
use Rattle.std.specs.Prelude.{Bool, true, false, ◌&&◌, ◌||◌, not, List, map, if◌then◌else◌}
use Rattle.jt_tap.specs.declared.Column.{Column}
use Rattle.jt_tap.specs.declared.Column.TheVariants.{Dr, Ir}
use Rattle.bitbang_protocol.specs.declared.Cycle.{Cycle}
use Rattle.board_model.specs.Chain.{BoardState}
use Rattle.board_chain.specs.Shifting.{all_shift}

-- TCK is low, TRST released, and all devices shift.
abbrev pub shifts : BoardState → Bool
shifts b = not b.tck && (not b.trst && (all_shift Dr b.chips || all_shift Ir b.chips))

-- the column whose registers they shift
abbrev pub shift_column : BoardState → Column
shift_column b = if all_shift Dr b.chips then Dr else Ir

-- the cycles with TMS low that shift these bits in, TDO read in each
abbrev pub shift_cycles : List Bool → List Cycle
shift_cycles ts = map (λ t. record { tms = false; tdi = t; read = true }) ts
