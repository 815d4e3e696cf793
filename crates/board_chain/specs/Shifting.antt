-- A chain whose devices all shift: each stands in the Shift state of a column, and its TDO shows the first bit of the
-- column's register, as a falling edge there leaves it (IEEE Std 1149.1-2001, clauses 4 and 6).
use Rattle.std.specs.Prelude.{Bool, true, false, ◌&&◌, not, List, Option, Some, None}
use Rattle.std.specs.List.{list_all}
use Rattle.jt_bits.specs.Words.{bit_of}
use Rattle.jt_tap.specs.declared.Column.{Column}
use Rattle.jt_tap.specs.declared.Column.TheVariants.{Dr, Ir}
use Rattle.jt_tap.specs.declared.State.{State}
use Rattle.jt_tap.specs.declared.State.TheVariants.{DrShift, IrShift}
use Rattle.board_model.specs.Chain.{ChipState}
use Rattle.board_model.specs.Whole.{selected_bits_of}

abbrev pub is_shift_of : Column → State → Bool
is_shift_of Dr DrShift = true
is_shift_of Ir IrShift = true
is_shift_of _ _ = false

-- TDO is driven, at this level
abbrev pub shows : Bool → Option Bool → Bool
shows true (Some tdo) = tdo
shows false (Some tdo) = not tdo
shows _ None = false

abbrev pub shifts : Column → ChipState → Bool
shifts column c = is_shift_of column c.state && shows (bit_of (selected_bits_of column c.member) 0) c.tdo

abbrev pub all_shift : Column → List ChipState → Bool
all_shift column chips = list_all (shifts column) chips
