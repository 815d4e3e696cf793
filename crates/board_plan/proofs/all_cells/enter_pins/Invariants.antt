use Rattle.std.proofs.Common.{take}
use Rattle.board_plan.specs.AllCellNets.{EntersPins, lists_of}
use Rattle.board_plan.proofs.all_cells.enter_pins.Given as goal

abbrev pub invariant-loop-pin : goal.invariant-loop-pin
invariant-loop-pin l = EntersPins l.net (take l.pin-index l.pins) (lists_of l.initial.tables) (lists_of l.tables)
