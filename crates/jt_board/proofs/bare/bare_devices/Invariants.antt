use Rattle.std.proofs.Common.{◌≡◌, map}
use Rattle.board_plan.specs.View.{member}
use Rattle.jt_board.specs.Bares.{bare_planned}
use Rattle.jt_board.proofs.bare.bare_devices.Given as goal

abbrev pub invariant-loop-i : goal.invariant-loop-i
invariant-loop-i l = map member l.devices.items ≡ bare_planned 1 l.i
