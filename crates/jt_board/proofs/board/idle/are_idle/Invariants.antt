use Rattle.std.proofs.Common.{◌≡◌, take}
use Rattle.std.specs.List.{list_all}
use Rattle.jt_board.specs.Idling.{is_idle_byte}
use Rattle.jt_board.proofs.board.idle.are_idle.Given as goal

abbrev pub invariant-loop-byte : goal.invariant-loop-byte
invariant-loop-byte l = l.all ≡ list_all is_idle_byte (take l.byte-index l.piece)
