use Rattle.std.proofs.Common.{◌≡◌, drop}
use Rattle.board_model.specs.Chain.{after_bytes}
use Rattle.play_direct.proofs.stepping.take_all.Given as goal

abbrev pub invariant-loop-byte : goal.invariant-loop-byte
invariant-loop-byte l = after_bytes (drop l.byte-index l.bytes) l.board ≡ after_bytes l.bytes l.initial.board
