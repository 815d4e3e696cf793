use Rattle.std.proofs.Common.{◌≡◌, ◌≤◌, take}
use Rattle.player.specs.PlaceInPlay.{reads}
use Rattle.player.proofs.giving.reads_in.Given as goal

abbrev pub invariant-loop-byte : goal.invariant-loop-byte
invariant-loop-byte l = record {
  asked : l.asked ≡ reads (take l.byte-index l.bytes);
  most : l.asked ≤ l.byte-index;
}
