use Rattle.std.proofs.Common.{◌≡◌, take}
use Rattle.std.specs.List.{fold}
use Rattle.name_keys.specs.Keys.{with_byte}
use Rattle.name_keys.proofs.owned.end_of_text.Given as goal

abbrev pub invariant-loop-byte : goal.invariant-loop-byte
invariant-loop-byte l = l.end ≡ fold with_byte 0 (take l.byte-index l.byte-items)
