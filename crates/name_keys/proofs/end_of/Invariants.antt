use Rattle.std.proofs.Common.{◌≡◌, take}
use Rattle.std.specs.Char.{to_ascii_uppercase}
use Rattle.std.specs.List.{fold}
use Rattle.name_keys.specs.Keys.{with_byte}
use Rattle.name_keys.proofs.end_of.Given as goal

abbrev pub invariant-loop-byte : goal.invariant-loop-byte
invariant-loop-byte l = l.end ≡ fold (λ number byte. with_byte number (to_ascii_uppercase byte)) 0 (take l.byte-index l.byte-items)
