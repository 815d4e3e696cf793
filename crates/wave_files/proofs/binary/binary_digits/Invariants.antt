use Rattle.std.proofs.Common.{◌≡◌, ◌≤◌, ◌++◌, drop, length, map}
use Rattle.std.specs.Int.Digits.{digits_of}
use Rattle.wave_files.specs.Codes.{binary, digit_byte}
use Rattle.wave_files.proofs.binary.binary_digits.Given as goal

-- the digits that are written stand behind those that are left
abbrev pub invariant-loop-left : goal.invariant-loop-left
invariant-loop-left l = record {
  split : map digit_byte (digits_of 2 l.left) ++ drop l.start l.digits ≡ binary l.value;
  room : length (digits_of 2 l.left) ≤ l.start;
  most : l.start ≤ 64;
  whole : length l.digits ≡ 64;
}

abbrev pub decreases-loop-left : goal.decreases-loop-left
decreases-loop-left l = l.left
