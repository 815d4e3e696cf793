use Rattle.std.proofs.Common.{◌≡◌, drop, map}
use Rattle.std.specs.Char.{to_ascii_uppercase}
use Rattle.std.specs.Cmp.Lexicographic.{slice_cmp}
use Rattle.std.specs.Ordering.{nat_cmp}
use Rattle.name_keys.proofs.compare.Given as goal

abbrev pub invariant-loop-i : goal.invariant-loop-i
invariant-loop-i l =
    slice_cmp nat_cmp (map to_ascii_uppercase (drop l.i l.one)) (map to_ascii_uppercase (drop l.i l.other)) ≡ slice_cmp nat_cmp (map to_ascii_uppercase l.one) (map to_ascii_uppercase l.other)
