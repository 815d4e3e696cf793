use Rattle.std.proofs.Common.{◌≡◌, ◌≤◌, ◌-◌, map, take}
use Rattle.std.specs.Char.{to_ascii_uppercase}
use Rattle.name_keys.proofs.alike.Given as goal

abbrev pub invariant-loop-same : goal.invariant-loop-same
invariant-loop-same l = record {
  within : l.same ≤ l.both;
  alike : map to_ascii_uppercase (take l.same l.one) ≡ map to_ascii_uppercase (take l.same l.other);
}

abbrev pub decreases-loop-same : goal.decreases-loop-same
decreases-loop-same l = l.both - l.same
