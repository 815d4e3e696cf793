use Rattle.std.proofs.Common.{◌≡◌, ◌-◌, ◌≤◌, length, drop}
use Rattle.bsdl_text.specs.Cutting.{cut}
use Rattle.bsdl_text.proofs.tokens.scan.gaps_end.Given as goal

abbrev pub invariant-loop-at : goal.invariant-loop-at
invariant-loop-at l = (l.from ≤ l.at) × (l.at ≤ length l.source) × (cut l.quoted 0 l.from (drop l.from l.source) ≡ cut l.quoted 0 l.at (drop l.at l.source))

abbrev pub decreases-loop-at : goal.decreases-loop-at
decreases-loop-at l = length l.source - l.at
