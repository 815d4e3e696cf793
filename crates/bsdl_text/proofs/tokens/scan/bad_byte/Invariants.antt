use Rattle.std.proofs.Common.{◌≡◌, ◌-◌, ◌≤◌, length, drop}
use Rattle.bsdl_text.specs.Cutting.{cut, bad_place, cuts_of}
use Rattle.bsdl_text.proofs.tokens.scan.bad_byte.Given as goal

abbrev pub invariant-loop-token : goal.invariant-loop-token
invariant-loop-token l = (l.at ≤ length l.source) × (bad_place (cuts_of l.quoted l.source) ≡ bad_place (cut l.quoted 0 l.at (drop l.at l.source)))

abbrev pub decreases-loop-token : goal.decreases-loop-token
decreases-loop-token l = length l.source - l.at
