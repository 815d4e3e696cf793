use Rattle.std.proofs.Common.{◌≡◌, length}
use Rattle.byte_streams.proofs.Fronts.{AppendsUpTo}
use Rattle.output_words.specs.Names.{shown}
use Rattle.output_words.proofs.names.write_shown.Given as goal

-- all that stands before the rest was written
abbrev pub invariant-loop-first : goal.invariant-loop-first
invariant-loop-first g l = record {
  none_lost : l.out.failures ≡ 0;
  sent : AppendsUpTo (g.W.Write.contents l.initial.out.inner) (g.W.Write.contents l.out.inner) (shown l.name) (shown l.rest);
}

abbrev pub decreases-loop-first : goal.decreases-loop-first
decreases-loop-first g l = length l.rest
