use Rattle.std.proofs.Common.{◌≡◌, ◌++◌, length}
use Rattle.output_words.specs.Names.{shown}
use Rattle.output_words.proofs.names.put_shown.Given as goal

abbrev pub invariant-loop-first : goal.invariant-loop-first
invariant-loop-first l = l.text.items ++ shown l.rest ≡ l.initial.text.items ++ shown l.name

abbrev pub decreases-loop-first : goal.decreases-loop-first
decreases-loop-first l = length l.rest
