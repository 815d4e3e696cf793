use Rattle.std.proofs.Common.{◌≡◌}
use Rattle.svf_lex.specs.Left.{left}
use Rattle.svf_words.specs.Words.{groups_of}
use Rattle.svf_parse.specs.View.{from_words}
use Rattle.svf_parse.proofs.Grouping.{group_count}
use Rattle.svf_parse.proofs.text.next_statement.Given as goal

abbrev pub invariant-loop-fault : goal.invariant-loop-fault
invariant-loop-fault l =
    (from_words (groups_of (left l.text)) ≡ from_words (groups_of (left l.lexer))) × (l.all.items ≡ l.initial.all.items)

abbrev pub decreases-loop-fault : goal.decreases-loop-fault
decreases-loop-fault l = group_count (groups_of (left l.lexer))
