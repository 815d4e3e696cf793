use Rattle.std.proofs.Common.{◌≡◌, ◌+◌, ◌≤◌, map, vec_len}
use Rattle.svf_lex.specs.Left.{left}
use Rattle.svf_words.specs.Words.{groups_of}
use Rattle.svf_parse.specs.Reading.{groups_say}
use Rattle.svf_parse.specs.View.{said_of}
use Rattle.svf_parse.proofs.Grouping.{in_front, group_count}
use Rattle.svf_parse.proofs.text.statements.Given as goal

abbrev pub invariant-loop-all : goal.invariant-loop-all
invariant-loop-all l =
    (in_front (map said_of l.all.items) (groups_say (vec_len l.all + 1) (groups_of (left l.lexer))) ≡ groups_say 1 (groups_of (left l.text))) × (vec_len l.all ≤ 200000)

abbrev pub decreases-loop-all : goal.decreases-loop-all
decreases-loop-all l = group_count (groups_of (left l.lexer))
