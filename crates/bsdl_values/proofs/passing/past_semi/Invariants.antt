use Rattle.std.proofs.Common.{◌≡◌, ◌≤◌, length}
use Rattle.bsdl_text.specs.Left.{left}
use Rattle.bsdl_values.specs.Passing.{past_semi}
use Rattle.bsdl_values.proofs.passing.past_semi.Given as goal

abbrev pub invariant-tokens : goal.invariant-tokens
invariant-tokens l = (past_semi (left l.lexer) ≡ past_semi (left l.rest)) × (length (left l.rest) ≤ length (left l.lexer))

abbrev pub decreases-tokens : goal.decreases-tokens
decreases-tokens l = length (left l.rest)
