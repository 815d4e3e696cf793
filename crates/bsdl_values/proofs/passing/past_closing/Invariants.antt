use Rattle.std.proofs.Common.{◌≡◌, ◌≤◌, ◌+◌, length}
use Rattle.bsdl_text.specs.Left.{left}
use Rattle.bsdl_values.specs.Passing.{past_closing}
use Rattle.bsdl_values.proofs.passing.past_closing.Given as goal

-- no more brackets are open than tokens were passed
abbrev pub invariant-tokens : goal.invariant-tokens
invariant-tokens l =
    (past_closing 0 (left l.lexer) ≡ past_closing l.depth (left l.rest)) × (length (left l.rest) ≤ length (left l.lexer)) × (l.depth + length (left l.rest) ≤ length (left l.lexer))

abbrev pub decreases-tokens : goal.decreases-tokens
decreases-tokens l = length (left l.rest)
