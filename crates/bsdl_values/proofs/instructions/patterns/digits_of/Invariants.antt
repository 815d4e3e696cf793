use Rattle.std.proofs.Common.{◌≡◌, ◌<◌, true, length}
use Rattle.std.specs.List.{list_all}
use Rattle.bsdl_text.specs.Left.{left}
use Rattle.bsdl_values.specs.InstructionValues.{pattern, digits_on, is_digit}
use Rattle.bsdl_values.proofs.PatternLaws.{then_on}
use Rattle.bsdl_values.proofs.instructions.patterns.digits_of.Given as goal

-- the digits so far, and those that stand on, are the pattern
abbrev pub invariant-tokens : goal.invariant-tokens
invariant-tokens l = (pattern (left l.lexer) ≡ then_on l.digits.items (digits_on (left l.rest))) × (length (left l.rest) < length (left l.lexer))
    × (list_all is_digit l.digits.items ≡ true)

abbrev pub decreases-tokens : goal.decreases-tokens
decreases-tokens l = length (left l.rest)
