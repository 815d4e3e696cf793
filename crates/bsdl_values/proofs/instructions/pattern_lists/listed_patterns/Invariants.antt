use Rattle.std.proofs.Common.{◌≡◌, ℕ, ◌≤◌, ◌<◌, length}
use Rattle.bsdl_text.specs.Left.{left}
use Rattle.bsdl_text.specs.Marks.{comma}
use Rattle.bsdl_text.specs.Reading.{further, separated}
use Rattle.bsdl_text.specs.View.{closes}
use Rattle.bsdl_text.proofs.ListLaws.{prepend}
use Rattle.bsdl_values.specs.InstructionValues.{pattern}
use Rattle.bsdl_values.specs.InstructionView.{patterns}
use Rattle.bsdl_values.proofs.instructions.pattern_lists.listed_patterns.Given as goal

-- the patterns so far, and what is read behind them, are the list
abbrev pub invariant-entries : goal.invariant-entries
invariant-entries l =
    (n : ℕ) × (length (left l.rest) ≤ n) × (length (left l.rest) < length (left l.lexer))
    × (separated pattern comma (closes l.close) (left l.lexer) ≡ prepend (patterns l.all) (further pattern comma (closes l.close) n (left l.rest)))

abbrev pub decreases-entries : goal.decreases-entries
decreases-entries l = length (left l.rest)
