-- The patterns that are left.
use Rattle.std.specs.Prelude.{ℕ, List}
use Rattle.bsdl_values.specs.declared.instructions.pattern_lists.PatternIter.{PatternIter}
use Rattle.bsdl_values.specs.Parts.{parts}

-- the digits of each
abbrev pub digits_left : PatternIter → List (List ℕ)
digits_left p = parts p.rest.now
