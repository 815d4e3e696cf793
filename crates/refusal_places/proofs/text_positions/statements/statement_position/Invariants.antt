use Rattle.std.proofs.Common.{◌≡◌, ◌-◌, slice_get}
use Rattle.refusal_places.specs.Left.{left_of}
use Rattle.refusal_places.specs.Starts.{places_of}
use Rattle.refusal_places.proofs.text_positions.statements.statement_position.Given as goal

-- what is left has the position so many places further on
abbrev pub invariant-loop-position : goal.invariant-loop-position
invariant-loop-position l = slice_get (left_of l.position-iterator) l.before ≡ slice_get (places_of l.text) (l.number - 1)
