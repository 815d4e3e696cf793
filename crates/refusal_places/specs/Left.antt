-- What is left to be given of the positions of statements.
use Rattle.std.specs.Prelude.{List, map}
use Rattle.svf_lex.specs.Left.{left}
use Rattle.output_words.specs.declared.lines.Position.{Position}
use Rattle.refusal_places.specs.declared.text_positions.statements.StatementPositions.{StatementPositions}
use Rattle.refusal_places.specs.Positions.{position_at}
use Rattle.refusal_places.specs.Starts.{starts}

-- the positions that are left
abbrev pub left_of : StatementPositions → List Position
left_of s = map (position_at s.text.now) (starts s.is_open (left s.lexer))
