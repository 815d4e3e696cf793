-- Where a byte stands in a text, by lines and columns counted from 1.
use Rattle.std.specs.Prelude.{ℕ, Bool, zero, suc, ◌+◌, ◌==◌, ◌&&◌, ◌||◌, not, nat_le, List, length, get_or}
use Rattle.std.specs.Prelude.{if◌then◌else◌}
use Rattle.output_words.specs.declared.lines.Position.{Position}

abbrev pub line_feed : ℕ
line_feed = 10

abbrev pub carriage_return : ℕ
carriage_return = 13

-- a line ends with this byte of a text: a line feed, or a carriage return that no line feed follows
abbrev pub ends_line : List ℕ → ℕ → Bool
ends_line text k =
    get_or text k 0 == line_feed || (get_or text k 0 == carriage_return && not (get_or text (k + 1) 0 == line_feed))

-- behind a byte that stands here, with which the line ends or not
abbrev pub position_behind : Bool → Position → Position
position_behind ends p =
    if ends then record { line = p.line + 1; column = 1 } else record { line = p.line; column = p.column + 1 }

-- The text begins at line 1, column 1. Behind a byte with which its line ends is the first column of the next line, and
-- behind any other the next column.
abbrev pub position_at : List ℕ → ℕ → Position
position_at text zero = record { line = 1; column = 1 }
position_at text (suc k) = position_behind (ends_line text k) (position_at text k)

-- the position of an offset, of the text's end where it lies beyond
abbrev pub position_of : List ℕ → ℕ → Position
position_of text offset = position_at text (if nat_le offset (length text) then offset else length text)
