-- Texts with where their statements start, and where bytes of them stand.
use Rattle.std.specs.Prelude.{◌≡◌, ℕ, List, [], ◌∷◌, ◌++◌, codes, Option, Some, None}
use Rattle.output_words.specs.declared.lines.Position.{Position}
use Rattle.refusal_places.specs.Positions.{line_feed, carriage_return, position_of}
use Rattle.refusal_places.specs.Starts.{statement_position}

-- line feed, carriage return, and both
abbrev pub lf : List ℕ
lf = line_feed ∷ []

abbrev pub cr : List ℕ
cr = carriage_return ∷ []

abbrev pub crlf : List ℕ
crlf = carriage_return ∷ line_feed ∷ []

abbrev pub at : (line column : ℕ) → Position
at line column = record { line = line; column = column }

-- where statement n of a text starts
abbrev pub Starts : List ℕ → ℕ → Option Position → Type 0
Starts text n position = statement_position text n ≡ position

abbrev pub two : List ℕ
two = codes "STATE IDLE; SDR 4;"

-- Statements count from 1, their empty ones not at all, and start behind gaps.
pub record StatementRows : Type 0 where
  pub first : Starts two 1 (Some (at 1 1))
  pub second : Starts two 2 (Some (at 1 13))
  pub no_third : Starts two 3 None
  pub none_before_the_first : Starts two 0 None
  pub empty_text : Starts [] 1 None
  pub behind_line_feed : Starts (codes "A;" ++ lf ++ codes "B;") 2 (Some (at 2 1))
  pub behind_carriage_return : Starts (codes "A;" ++ cr ++ codes "B;") 2 (Some (at 2 1))
  pub behind_both : Starts (codes "A;" ++ crlf ++ codes "B;") 2 (Some (at 2 1))
  pub line_feed_first : Starts (codes "A;" ++ lf ++ crlf ++ codes "B;") 2 (Some (at 3 1))
  pub two_carriage_returns : Starts (codes "A;" ++ cr ++ cr ++ lf ++ codes "B;") 2 (Some (at 3 1))
  pub line_feed_then_carriage_return : Starts (codes "A;" ++ lf ++ cr ++ codes "B;") 2 (Some (at 3 1))
  pub tabs_and_feeds_are_one_column : Starts (9 ∷ 11 ∷ 12 ∷ 32 ∷ codes "A;") 1 (Some (at 1 5))
  pub empty_statements_do_not_count : Starts (codes "; ;A;;" ++ lf ++ codes " ;B;") 2 (Some (at 2 3))
  pub over_lines : Starts (codes "SDR" ++ lf ++ codes "4" ++ crlf ++ codes "; B;") 2 (Some (at 3 3))
  pub behind_comment : Starts (codes "! a; b" ++ lf ++ codes "A;") 1 (Some (at 2 1))
  pub behind_slashes : Starts (codes "A; // b; c" ++ crlf ++ codes " B;") 2 (Some (at 2 2))
  pub comment_ends_at_carriage_return : Starts (codes "! a" ++ cr ++ codes "A;") 1 (Some (at 2 1))
  pub comment_of_any_bytes : Starts (codes "A;!" ++ (0 ∷ 7 ∷ 34 ∷ 127 ∷ 195 ∷ 255 ∷ []) ++ lf ++ codes "B;") 2
      (Some (at 2 1))
  pub comment_to_the_end : Starts (codes "A; ! B;") 2 None
  pub marks_start_statements : Starts (codes "A; (1);") 2 (Some (at 1 4))
  pub open_at_the_end : Starts (codes "A;" ++ lf ++ codes "B") 2 (Some (at 2 1))
  pub before_a_bad_byte : Starts (codes "A; B #; C;") 2 (Some (at 1 4))
  pub none_behind_a_bad_byte : Starts (codes "A; # B;") 2 None

-- An offset of a text has a position, whatever stands there.
pub record OffsetRows : Type 0 where
  pub start : position_of (codes "ab") 0 ≡ at 1 1
  pub next : position_of (codes "ab") 1 ≡ at 1 2
  pub end : position_of (codes "ab") 2 ≡ at 1 3
  pub beyond : position_of (codes "ab") 9 ≡ at 1 3
  pub empty : position_of [] 0 ≡ at 1 1
  pub at_line_feed : position_of (codes "a" ++ lf ++ codes "b") 1 ≡ at 1 2
  pub behind_line_feed : position_of (codes "a" ++ lf ++ codes "b") 2 ≡ at 2 1
  pub between_both : position_of (codes "a" ++ crlf ++ codes "b") 2 ≡ at 1 3
  pub behind_both : position_of (codes "a" ++ crlf ++ codes "b") 3 ≡ at 2 1
  pub end_behind_carriage_return : position_of (codes "a" ++ cr) 2 ≡ at 2 1
  pub bytes_and_not_letters : position_of (195 ∷ 164 ∷ 98 ∷ []) 2 ≡ at 1 3
