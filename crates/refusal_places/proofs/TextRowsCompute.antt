-- The worked texts compute.
use Rattle.std.proofs.Common.{refl}
use Rattle.svf_lex.specs.Cutting.{cut}
use Rattle.refusal_places.specs.TextRows.{StatementRows, OffsetRows}

pub statement_rows : StatementRows
unfolding cut
statement_rows = record {
  first = refl;
  second = refl;
  no_third = refl;
  none_before_the_first = refl;
  empty_text = refl;
  behind_line_feed = refl;
  behind_carriage_return = refl;
  behind_both = refl;
  line_feed_first = refl;
  two_carriage_returns = refl;
  line_feed_then_carriage_return = refl;
  tabs_and_feeds_are_one_column = refl;
  empty_statements_do_not_count = refl;
  over_lines = refl;
  behind_comment = refl;
  behind_slashes = refl;
  comment_ends_at_carriage_return = refl;
  comment_of_any_bytes = refl;
  comment_to_the_end = refl;
  marks_start_statements = refl;
  open_at_the_end = refl;
  before_a_bad_byte = refl;
  none_behind_a_bad_byte = refl;
}

pub offset_rows : OffsetRows
offset_rows = record {
  start = refl;
  next = refl;
  end = refl;
  beyond = refl;
  empty = refl;
  at_line_feed = refl;
  behind_line_feed = refl;
  between_both = refl;
  behind_both = refl;
  end_behind_carriage_return = refl;
  bytes_and_not_letters = refl;
}
