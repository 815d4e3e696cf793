-- Each row of words, tokens and statements computes.
use Rattle.std.proofs.Common.{refl}
use Rattle.worked_examples.specs.LexRows.{LexRows}
use Rattle.worked_examples.specs.StatementRows.{StatementRows}
use Rattle.worked_examples.specs.WordRows.{WordRows}
use Rattle.jt_bits.specs.Hex.{binary}
use Rattle.svf_parse.specs.Judging.{scan_says_within, run_test_says_within}
use Rattle.svf_words.specs.Numbers.{numeral_of, number_value}
use Rattle.svf_parse.specs.Forms.{one_state, one_trst, each_state, some_states, hertz, scan_of}
use Rattle.svf_parse.specs.Reading.{statement_says, groups_say, text_says}
use Rattle.svf_words.specs.Words.{words_left}
use Rattle.svf_parse.specs.Fields.{cut_at_close, fields_say}
use Rattle.svf_words.specs.Keywords.{command_of, field_of, clock_of, trst_of, state_of}
use Rattle.svf_parse.specs.RunTests.{take_state, take_count, take_time, take_maximum, take_end, run_test_of}
use Rattle.svf_lex.specs.Cutting.{cut}

pub lex_rows : LexRows
unfolding cut
lex_rows = record {
  scan = refl;
  open_bracket = refl;
  second_statement = refl;
  comment_at_the_end = refl;
  hash = refl;
  one_slash = refl;
  last_slash = refl;
  zero = refl;
  nothing = refl;
  mark_alone = refl;
  slashes_alone = refl;
  mark_within = refl;
  line_ends = refl;
  marks_by_line = refl;
  tokens_by_line = refl;
  mark_in_slashes = refl;
  edges = refl;
}

pub statement_rows : StatementRows
unfolding binary scan_says_within run_test_says_within numeral_of number_value one_state one_trst each_state some_states hertz scan_of statement_says groups_say text_says words_left cut_at_close fields_say command_of field_of clock_of trst_of state_of take_state take_count take_time take_maximum take_end run_test_of cut
statement_rows = record {
  fastest = refl;
  slowest = refl;
  by_default = refl;
  rounded_up = refl;
  beyond_a_word = refl;
  point_in_front = refl;
  count_and_time = refl;
  whole_run = refl;
  most_cycles = refl;
  longest_time = refl;
  shortest_time = refl;
  nothing_to_run = refl;
  fields = refl;
  high_digit = refl;
  high_zeros = refl;
  few_digits = refl;
  one_digit = refl;
  no_digit = refl;
  end_of_data = refl;
  end_of_instructions = refl;
  trst_words = refl;
  path = refl;
  none = refl;
  six = refl;
  bad_form = refl;
  bad_number = refl;
  too_wide = refl;
  unsupported = refl;
  too_large = refl;
  second = refl;
  second_of_many = refl;
  behind_a_step = refl;
  open_bracket = refl;
  open_statement = refl;
  hash = refl;
  slash = refl;
}

pub word_rows : WordRows
unfolding binary state_of
word_rows = record {
  words = refl;
  words_in_any_case = refl;
  no_words = refl;
  stable = refl;
  by_ones = refl;
  longest_path = refl;
  path_that_stays = refl;
  written = refl;
  lines = refl;
  answers = refl;
  answers_told = refl;
  reading = refl;
  silent = refl;
  three_digits = refl;
  digits_with_gaps = refl;
  high_zero = refl;
  no_digits = refl;
  gaps_alone = refl;
  in_any_case = refl;
  few_digits = refl;
  many_zeros = refl;
  no_length = refl;
  low_digits = refl;
  wide = refl;
  wide_for_one = refl;
  wide_for_none = refl;
  bad_digit = refl;
  bad_before_wide = refl;
  beyond = refl;
  plain = refl;
  with_x = refl;
  long = refl;
}
