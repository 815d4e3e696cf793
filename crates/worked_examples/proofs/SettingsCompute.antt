-- Each row computes.
use Rattle.std.proofs.Common.{refl}
use Rattle.worked_examples.specs.SettingsRows.{SettingsRows}
use Rattle.jt_bits.specs.Hex.{binary}
use Rattle.svf_parse.specs.Judging.{scan_says_within, run_test_says_within}
use Rattle.svf_words.specs.Numbers.{numeral_of, number_value}
use Rattle.svf_parse.specs.Forms.{one_state, one_trst, each_state, some_states, hertz, scan_of}
use Rattle.svf_parse.specs.Reading.{statement_says, groups_say, text_says}
use Rattle.svf_words.specs.Words.{words_left}
use Rattle.svf_parse.specs.Fields.{cut_at_close, fields_say}
use Rattle.svf_words.specs.Keywords.{command_of, field_of, clock_of, trst_of, state_of}
use Rattle.svf_parse.specs.RunTests.{take_state, take_count, take_time, take_maximum, take_end, run_test_of}
use Rattle.svf_lex.specs.Cutting.{cut}

pub rows_compute : SettingsRows
unfolding binary scan_says_within run_test_says_within numeral_of number_value one_state one_trst each_state some_states hertz scan_of statement_says groups_say text_says words_left cut_at_close fields_say command_of field_of clock_of trst_of state_of take_state take_count take_time take_maximum take_end run_test_of cut
rows_compute = record {
  mask_is_dropped = refl;
  leading_zero = refl;
  too_wide = refl;
  path = refl;
  path_with_gap = refl;
  path_from_pause = refl;
  ends = refl;
  cycles = refl;
  too_slow = refl;
  parse_first = refl;
  parse_first_too = refl;
  no_tdi = refl;
  tdi_taken_over = refl;
  tdi_not_taken_over = refl;
  held = refl;
  trst_absent = refl;
  absent_again = refl;
  held_absent = refl;
  released = refl;
  long_scan = refl;
  longer_scan = refl;
  long_with_header = refl;
  within_with_header = refl;
  long_before = refl;
  longer_before = refl;
  length_before = refl;
  length_too_large_before = refl;
  length_now = refl;
  empty_first = refl;
  unstable = refl;
  header_has_its_own = refl;
  run_state_is_kept = refl;
  most_cycles = refl;
  more_cycles = refl;
  beyond_64_bits = refl;
  slowest = refl;
  parts = refl;
  mask_and_tdo = refl;
  header_and_trailer = refl;
  other_headers = refl;
  unwritten = refl;
  held_in_reset = refl;
  leaves_reset = refl;
  own_refusal = refl;
  longer_than_any = refl;
  gap = refl;
  by_default = refl;
  most_at_once = refl;
  periods = refl;
  judged = refl;
}
