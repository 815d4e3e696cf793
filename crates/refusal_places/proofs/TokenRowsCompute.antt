-- The worked tokens compute.
use Rattle.std.proofs.Common.{refl}
use Rattle.jt_bits.specs.Hex.{binary}
use Rattle.svf_lex.specs.Cutting.{cut}
use Rattle.svf_words.specs.Keywords.{command_of, state_of, field_of, clock_of, trst_of}
use Rattle.svf_words.specs.Numbers.{numeral_of, number_value}
use Rattle.refusal_places.specs.TokenRows.{MisfitRows, OwnRows}

pub misfit_rows : MisfitRows
unfolding cut command_of state_of field_of clock_of trst_of
misfit_rows = record {
  field_twice = refl;
  no_length = refl;
  bracket_twice = refl;
  no_bracket = refl;
  never_closed = refl;
  no_state = refl;
  other_state = refl;
  two_states = refl;
  no_unit = refl;
  other_unit = refl;
  two_counts = refl;
  time_first = refl;
  maximum_alone = refl;
  neither = refl;
  no_end_state = refl;
  no_word = refl;
}

pub own_rows : OwnRows
unfolding cut command_of state_of binary numeral_of number_value
own_rows = record {
  bad_digit = refl;
  bad_length = refl;
  bad_count = refl;
  bad_time = refl;
  too_wide = refl;
  highest_run = refl;
  second_field = refl;
  unstable_last = refl;
  unstable_end = refl;
  gap = refl;
  gap_before = refl;
  no_bits = refl;
  system_clock = refl;
  port = refl;
  long_scan = refl;
  no_field = refl;
  whole_text = refl;
  second_statement = refl;
}
