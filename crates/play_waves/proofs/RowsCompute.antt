-- The rows compute.
use Rattle.std.proofs.Common.{refl, arith}
use Rattle.std.proofs.lemmas.Fmt.{decimal_digit}
use Rattle.play_waves.specs.Rows.{WaveRows}

pub wave_rows : WaveRows
wave_rows = record {
  first_code = refl;
  last_of_one = refl;
  first_of_two = refl;
  last_of_two = refl;
  first_of_three = refl;
  last_of_three = refl;
  first_of_four = refl;
  heading_row = rw (decimal_digit 1 (omega arith), decimal_digit 2 (omega arith)) refl;
  heading_noted = rw (decimal_digit 1 (omega arith), decimal_digit 2 (omega arith)) refl;
  odd_period = rw (decimal_digit 0 (omega arith), decimal_digit 2 (omega arith), decimal_digit 3 (omega arith), decimal_digit 5 (omega arith)) refl;
  second_statement = rw (decimal_digit 0 (omega arith)) refl;
  opening_is_none = refl;
  short_rest = refl;
  long_rest = refl;
  short_waits = refl;
  long_waits = refl;
  scan_row = refl;
  wanted_row = refl;
  first_failing_row = refl;
  each_failing_row = refl;
  stopped = refl;
  heading_of_two = rw (decimal_digit 2 (omega arith)) refl;
  net_row = refl;
  trst_row = refl;
  extras_row = refl;
  heading_of_extras = rw (decimal_digit 2 (omega arith)) refl;
  heading_of_pins = rw (decimal_digit 2 (omega arith)) refl;
  pin_of_u1 = refl;
  pin_of_u1_a = refl;
  pulls_row = refl;
  fights_row = refl;
  weak_zero = refl;
  nothing_driven = refl;
}
