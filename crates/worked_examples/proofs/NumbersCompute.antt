-- Worked numbers.
use Rattle.std.proofs.Common.{◌≡◌, true, false, [], codes, Some, None, refl, lit≤}
use Rattle.svf_words.specs.Numbers.{numeral_of}
use Rattle.svf_words.specs.Words.{Word}
use Rattle.svf_words.specs.Written as written
use Rattle.svf_words.proofs.WrittenLaws.{reads_what_is_written}
use Rattle.worked_examples.specs.NumberRows.{number, WritesNone, NumberRows}

none : (w : Word) → numeral_of w ≡ None → WritesNone w
none w e n h = let some : numeral_of w ≡ Some n = (reads_what_is_written n w).0 h in cc

pub number_rows : NumberRows
unfolding numeral_of
number_rows = record {
  digits = (reads_what_is_written (number (codes "12") [] false []) (codes "12")).1 refl;
  point_at_the_end = (reads_what_is_written (number (codes "12") [] false []) (codes "12.")).1 refl;
  exponent = record {
    fraction = codes ".5";
    exponent = codes "E1";
    whole_digits = refl;
    fraction_written = written.point (codes "5") refl;
    some_digit = lit≤ tt;
    exponent_written = written.exponent 69 false [] (codes "1") written.large written.unsigned refl (lit≤ tt);
    parts = refl;
  };
  point_in_front = record {
    fraction = codes ".5";
    exponent = codes "e-3";
    whole_digits = refl;
    fraction_written = written.point (codes "5") refl;
    some_digit = lit≤ tt;
    exponent_written = written.exponent 101 true (codes "-") (codes "3") written.small written.minus refl (lit≤ tt);
    parts = refl;
  };
  zeros = (reads_what_is_written (number (codes "1") (codes "00") true (codes "003")) (codes "1.00E-003")).1 refl;
  plus = (reads_what_is_written (number (codes "3") [] false (codes "6")) (codes "3E+6")).1 refl;
  no_digit = none (codes ".") refl;
  no_mantissa = none (codes "E1") refl;
  no_exponent = none (codes "1E") refl;
  sign_alone = none (codes "1E+") refl;
  two_points = none (codes "1.2.3") refl;
  sign_in_front = none (codes "-1") refl;
  empty = none [] refl;
}
