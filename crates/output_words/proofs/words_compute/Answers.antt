use Rattle.std.proofs.Common.{refl, arith}
use Rattle.std.proofs.lemmas.Fmt.{decimal_digit}
use Rattle.output_words.proofs.words_compute.Goals as goal

pub returns : goal.returns
returns c = record {
  line_feed_in_a_name = refl;
  backslash_in_a_name = refl;
  delete_in_a_name = refl;
  other_bytes_stay = refl;
  first_high_control_in_a_name = refl;
  last_high_control_in_a_name = refl;
  blank_behind_them_stays = refl;
  same_byte_elsewhere_stays = refl;
  highest_bit_first = refl;
  position = rw (decimal_digit 3 (omega arith), decimal_digit 1 (omega arith)) refl;
  total = rw (decimal_digit 3 (omega arith)) refl;
}
