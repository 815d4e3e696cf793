-- The worked refusals compute.
use Rattle.std.proofs.Common.{refl, arith}
use Rattle.std.proofs.lemmas.Fmt.{decimal_digit}
use Rattle.jt_bits.specs.Hex.{binary}
use Rattle.svf_lex.specs.Cutting.{cut}
use Rattle.svf_words.specs.Keywords.{command_of}
use Rattle.refusal_places.specs.PlaceRows.{PlaceRows}

pub place_rows : PlaceRows
unfolding cut command_of binary
place_rows = record {
  by_statement = refl;
  by_byte = refl;
  unclosed = refl;
  too_long = refl;
  no_memory = refl;
  of_a_token = refl;
  of_no_token = refl;
  missing = refl;
  bad_cell = rw (decimal_digit 3 (omega arith)) refl;
  of_the_file = refl;
  no_name = refl;
  key_of_the_file = refl;
  key_of_a_device = rw (decimal_digit 3 (omega arith)) refl;
  key_of_a_net = rw (decimal_digit 1 (omega arith)) refl;
  no_toml = rw (decimal_digit 2 (omega arith), decimal_digit 5 (omega arith)) refl;
}
