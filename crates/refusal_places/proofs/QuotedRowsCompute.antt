-- The worked places within quotes compute.
use Rattle.std.proofs.Common.{refl}
use Rattle.bsdl_text.specs.Cutting.{cut}
use Rattle.bsdl_text.specs.Reading.{chain, further}
use Rattle.bsdl_values.specs.InstructionValues.{digits_on}
use Rattle.refusal_places.specs.QuotedRows.{QuotedRows}

pub quoted_rows : QuotedRows
unfolding cut chain further digits_on
quoted_rows = record {
  bad_digits = refl;
  second_string = refl;
  over_both = refl;
  bad_byte = refl;
  ends_early = refl;
  ends_early_behind = refl;
  no_bracket = refl;
  no_text = refl;
  spot_in_the_text = refl;
  spot_in_a_string = refl;
  no_description = refl;
  named = refl;
  unnamed = refl;
  elsewhere = refl;
}
