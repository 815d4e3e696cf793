-- The worked descriptions compute.
use Rattle.std.proofs.Common.{refl}
use Rattle.bsdl_text.specs.Cutting.{cut}
use Rattle.bsdl_text.specs.Reading.{chain, further}
use Rattle.bsdl_values.specs.InstructionValues.{digits_on}
use Rattle.bsdl_entity.specs.Attributes.{attribute_of}
use Rattle.bsdl_values.specs.Passing.{past_closing, past_semi}
use Rattle.bsdl_entity.specs.Entity.{items}
use Rattle.bsdl_sizes.specs.SizeRows.{SizeRows}

pub size_rows : SizeRows
unfolding cut chain further items attribute_of past_closing past_semi digits_on
size_rows = record {
  one_bit = refl;
  no_cell = refl;
  short_opcode = refl;
  second_string = refl;
  long_capture = refl;
  short_code = refl;
  no_bit = refl;
  long_captured = refl;
  not_own = refl;
  two_lengths = refl;
  wide = refl;
  large_number = refl;
  large_index = refl;
  many_bits = refl;
  long_register = refl;
}
