use Rattle.svf_parse.proofs.FieldValues.{values_are_written}
use Rattle.svf_parse.proofs.laws.a_field_has_the_value_of_its_digits.Goals as goal

pub returns : goal.returns
returns c = values_are_written
