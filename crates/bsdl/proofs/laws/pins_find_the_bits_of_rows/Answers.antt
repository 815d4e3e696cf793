use Rattle.bsdl.proofs.BitLaws.{pins_find}
use Rattle.bsdl.proofs.laws.pins_find_the_bits_of_rows.Goals as goal

pub returns : goal.returns
returns c = pins_find
