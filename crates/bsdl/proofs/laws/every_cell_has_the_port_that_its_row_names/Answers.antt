use Rattle.bsdl.proofs.CellLaws.{every_device}
use Rattle.bsdl.proofs.laws.every_cell_has_the_port_that_its_row_names.Goals as goal

pub returns : goal.returns
returns c = every_device
