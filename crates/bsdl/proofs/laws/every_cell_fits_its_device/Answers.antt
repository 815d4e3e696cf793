use Rattle.bsdl.proofs.FitLaws.{every_device}
use Rattle.bsdl.proofs.laws.every_cell_fits_its_device.Goals as goal

pub returns : goal.returns
returns c = every_device
