use Rattle.boundary.proofs.DriverLaws.{driven_by_cell}
use Rattle.boundary.proofs.a_driving_cell_drives_its_port.Goals as goal

pub returns : goal.returns
returns c = driven_by_cell
