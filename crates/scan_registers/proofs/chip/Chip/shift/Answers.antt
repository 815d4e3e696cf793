use Rattle.scan_registers.proofs.ChipLaws.{selected_there}
use Rattle.scan_registers.proofs.chip.Chip.shift.Goals as goal

pub shift_in-requires-in-Dr : goal.shift_in-requires-in-Dr
shift_in-requires-in-Dr g c = selected_there c.self.inside.device c.self.inside.decoded _ c.self.invariant.formed c.self.invariant.fits c.self.invariant.lengths
