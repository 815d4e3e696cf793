use Rattle.scan_registers.proofs.ChipLaws.{selected_there}
use Rattle.scan_registers.proofs.chip.ChipLink.register_len.Goals as goal

pub len-requires-in-Dr : goal.len-requires-in-Dr
len-requires-in-Dr g c = selected_there c.self.inside.device c.self.inside.decoded _ c.self.invariant.formed c.self.invariant.fits c.self.invariant.lengths
