use Rattle.scan_registers.proofs.ChipLaws.{selected_there}
use Rattle.scan_registers.proofs.chip.ChipLink.put_register.Goals as goal

pub put_run-requires-in-Dr-clause-there : goal.put_run-requires-in-Dr-clause-there
put_run-requires-in-Dr-clause-there g c = selected_there c.self.inside.device c.self.inside.decoded _ c.self.invariant.formed c.self.invariant.fits c.self.invariant.lengths
