use Rattle.scan_registers.proofs.ChipLaws.{selected_there}
use Rattle.scan_registers.proofs.chip.ChipWordLink.shift_register.Goals as goal

pub shift_word-requires-in-Dr-clause-there : goal.shift_word-requires-in-Dr-clause-there
shift_word-requires-in-Dr-clause-there g c = selected_there c.self.inside.device c.self.inside.decoded _ c.self.invariant.formed c.self.invariant.fits c.self.invariant.lengths
