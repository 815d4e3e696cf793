use Rattle.scan_registers.proofs.ChipLaws.{selected_there}
use Rattle.scan_registers.proofs.chip.Chip.update.Goals as goal

pub update-requires : goal.update-requires
update-requires g c = selected_there c.self.inside.device c.self.inside.decoded _ c.self.invariant.formed c.self.invariant.fits c.self.invariant.lengths
