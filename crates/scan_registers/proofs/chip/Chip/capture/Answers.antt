use Rattle.std.proofs.Common.{ap, ◌∙◌}
use Rattle.chip_instructions.specs.Device.{Device}
use Rattle.chip_instructions.specs.Fitting.{fixed_of}
use Rattle.scan_registers.proofs.ChipLaws.{selected_there, fixed_fits}
use Rattle.scan_registers.proofs.chip.Chip.capture.Goals as goal

pub capture-requires-in-Dr-clause-there : goal.capture-requires-in-Dr-clause-there
capture-requires-in-Dr-clause-there g c = selected_there c.self.inside.device c.self.inside.decoded _ c.self.invariant.formed c.self.invariant.fits c.self.invariant.lengths

pub capture-requires-in-Dr-clause-fixed : goal.capture-requires-in-Dr-clause-fixed
capture-requires-in-Dr-clause-fixed g c = fixed_fits c.self.inside.device c.self.inside.decoded _ _ c.self.invariant.fits c.self.invariant.lengths (c.fixed_bits.ensures ∙ ap (λ (d : Device). fixed_of d c.self.inside.decoded.fixed) c.get-in-Dr.ensures)
