use Rattle.scan_registers.proofs.ChipLaws.{selected_there}
use Rattle.scan_registers.proofs.chip.ChipLink.register_word.Goals as goal

pub word_at-requires-in-Dr : goal.word_at-requires-in-Dr
word_at-requires-in-Dr g c = selected_there c.self.inside.device c.self.inside.decoded _ c.self.invariant.formed c.self.invariant.fits c.self.invariant.lengths
