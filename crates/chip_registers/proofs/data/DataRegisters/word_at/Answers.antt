use Rattle.std.proofs.Common.{refl}
use Rattle.chip_registers.specs.Data.{lengths_of}
use Rattle.chip_registers.proofs.DataLaws.{selected_there}
use Rattle.chip_registers.proofs.data.DataRegisters.word_at.Goals as goal

pub word_at-requires-in-User : goal.word_at-requires-in-User
word_at-requires-in-User g c =
    selected_there (lengths_of g.B.Register.stage c.args.self.now) c.args.selected c.in-User.k c.args.self.now.users.items c.deref.result.now c.requires c.in-User.is refl c.deref.ensures.value
