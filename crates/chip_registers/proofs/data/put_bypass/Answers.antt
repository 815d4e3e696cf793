use Rattle.std.proofs.Common.{refl}
use Rattle.chip_registers.proofs.DataLaws.{bypass_put}
use Rattle.chip_registers.proofs.data.put_bypass.Goals as goal

pub returns : goal.returns
returns c = bypass_put c.args.bypass.now _ c.args.at c.args.bits c.args.n c.requires.some c.requires.inside refl
