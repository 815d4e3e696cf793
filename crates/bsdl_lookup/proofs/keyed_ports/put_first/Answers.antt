use Rattle.std.proofs.Common.{arith}
use Rattle.std.proofs.lemmas.Grind.{common_steps}
use Rattle.bsdl_lookup.proofs.KeyLaws.{key_asked}
use Rattle.bsdl_lookup.proofs.keyed_ports.put_first.Goals as goal

pub returns : goal.returns
returns c = λ q. grind (arith, common_steps, key_asked c.args.key q)
