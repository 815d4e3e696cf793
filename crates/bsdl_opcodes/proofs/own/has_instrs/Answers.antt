use Rattle.std.proofs.Common.{arith}
use Rattle.std.proofs.lemmas.List.{length-map}
use Rattle.std.proofs.lemmas.Bool.Decides.{nat_tests}
use Rattle.bsdl_opcodes.proofs.own.has_instrs.Goals as goal

pub returns : goal.returns
returns c = simp length-map (grind (arith, nat_tests, c.is_empty.ensures, c.args.row.now.instrs.ok.0))
