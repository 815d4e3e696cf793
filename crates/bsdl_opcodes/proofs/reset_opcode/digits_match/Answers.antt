use Rattle.std.proofs.Common.{sym}
use Rattle.bsdl_opcodes.proofs.MatchLaws.{other_length}
use Rattle.bsdl_opcodes.proofs.reset_opcode.digits_match.Goals as goal

pub returns-then-pattern-latch : goal.returns-then-pattern-latch
returns-then-pattern-latch c = sym (other_length c.args.pattern.now c.args.latch.now c.if-pattern-latch.true)
