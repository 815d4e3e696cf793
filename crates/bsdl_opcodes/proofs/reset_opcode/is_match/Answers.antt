use Rattle.std.proofs.Common.{map, sym, ◌∙◌}
use Rattle.bsdl_values.specs.InstructionValues.{bit}
use Rattle.bsdl_opcodes.proofs.MatchLaws.{written_match}
use Rattle.bsdl_opcodes.proofs.reset_opcode.is_match.Goals as goal

pub returns : goal.returns
returns c = c.digits_match.ensures ∙ sym (written_match (map bit c.args.pattern.now) (map bit c.args.latch.now))
