use Rattle.std.proofs.Common.{length, None, ap, arith}
use Rattle.svf_lex.specs.Cutting.{items}
use Rattle.svf_lex.proofs.Steps.{at_end}
use Rattle.svf_lex.proofs.Lexer.stop.Goals as goal

pub returns : goal.returns
returns c = let source = c.args.self.now.source.now in ap (items None) (at_end source (length source) (omega arith))
