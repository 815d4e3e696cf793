use Rattle.bsdl_text.specs.NumberView.{value}
use Rattle.bsdl_sizes.proofs.lengths.unfit_opcode.Goals as goal

pub returns : goal.returns
returns c = c.unfit_by_size.ensures (value c.args.len) c.size.ensures
