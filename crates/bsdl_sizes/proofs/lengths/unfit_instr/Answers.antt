use Rattle.bsdl_text.specs.NumberView.{value}
use Rattle.bsdl_sizes.proofs.lengths.unfit_instr.Goals as goal

pub returns : goal.returns
returns c = c.unfit_instr_by_size.ensures (value c.args.boundary) c.size.ensures
