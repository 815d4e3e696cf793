use Rattle.bsdl_sizes.proofs.SizeRowsCompute.{size_rows}
use Rattle.bsdl_sizes.proofs.sizes_compute.Goals as goal

pub returns : goal.returns
returns c = size_rows
