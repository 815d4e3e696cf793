use Rattle.std.proofs.Common.{arith}
use Rattle.scan_vectors.specs.Held.{fields}
use Rattle.scan_vectors.proofs.Places.{length-vector}
use Rattle.board_chain.proofs.scan.run_at.Goals as goal

pub returns-then-spot-chain-clause-fits : goal.returns-then-spot-chain-clause-fits
returns-then-spot-chain-clause-fits g c =
    let v = c.args.vector.now in
    let long = length-vector (fields v.header) (fields v.body) (fields v.trailer) in
    omega (arith, long, c.tdi_run-run.ensures.inside, v.fits)
