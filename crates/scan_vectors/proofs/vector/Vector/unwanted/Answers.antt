use Rattle.std.proofs.Common.{arith}
use Rattle.scan_vectors.specs.Held.{bits, fields}
use Rattle.scan_vectors.proofs.Words.{unwanted_run}
use Rattle.scan_vectors.proofs.vector.Vector.unwanted.Goals as goal

pub returns-clause-inside : goal.returns-clause-inside
returns-clause-inside c = omega (arith, c.find-place.ensures.whole, c.unwanted.ensures.inside)

pub returns-clause-bits : goal.returns-clause-bits
returns-clause-bits c =
    let f = c.find-place in let r = c.unwanted in
    unwanted_run (bits c.args.self.now) c.args.i f.result.0 (fields f.result.1.now) f.result.2 _ r.ensures.inside f.ensures.bits r.ensures.bits
