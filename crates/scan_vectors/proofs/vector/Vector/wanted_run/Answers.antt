use Rattle.std.proofs.Common.{arith}
use Rattle.scan_vectors.specs.Held.{bits, fields}
use Rattle.scan_vectors.proofs.Words.{wanted_run as in_part}
use Rattle.scan_vectors.proofs.vector.Vector.wanted_run.Goals as goal

pub returns-clause-inside : goal.returns-clause-inside
returns-clause-inside c = omega (arith, c.find-place.ensures.whole, c.wanted_run.ensures.len)

pub returns-clause-bits : goal.returns-clause-bits
returns-clause-bits c =
    let f = c.find-place in let r = c.wanted_run in
    in_part (bits c.args.self.now) c.args.i f.result.0 (fields f.result.1.now) f.result.2 _ (omega (arith, f.ensures.inside, r.ensures.len)) f.ensures.bits r.result.care r.result.bits (omega (arith, r.ensures.len)) r.ensures.bits
