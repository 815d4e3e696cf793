use Rattle.std.proofs.Common.{◌+◌, arith}
use Rattle.jt_bits.specs.Packed.{has_bit}
use Rattle.scan_vectors.specs.Held.{bits}
use Rattle.tck_cycles.proofs.Places.{length-scan, shift_at}
use Rattle.tck_cycles.proofs.middle.vector_shifts.Goals as goal

pub returns-clause-inside : goal.returns-clause-inside
returns-clause-inside c = λ some. omega (arith, length-scan (bits c.args.vector.now))

pub returns-clause-cycles : goal.returns-clause-cycles
returns-clause-cycles c = λ j h.
    let tdi = c.tdi_run-tdi.result in
    let wanted = c.wanted_run-wanted.result in
    shift_at (bits c.args.vector.now) (c.args.at + j) (has_bit tdi.bits j) (has_bit wanted.care j) (has_bit wanted.bits j)
    (omega (arith, h)) (c.tdi_run-tdi.ensures.bits j (omega (arith, h))) (c.wanted_run-wanted.ensures.bits j (omega (arith, h)))
