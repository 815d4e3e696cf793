use Rattle.std.proofs.Common.{arith}
use Rattle.scan_vectors.specs.Held.{bits}
use Rattle.tck_cycles.specs.Cycles.{scan_cycles}
use Rattle.tck_cycles.proofs.Places.{length-scan, reads_at_most, reads_more, reads_past}
use Rattle.tck_cycles.proofs.middle.wanted_from.Goals as goal

pub overflow_add-wanted : goal.overflow_add-wanted
overflow_add-wanted c =
    let cs = scan_cycles (bits c.args.vector.now) in
    let more = reads_more cs c.loop-place.place c.reads_at.result c.reads_at.ensures in
    omega (arith, more, c.loop-place.invariant, reads_at_most cs c.args.at, length-scan (bits c.args.vector.now), c.len-place-end.ensures, c.from-wanted.ensures)

pub loop-place-preserved : goal.loop-place-preserved
loop-place-preserved c =
    let cs = scan_cycles (bits c.args.vector.now) in
    let more = reads_more cs c.loop-place.place c.reads_at.result c.reads_at.ensures in
    omega (arith, more, c.loop-place.invariant, c.from-wanted.ensures)

pub returns : goal.returns
returns c =
    let cs = scan_cycles (bits c.args.vector.now) in
    let past = reads_past cs c.loop-place.place (omega (arith, c.loop-place-test.false, length-scan (bits c.args.vector.now), c.len-place-end.ensures)) in
    omega (arith, past, c.loop-place.invariant)
