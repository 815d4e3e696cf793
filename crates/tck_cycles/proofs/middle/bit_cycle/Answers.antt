use Rattle.std.proofs.Common.{sym, arith}
use Rattle.std.proofs.lemmas.Option.{slice_get_past}
use Rattle.scan_vectors.specs.Held.{bits}
use Rattle.tck_cycles.specs.Cycles.{scan_cycles}
use Rattle.tck_cycles.proofs.Places.{length-scan, scan_at}
use Rattle.tck_cycles.proofs.middle.bit_cycle.Goals as goal

pub returns-then-at-len : goal.returns-then-at-len
returns-then-at-len c =
    let vs = bits c.args.vector.now in
    sym (slice_get_past (scan_cycles vs) c.args.at (omega (arith, length-scan vs)))

pub returns : goal.returns
returns c =
    let vs = bits c.args.vector.now in
    rw c.is_some.ensures (sym (scan_at vs c.args.at c.bit-tdi.result c.is_last.result c.bit-tdi.ensures c.is_last.ensures))
