use Rattle.std.proofs.Common.{arith}
use Rattle.tck_cycles.specs.Sources.{whole}
use Rattle.tck_cycles.proofs.Places.{alike_fewer}
use Rattle.tck_cycles.proofs.source.Source.next_alike.Goals as goal

pub returns-clause-gives : goal.returns-clause-gives
returns-clause-gives c =
    let s = c.args.self.now in
    alike_fewer (whole s) s.at c.alike-times.result.1 c.min-times.result c.alike-times.result.0 (omega (arith, c.min-times.ensures)) c.alike-times.ensures.gives
