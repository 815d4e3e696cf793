use Rattle.std.proofs.Common.{map, ◌-◌, arith}
use Rattle.std.proofs.lemmas.List.{length-map}
use Rattle.tck_cycles.specs.Cycles.{entering}
use Rattle.tck_cycles.proofs.Places.{alike_stayed}
use Rattle.tck_cycles.proofs.source.Source.stays.Goals as goal

pub returns-in-Stay-clause-gives : goal.returns-in-Stay-clause-gives
returns-in-Stay-clause-gives c = λ some.
    let s = c.args.self.now in
    let l = length-map s.lead.items entering in
    let n = c.in-Stay.cycles in
    let k = c.args.self.now.at - c.len-lead.result in
    rw (c.in-Stay.is, c.saturating_sub.ensures)
    (alike_stayed (map entering s.lead.items) (map entering s.tail.items) n k s.at (entering c.in-Stay.field-0) (omega (arith, l)) (omega (arith, some)))
