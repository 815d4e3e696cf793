use Rattle.std.proofs.Common.{map, ◌+◌, ◌-◌, ◌∙◌, arith}
use Rattle.std.proofs.lemmas.List.{length-map}
use Rattle.std.proofs.lemmas.Option.{slice_get_within}
use Rattle.tck_cycles.specs.Cycles.{entering}
use Rattle.tck_cycles.specs.Middles.{middle_cycles}
use Rattle.tck_cycles.specs.Shifts.{shift_cycle}
use Rattle.tck_cycles.proofs.Places.{middle_at}
use Rattle.tck_cycles.proofs.source.Source.shifts.Goals as goal

pub returns-clause-cycles : goal.returns-clause-cycles
returns-clause-cycles c = λ j h.
    let s = c.args.self.now in
    let l = length-map s.lead.items entering in
    let k = s.at - c.len-lead.result + j in
    let there = c.shifts.ensures.cycles j h in
    middle_at (map entering s.lead.items) (middle_cycles s.middle) (map entering s.tail.items) (s.at + j) k (omega (arith, l))
    (slice_get_within (middle_cycles s.middle) k (shift_cycle c.shifts.result j) there) ∙ there
