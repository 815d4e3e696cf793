use Rattle.std.proofs.Common.{◌≡◌, ◌-◌, Some, map, sym, ◌∙◌, arith}
use Rattle.std.proofs.lemmas.List.{length-map}
use Rattle.tck_cycles.specs.Cycles.{entering}
use Rattle.tck_cycles.specs.Middles.{middle_cycles}
use Rattle.std.proofs.lemmas.Option.{slice_get_within}
use Rattle.std.specs.Prelude.{slice_get}
use Rattle.tck_cycles.proofs.Places.{lead_at, middle_at, tail_at, past_end}
use Rattle.tck_cycles.proofs.source.Source.present.Goals as goal

pub returns-then-self-lead : goal.returns-then-self-lead
returns-then-self-lead c =
    let s = c.args.self.now in
    let l = length-map s.lead.items entering in
    rw c.as_slice.ensures.value at c.path_cycle.ensures
    ∙ sym (lead_at (map entering s.lead.items) (middle_cycles s.middle) (map entering s.tail.items) s.at (omega (arith, l)))

pub returns-in-Some : goal.returns-in-Some
returns-in-Some c =
    let s = c.args.self.now in
    let l = length-map s.lead.items entering in
    let k = s.at - c.len-lead.result in
    let there : slice_get (middle_cycles s.middle) k ≡ Some c.in-Some.cycle = sym c.cycle.ensures ∙ c.in-Some.is in
    sym there
    ∙ sym (middle_at (map entering s.lead.items) (middle_cycles s.middle) (map entering s.tail.items) s.at k (omega (arith, l)) (slice_get_within (middle_cycles s.middle) k c.in-Some.cycle there))

pub returns : goal.returns
returns c =
    let s = c.args.self.now in
    let l = length-map s.lead.items entering in
    let past = past_end (middle_cycles s.middle) (s.at - c.len-lead.result) (sym c.cycle.ensures ∙ c.in_default.is) in
    rw c.as_slice-2.ensures.value at c.path_cycle-2.ensures
    ∙ sym (tail_at (map entering s.lead.items) (middle_cycles s.middle) (map entering s.tail.items) s.at c.saturating_sub.result (omega (arith, l, past)))
