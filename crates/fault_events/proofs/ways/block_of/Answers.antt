use Rattle.std.proofs.Common.{◌≡◌, List, [], ◌∷◌, map, refl, ap, ◌∙◌}
use Rattle.board_plan.specs.View.{net as planned_net}
use Rattle.fault_events.specs.declared.captures.Capture.{Capture}
use Rattle.fault_events.specs.Captures as captures
use Rattle.fault_events.specs.Captures.{Noted}
use Rattle.fault_events.specs.Nets.{with_nets_noted}
use Rattle.fault_events.proofs.ways.block_of.Goals as goal

one-by-one : (f : Noted → Noted) (cs : List Capture) → map (λ x. f (captures.seen x)) cs ≡ map f (map captures.seen cs)
one-by-one f [] = refl
one-by-one f (x ∷ cs) = ap (λ (l : List Noted). f (captures.seen x) ∷ l) (one-by-one f cs)

pub returns-clause-block : goal.returns-clause-block
returns-clause-block c =
    let nets = map planned_net c.args.nets.now in
    record {
      by_net = c.in_ok-by_net.ensures ∙ ap (λ (l : List Capture). map (λ x. with_nets_noted nets (captures.seen x)) l) c.deref.ensures.value
          ∙ one-by-one (with_nets_noted nets) c.args.pins.items;
      starts = c.in_ok-starts.ensures;
    }
