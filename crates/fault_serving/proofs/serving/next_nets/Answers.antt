use Rattle.std.proofs.Common.{◌++◌, [], List, length, map, refl, sym, ap, ap₂, ◌∙◌, append_assoc, arith}
use Rattle.std.proofs.lemmas.List.{map-append}
use Rattle.svf_programs.specs.Left.{left}
use Rattle.svf_programs.specs.Steps.{Numbered}
use Rattle.board_plan.specs.View.{net as planned_net}
use Rattle.fault_events.specs.declared.captures.Capture.{Capture}
use Rattle.fault_events.specs.declared.nets.NetCapture.{NetCapture}
use Rattle.fault_events.specs.Captures as events
use Rattle.fault_events.specs.Captures.{Noted, noted_by}
use Rattle.fault_events.specs.Nets.{seen, with_nets_noted}
use Rattle.fault_serving.proofs.Fronts.{one_by_one, under_way}
use Rattle.fault_serving.proofs.OnePlay.{none_there, some_there}
use Rattle.fault_serving.proofs.serving.next_nets.Goals as goal

pub rounds-init : goal.rounds-init
rounds-init c = record {
  way = c.requires;
  noted = λ cs pins are. ([], cs, refl, ap (λ (l : List NetCapture). map seen l) c.new-list.ensures.items, are);
  fewer = λ some. absurd (some c.new-list.ensures.items);
  most = omega arith;
}

pub next_block-requires-clause-way : goal.next_block-requires-clause-way
next_block-requires-clause-way c = c.rounds.invariant.way

pub returns-then-is_empty : goal.returns-then-is_empty
returns-then-is_empty c = λ cs pins are.
    let i = c.rounds.invariant in
    let x = i.noted cs pins are in
    let b = c.in_ok-next.ensures x.1 pins x.4 in
    let empty = none_there c.in_ok-next.next.items _ c.is_empty.result c.is_empty.ensures c.in_ok-next.next.ok.0 c.if-is_empty.true in
    record {
      first = x.0;
      rest = b.rest;
      are = x.2 ∙ ap (λ (l : List Noted). x.0 ++ l) (b.are ∙ (λ j. map events.seen (empty j) ++ b.rest));
      by_net = x.3;
      leaves = b.leaves;
      over = λ none. b.over empty;
      fewer = λ some. omega (arith, i.fewer some, ap (λ (l : List Numbered). length l) (b.none empty));
    }

pub returns : goal.returns
returns c = λ cs pins are.
    let i = c.rounds.invariant in
    let x = i.noted cs pins are in
    record {
      first = x.0;
      rest = x.1;
      are = x.2;
      by_net = x.3;
      leaves = x.4;
      over = λ none. absurd (omega (arith, c.rounds-test.false, ap (λ (l : List NetCapture). length l) none));
      fewer = i.fewer;
    }

pub rounds-preserved : goal.rounds-preserved
rounds-preserved c =
    let nets = map planned_net c.args.nets.now in
    let i = c.rounds.invariant in
    let next = c.in_ok-next.next.items in
    let own = c.in_ok-next.ensures (noted_by c.rounds.play.numbers.pins.items (left c.rounds.play.steps) i.way.state) c.rounds.play.numbers.pins.items
    (under_way c.rounds.play i.way) in
    let some = some_there next _ c.is_empty.result c.is_empty.ensures c.in_ok-next.next.ok.0 c.if-is_empty.false in
    record {
      way = own.leaves.way;
      noted = λ cs pins are.
          let x = i.noted cs pins are in
          let b = c.in_ok-next.ensures x.1 pins x.4 in
          let more = map events.seen next in (
            x.0 ++ more,
            b.rest,
            x.2 ∙ ap (λ (l : List Noted). x.0 ++ l) b.are ∙ sym (append_assoc x.0 more b.rest),
            c.in_ok-put_net_captures.ensures
                ∙ ap₂ (λ (a b : List Noted). a ++ b) x.3
                (ap (λ (l : List Capture). map (λ d. with_nets_noted nets (events.seen d)) l) c.deref.ensures.value ∙ one_by_one (with_nets_noted nets) next)
                ∙ sym (map-append (with_nets_noted nets) x.0 more),
            b.leaves,
          );
      fewer = λ e. omega (arith, i.most, own.fewer some);
      most = omega (arith, i.most, own.fewer some);
    }

pub rounds-smaller : goal.rounds-smaller
rounds-smaller c =
    let i = c.rounds.invariant in
    let own = c.in_ok-next.ensures (noted_by c.rounds.play.numbers.pins.items (left c.rounds.play.steps) i.way.state) c.rounds.play.numbers.pins.items
    (under_way c.rounds.play i.way) in
    own.fewer (some_there c.in_ok-next.next.items _ c.is_empty.result c.is_empty.ensures c.in_ok-next.next.ok.0 c.if-is_empty.false)
