use Rattle.std.proofs.Common.{rules, ◌≡◌, ◌++◌, false, [], List, Option, length, map, refl, sym, ap, subst, ◌∙◌, append_assoc}
use Rattle.std.specs.List.{list_any}
use Rattle.std.proofs.lemmas.List.{append-nil, length-map}
use Rattle.svf_programs.specs.Sizes.{program_of}
use Rattle.board_plan.specs.declared.plan.PlannedNet.{PlannedNet}
use Rattle.board_plan.specs.Planned.{all_pins}
use Rattle.board_plan.specs.View.{net as planned_net, wiring}
use Rattle.play_model.specs.declared.ending.Ending.{Ending}
use Rattle.fault_events.specs.Blocks.{noted_in}
use Rattle.fault_events.specs.Captures.{Noted, captures, seen}
use Rattle.fault_serving.specs.Serving.{IsTelling, endings_by, is_open, judged_on}
use Rattle.fault_serving.proofs.OnePlay.{all_closed, all_open, judged_more, none_there, some_there}
use Rattle.fault_serving.proofs.serving.all_endings.Goals as goal

pub rounds-init : goal.rounds-init
rounds-init c =
    let w = wiring c.args.plan.now in
    record {
      done = [];
      rest = captures (program_of c.args.program.now) w;
      all = refl;
      leaves = c.in_ok-play.ensures;
      judged = c.in_ok-endings.ensures.items_if_clones_equal (λ y h. search rules) ∙ all_open w.nets c.args.ways.now;
    }

pub next_block-requires-clause-way : goal.next_block-requires-clause-way
next_block-requires-clause-way c = c.rounds.invariant.leaves.way

pub returns-then-is_empty : goal.returns-then-is_empty
returns-then-is_empty c =
    let w = wiring c.args.plan.now in
    let i = c.rounds.invariant in
    let b = c.in_ok-pins.ensures i.rest (all_pins w.nets) i.leaves in
    let empty = none_there c.in_ok-pins.pins.items _ c.is_empty.result c.is_empty.ensures c.in_ok-pins.pins.ok.0 c.if-is_empty.true in
    let none : i.rest ≡ [] = b.are ∙ (λ j. map seen (empty j) ++ b.over empty j) in
    i.judged ∙ ap (λ (l : List Noted). endings_by w.nets l c.args.ways.now)
    (sym (i.all ∙ ap (λ (l : List Noted). i.done ++ l) none ∙ append-nil i.done))

pub returns : goal.returns
returns c =
    let w = wiring c.args.plan.now in
    let ws = c.args.ways.now in
    let i = c.rounds.invariant in
    let closed : list_any is_open (endings_by w.nets i.done ws) ≡ false =
    ap (λ (es : List (Option Ending)). list_any is_open es) (sym (c.deref.ensures.value ∙ i.judged)) ∙ sym c.is_any_open.ensures ∙ c.rounds-test.false in
    i.judged ∙ all_closed w.nets i.done i.rest ws closed ∙ ap (λ (l : List Noted). endings_by w.nets l ws) (sym i.all)

pub judged-endings-requires-clause-telling : goal.judged-endings-requires-clause-telling
judged-endings-requires-clause-telling c =
    subst (λ (ns : List PlannedNet). IsTelling (map planned_net ns) c.in_ok-telling.telling) (c.deref-in-rounds.ensures.value ∙ sym c.deref-in-rounds-2.ensures.value) c.in_ok-telling.ensures.telling

pub judged-endings-requires-clause-long : goal.judged-endings-requires-clause-long
judged-endings-requires-clause-long c = ap (λ (es : List (Option Ending)). length es) c.rounds.invariant.judged ∙ length-map c.args.ways.now _

pub rounds-preserved : goal.rounds-preserved
rounds-preserved c =
    let w = wiring c.args.plan.now in
    let i = c.rounds.invariant in
    let b = c.in_ok-pins.ensures i.rest (all_pins w.nets) i.leaves in
    let more = noted_in c.in_ok-telling.telling.block in
    record {
      done = i.done ++ more;
      rest = b.rest;
      all = i.all ∙ ap (λ (l : List Noted). i.done ++ l) b.are
          ∙ sym (append_assoc i.done (map seen c.in_ok-pins.pins.items) b.rest)
          ∙ ap (λ (l : List Noted). (i.done ++ l) ++ b.rest) (sym c.in_ok-telling.ensures.noted);
      leaves = b.leaves;
      judged = c.judged-endings.ensures
          ∙ ap (λ (ns : List PlannedNet). judged_on (map planned_net ns) more c.args.ways.now c.rounds.endings.items) c.deref-in-rounds-2.ensures.value
          ∙ ap (λ (es : List (Option Ending)). judged_on w.nets more c.args.ways.now es) i.judged
          ∙ judged_more w.nets i.done more c.args.ways.now;
    }

pub rounds-smaller : goal.rounds-smaller
rounds-smaller c =
    let i = c.rounds.invariant in
    let b = c.in_ok-pins.ensures i.rest (all_pins (wiring c.args.plan.now).nets) i.leaves in
    b.fewer (some_there c.in_ok-pins.pins.items _ c.is_empty.result c.is_empty.ensures c.in_ok-pins.pins.ok.0 c.if-is_empty.false)
