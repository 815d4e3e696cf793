use Rattle.std.proofs.Common.{rules, List, length, map, Option, [], sym, ap, subst, ◌∙◌}
use Rattle.std.proofs.lemmas.List.{length-map}
use Rattle.svf_programs.specs.Sizes.{program_of}
use Rattle.board_plan.specs.declared.plan.PlannedNet.{PlannedNet}
use Rattle.board_plan.specs.View.{net as planned_net, wiring}
use Rattle.play_model.specs.declared.ending.Ending.{Ending}
use Rattle.board_faults.specs.Faulty.{CanBeJudged}
use Rattle.fault_events.specs.Blocks.{noted_in}
use Rattle.fault_events.specs.Captures.{Noted}
use Rattle.fault_events.proofs.Resting.{if_ok_then}
use Rattle.fault_serving.specs.declared.serving.Serving.{Serving}
use Rattle.fault_serving.specs.Serving.{AreTold, IsTelling, MayServe, endings_by, judged_on}
use Rattle.fault_serving.proofs.OnePlay.{all_open, all_told, judged_more, none_told}
use Rattle.fault_serving.proofs.serving.told_endings.Goals as goal

pub returns-in_ok-from_elem-in-Nothing : goal.returns-in_ok-from_elem-in-Nothing
returns-in_ok-from_elem-in-Nothing c =
    let program = program_of c.args.program.now in
    let w = wiring c.args.plan.now in
    let ws = c.args.ways.now in
    subst (AreTold program w ws) (sym (c.in_ok-from_elem-in-Nothing.ensures.items_if_clones_equal (λ y h. search rules))) (none_told program w ws _)

pub judged-requires-clause-telling : goal.judged-requires-clause-telling
judged-requires-clause-telling c =
    let w = wiring c.args.plan.now in
    let serves = subst (λ (s : Serving). MayServe (program_of c.args.program.now) w s) c.in-Whole.is c.requires.serving in
    subst (λ (ns : List PlannedNet). IsTelling (map planned_net ns) c.in-Whole.telling) (sym c.deref.ensures.value) serves.1

pub judged-requires-clause-long : goal.judged-requires-clause-long
judged-requires-clause-long c =
    ap (λ (es : List (Option Ending)). length es)
    (c.in_ok-endings-in-Whole.ensures.items_if_clones_equal (λ y h. search rules) ∙ all_open (wiring c.args.plan.now).nets c.args.ways.now)
    ∙ length-map c.args.ways.now _

pub returns-in_ok-endings-in-Whole : goal.returns-in_ok-endings-in-Whole
returns-in_ok-endings-in-Whole c =
    let program = program_of c.args.program.now in
    let w = wiring c.args.plan.now in
    let ws = c.args.ways.now in
    let serves = subst (λ (s : Serving). MayServe program w s) c.in-Whole.is c.requires.serving in
    let can : CanBeJudged w = record { ready = c.requires.ready.powers_up.ready; sound = c.requires.ready.powers_up.sound; counted = c.requires.ready.counted } in
    subst (AreTold program w ws)
    (sym (c.judged.ensures
    ∙ ap (λ (ns : List PlannedNet). judged_on (map planned_net ns) (noted_in c.in-Whole.telling.block) ws c.in_ok-endings-in-Whole.endings.items) c.deref.ensures.value
    ∙ ap (λ (es : List (Option Ending)). judged_on w.nets (noted_in c.in-Whole.telling.block) ws es)
    (c.in_ok-endings-in-Whole.ensures.items_if_clones_equal (λ y h. search rules) ∙ all_open w.nets ws)
    ∙ judged_more w.nets [] (noted_in c.in-Whole.telling.block) ws
    ∙ ap (λ (cs : List Noted). endings_by w.nets cs ws) serves.2))
    (all_told program c.len.ensures.sound.legal w can serves.0 ws c.requires.ways)

pub returns-in-Blocks : goal.returns-in-Blocks
returns-in-Blocks c =
    let program = program_of c.args.program.now in
    let w = wiring c.args.plan.now in
    let ws = c.args.ways.now in
    let serves = subst (λ (s : Serving). MayServe program w s) c.in-Blocks.is c.requires.serving in
    let can : CanBeJudged w = record { ready = c.requires.ready.powers_up.ready; sound = c.requires.ready.powers_up.sound; counted = c.requires.ready.counted } in
    if_ok_then c.all_endings.result _ _
    (λ v is. subst (AreTold program w ws) (sym is) (all_told program c.len.ensures.sound.legal w can serves.0 ws c.requires.ways))
    c.all_endings.ensures
