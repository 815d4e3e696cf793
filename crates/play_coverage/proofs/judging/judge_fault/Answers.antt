use Rattle.std.proofs.Common.{◌≡◌, ◌<◌, ◌+◌, ◌++◌, ◌∷◌, [], List, take, length, sym, ap, subst, ◌∙◌, arith}
use Rattle.std.proofs.lemmas.List.{take_more}
use Rattle.std.proofs.lemmas.Option.{get_or_from_slice_get, slice_get_within}
use Rattle.svf_programs.specs.Sizes.{program_of}
use Rattle.board_plan.specs.View.{wiring}
use Rattle.board_faults.specs.declared.judging.JudgedWay.{JudgedWay}
use Rattle.board_faults.specs.declared.kinds.Way.{Way}
use Rattle.board_faults.specs.Faults.{ways}
use Rattle.board_faults.specs.Judging.{JudgesEach, JudgesWayWith}
use Rattle.board_faults.proofs.JudgingLaws.{among_slice, judges_more}
use Rattle.fault_serving.specs.Serving.{IsToldOf}
use Rattle.fault_serving.proofs.OnePlay.{told_there}
use Rattle.play_coverage.proofs.judging.judge_fault.Goals as goal

pub verdict_of-requires-clause-told : goal.verdict_of-requires-clause-told
verdict_of-requires-clause-told c =
    let program = program_of c.args.program.now in
    let w = wiring c.args.plan.now in
    let way = c.in-Some.way in
    subst (IsToldOf program w way) (sym c.told_at.ensures)
    (told_there program w (ways c.args.fault) c.args.told.now c.loop-way.k way c.requires.told (sym c.in-Some.ensures))

pub returns-in-None-clause-judged : goal.returns-in-None-clause-judged
returns-in-None-clause-judged c =
    let program = program_of c.args.program.now in
    let way = c.in-Some.way in (
      way,
      among_slice (ways c.args.fault) c.loop-way.k way c.in-Some.ensures,
      subst (JudgesWayWith program (wiring c.args.plan.now) way) c.in-None.is c.in_ok-verdict_of.ensures.judged,
    )

pub loop-way-preserved : goal.loop-way-preserved
loop-way-preserved c =
    let program = program_of c.args.program.now in
    let w = wiring c.args.plan.now in
    let all = ways c.args.fault in
    let k = c.loop-way.k in
    let way = c.in-Some.way in
    let judged = subst (JudgesWayWith program w way) c.in-Some-2.is c.in_ok-verdict_of.ensures.judged in
    let below : k < length all = slice_get_within all k way (sym c.in-Some.ensures) in
    let more : take (k + 1) all ≡ take k all ++ way ∷ [] =
    take_more all k way below ∙ ap (λ (x : Way). take k all ++ x ∷ []) (get_or_from_slice_get all k way way (sym c.in-Some.ensures)) in
    record {
      within = omega (arith, below);
      bench = c.in_ok-verdict_of.ensures.bench;
      judged =
          subst (λ (js : List JudgedWay). JudgesEach program w (take (k + 1) all) js) (sym c.in_ok-push-in-Some-2.ensures.items)
          (subst (λ (ws : List Way). JudgesEach program w ws (c.loop-way.ways.items ++ record { way = way; verdict = c.in-Some-2.verdict } ∷ [])) (sym more)
          (judges_more program w (take k all) c.loop-way.ways.items way c.in-Some-2.verdict c.loop-way.invariant.judged judged.0 judged.1));
    }
