use Rattle.std.proofs.Common.{◌≡◌, ◌<◌, ◌++◌, ◌∷◌, ◌+◌, [], ℕ, List, Option, length, take, drop, get_or, refl, sym, ap, subst, ◌∙◌, append_assoc, arith}
use Rattle.std.specs.Prelude.{flat_map}
use Rattle.std.specs.List.{AllByRecursion}
use Rattle.std.proofs.lemmas.List.{append-nil, take_more}
use Rattle.svf_programs.specs.Sizes.{program_of}
use Rattle.board_plan.specs.View.{wiring}
use Rattle.play_model.specs.declared.ending.Ending.{Ending}
use Rattle.board_faults.specs.declared.judging.Judged.{Judged}
use Rattle.board_faults.specs.declared.kinds.Fault.{Fault}
use Rattle.board_faults.specs.declared.kinds.Fault.TheVariants as fault
use Rattle.board_faults.specs.Faults.{IsFaultOf, ways}
use Rattle.board_faults.specs.Judging.{JudgesAll}
use Rattle.board_faults.proofs.JudgingLaws.{faults_more}
use Rattle.fault_events.proofs.Resting.{path_next}
use Rattle.fault_serving.specs.Serving.{AreTold}
use Rattle.play_coverage.specs.Tallies.{IsTally}
use Rattle.fault_serving.proofs.OnePlay.{told_first, told_rest}
use Rattle.play_coverage.proofs.judging.tell_chunk.Goals as goal

pub loop-fault-init : goal.loop-fault-init
loop-fault-init c =
    let w = wiring c.args.plan.now in
    record {
      bench = c.requires.bench;
      theirs = c.requires.faults;
      told = subst (λ (os : List (Option Ending)). AreTold (program_of c.args.program.now) w (flat_map ways c.args.chunk.now.faults.items) os) (sym c.as_slice-told.ensures.value) c.requires.told;
      tells = λ before js is. ([], tt, subst (λ (l : List Judged). IsTally before c.args.listed w l c.args.tally.now) (sym (append-nil js)) is);
    }

pub judge_fault-requires-clause-fault : goal.judge_fault-requires-clause-fault
judge_fault-requires-clause-fault c =
    let w = wiring c.args.plan.now in
    let fs = c.args.chunk.now.faults.items in
    let k = c.loop-fault.fault-index in
    let d : Fault = fault.Open 0 0 in
    let ds = c.deref-fault-items.result.now in
    let same : ds ≡ fs = c.deref-fault-items.ensures.value in
    let within : k < length fs = omega (arith, c.loop-fault-test.true, ap (λ (l : List Fault). length l) same) in
    let f : Fault = get_or ds k d in
    let item : get_or fs k d ≡ f = ap (λ (l : List Fault). get_or l k d) (sym same) in
    let here : drop k fs ≡ f ∷ drop (k + 1) fs = path_next fs k d within ∙ ap (λ (x : Fault). x ∷ drop (k + 1) fs) item in
    (subst (AllByRecursion (IsFaultOf w.nets)) here c.loop-fault.invariant.theirs).0

pub judge_fault-requires-clause-told : goal.judge_fault-requires-clause-told
judge_fault-requires-clause-told c =
    let w = wiring c.args.plan.now in
    let program = program_of c.args.program.now in
    let fs = c.args.chunk.now.faults.items in
    let k = c.loop-fault.fault-index in
    let d : Fault = fault.Open 0 0 in
    let ds = c.deref-fault-items.result.now in
    let same : ds ≡ fs = c.deref-fault-items.ensures.value in
    let within : k < length fs = omega (arith, c.loop-fault-test.true, ap (λ (l : List Fault). length l) same) in
    let f : Fault = get_or ds k d in
    let item : get_or fs k d ≡ f = ap (λ (l : List Fault). get_or l k d) (sym same) in
    let here : drop k fs ≡ f ∷ drop (k + 1) fs = path_next fs k d within ∙ ap (λ (x : Fault). x ∷ drop (k + 1) fs) item in
    told_first program w (ways f) (flat_map ways (drop (k + 1) fs)) c.loop-fault.told.now
    (subst (λ (l : List Fault). AreTold program w (flat_map ways l) c.loop-fault.told.now) here c.loop-fault.invariant.told)

pub loop-fault-preserved : goal.loop-fault-preserved
loop-fault-preserved c =
    let w = wiring c.args.plan.now in
    let program = program_of c.args.program.now in
    let listed = c.args.listed in
    let fs = c.args.chunk.now.faults.items in
    let k = c.loop-fault.fault-index in
    let i = c.loop-fault.invariant in
    let d : Fault = fault.Open 0 0 in
    let ds = c.deref-fault-items.result.now in
    let same : ds ≡ fs = c.deref-fault-items.ensures.value in
    let within : k < length fs = omega (arith, c.loop-fault-test.true, ap (λ (l : List Fault). length l) same) in
    let f : Fault = get_or ds k d in
    let item : get_or fs k d ≡ f = ap (λ (l : List Fault). get_or l k d) (sym same) in
    let here : drop k fs ≡ f ∷ drop (k + 1) fs = path_next fs k d within ∙ ap (λ (x : Fault). x ∷ drop (k + 1) fs) item in
    let more : take (k + 1) fs ≡ take k fs ++ f ∷ [] =
    take_more fs k d within ∙ ap (λ (x : Fault). take k fs ++ x ∷ []) item in
    let j : Judged = record { fault = f; ways = c.in_ok-ways.ways } in
    record {
      bench = c.in_ok-ways.ensures.bench;
      theirs = (subst (AllByRecursion (IsFaultOf w.nets)) here i.theirs).1;
      told =
          subst (λ (os : List (Option Ending)). AreTold program w (flat_map ways (drop (k + 1) fs)) os)
          (sym (c.told_behind-told.ensures ∙ ap (λ (n : ℕ). drop n c.loop-fault.told.now) c.way_count.ensures))
          (told_rest program w (ways f) (flat_map ways (drop (k + 1) fs)) c.loop-fault.told.now
          (subst (λ (l : List Fault). AreTold program w (flat_map ways l) c.loop-fault.told.now) here i.told));
      tells = λ before js is.
          let x = i.tells before js is in (
            x.0 ++ j ∷ [],
            subst (λ (l : List Fault). JudgesAll program w l (x.0 ++ j ∷ [])) (sym more)
                (faults_more program w (take k fs) x.0 f j x.1 refl c.in_ok-ways.ensures.judged),
            subst (λ (l : List Judged). IsTally before listed w l c.tell.new.tally) (append_assoc js x.0 (j ∷ []))
                (c.in_ok-tell.ensures before (js ++ x.0) x.2),
          );
    }
