use Rattle.std.proofs.Common.{◌≡◌, ◌<◌, ◌+◌, ◌++◌, ◌∷◌, [], List, take, length, sym, ap, subst, ◌∙◌, arith}
use Rattle.std.proofs.lemmas.List.{take_more}
use Rattle.std.proofs.lemmas.Option.{get_or_from_slice_get, slice_get_within}
use Rattle.svf_programs.specs.Sizes.{program_of}
use Rattle.board_plan.specs.View.{wiring}
use Rattle.board_faults.specs.declared.kinds.Way.{Way}
use Rattle.board_faults.specs.Faults.{ways}
use Rattle.play_diagnosis.specs.declared.fitting.TriedWay.{TriedWay}
use Rattle.play_diagnosis.specs.Fitting.{TriesEach}
use Rattle.play_diagnosis.specs.Reading.{verdict_of}
use Rattle.play_diagnosis.proofs.Tried.{tries_more}
use Rattle.fault_serving.specs.Serving.{IsToldOf}
use Rattle.fault_serving.proofs.OnePlay.{told_there}
use Rattle.play_diagnosis.proofs.fitting.try_fault.Goals as goal

pub fits-requires-clause-told : goal.fits-requires-clause-told
fits-requires-clause-told c =
    let program = program_of c.args.program.now in
    let w = wiring c.args.plan.now in
    let way = c.in-Some.way in
    subst (IsToldOf program w way) (sym c.told_at-told.ensures)
    (told_there program w (ways c.args.fault) c.args.told.now c.loop-way.k way c.requires.told (sym c.in-Some.ensures))

pub loop-way-preserved : goal.loop-way-preserved
loop-way-preserved c =
    let program = program_of c.args.program.now in
    let w = wiring c.args.plan.now in
    let said = verdict_of c.args.said.now in
    let all = ways c.args.fault in
    let k = c.loop-way.k in
    let way = c.in-Some.way in
    let below : k < length all = slice_get_within all k way (sym c.in-Some.ensures) in
    let more : take (k + 1) all ≡ take k all ++ way ∷ [] =
    take_more all k way below ∙ ap (λ (x : Way). take k all ++ x ∷ []) (get_or_from_slice_get all k way way (sym c.in-Some.ensures)) in
    record {
      within = omega (arith, below);
      bench = c.in_ok-fits.ensures.bench;
      tries =
          subst (λ (ts : List TriedWay). TriesEach said program w (take (k + 1) all) ts) (sym c.in_ok-push.ensures.items)
          (subst (λ (vs : List Way). TriesEach said program w vs (c.loop-way.ways.items ++ record { way = way; fits = c.in_ok-fits.fits } ∷ [])) (sym more)
          (tries_more said program w (take k all) c.loop-way.ways.items way c.in_ok-fits.fits c.loop-way.invariant.tries c.in_ok-fits.ensures.fits));
    }
