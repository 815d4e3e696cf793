use Rattle.std.proofs.Common.{◌≡◌, ◌++◌, ◌∷◌, [], true, false, ℕ, List, refl, sym, ap, subst, ◌∙◌}
use Rattle.std.proofs.KnownBytes.{Appends-nil, Appends-trans}
use Rattle.byte_streams.proofs.Fronts.{WritesAll-done, WritesAll-is, WritesAll-lost, WritesAll-then}
use Rattle.jt_tap.specs.Controller.{is_stable}
use Rattle.jt_tap.specs.declared.State.{State}
use Rattle.jt_tap.specs.declared.State.TheVariants.{Reset}
use Rattle.svf_programs.specs.Left.{left}
use Rattle.svf_programs.specs.Legal.{AllLegalFrom}
use Rattle.svf_programs.specs.Periods.{period_in}
use Rattle.svf_programs.specs.declared.periods.PeriodChange.{PeriodChange}
use Rattle.svf_programs.specs.Seen.{numbered}
use Rattle.svf_programs.specs.Sound.{AllWithin}
use Rattle.svf_programs.specs.Steps.{Numbered, line_after, place_after}
use Rattle.bitbang.specs.StepMessages.{step_messages}
use Rattle.play_model.proofs.Legality.{place-stable}
use Rattle.play_model.specs.Play.{step_turns}
use Rattle.play_drawing.specs.Drawing.{after_drawing}
use Rattle.play_drawing.specs.Waves.{draw_turn, turn_at, wave}
use Rattle.play_waves.proofs.Played.{not_drawn, one_more}
use Rattle.play_waves.proofs.waves.draw_steps.Goals as goal

pub loop-step-init : goal.loop-step-init
loop-step-init g c =
    let changes = c.args.program.now.periods in
    let steps-are : c.args.program.now.steps ≡ left c.into_iter-step-iterator.result = sym c.steps-step-items.ensures
    ∙ ap left (sym c.into_iter-step-iterator.ensures.into_iter_gives) in
    record {
      trst = false;
      stable = refl;
      legal = subst (λ (l : List Numbered). AllLegalFrom Reset false l) steps-are c.len.ensures.sound.legal;
      within = subst AllWithin steps-are c.len.ensures.sound.within;
      same = c.periods-periods.ensures;
      none_lost = c.requires;
      sent = [];
      writes = Appends-nil _;
      split = ap (λ (l : List Numbered). wave c.args.noted (period_in changes) c.args.failed (step_turns Reset l) c.args.drawing.now) steps-are;
    }

pub draw_turn-requires-clause-rests : goal.draw_turn-requires-clause-rests
draw_turn-requires-clause-rests g c = c.loop-step.invariant.stable

pub draw_turn-requires-clause-formed : goal.draw_turn-requires-clause-formed
draw_turn-requires-clause-formed g c =
    let i = c.loop-step.invariant in
    (subst (λ (l : List Numbered). AllLegalFrom c.loop-step.place i.trst l) c.in-Some.ensures.steps i.legal).0.formed

pub draw_turn-requires-clause-within : goal.draw_turn-requires-clause-within
draw_turn-requires-clause-within g c = (subst AllWithin c.in-Some.ensures.steps c.loop-step.invariant.within).0

pub loop-step-preserved : goal.loop-step-preserved
loop-step-preserved g c =
    let i = c.loop-step.invariant in
    let changes = c.args.program.now.periods in
    let s : Numbered = numbered c.in-Some.step in
    let ss : List Numbered = left c.next.new.self in
    let next-are = c.in-Some.ensures.steps in
    let place : State = c.loop-step.place in
    let legal : AllLegalFrom place i.trst (s ∷ ss) = subst (λ (l : List Numbered). AllLegalFrom place i.trst l) next-are i.legal in
    let now : ℕ = c.at-period.result in
    let in_force = c.at-period.ensures.period ∙ ap (λ (cs : List PeriodChange). period_in cs s.number) i.same in
    let p = c.loop-step.drawing in
    let q = c.draw_turn.new.drawing in
    let bytes : List ℕ = draw_turn c.args.noted now (turn_at place s) p in
    let rests = sym c.place_after-place.ensures in
    record {
      trst = line_after i.trst s.what;
      stable = subst (λ (x : State). is_stable x ≡ true) rests (place-stable s.what place i.stable legal.0.formed);
      legal = subst (λ (x : State). AllLegalFrom x (line_after i.trst s.what) ss) rests legal.1;
      within = (subst AllWithin next-are i.within).1;
      same = c.at-period.ensures.changes ∙ i.same;
      none_lost = c.in_ok-draw_turn.ensures.writes.ok.0 refl;
      sent = i.sent ++ bytes;
      writes = Appends-trans _ _ _ _ _ i.writes c.in_ok-draw_turn.ensures.writes.whole;
      split = one_more c.args.noted (period_in changes) c.args.failed (turn_at place s) (step_turns (place_after place s.what) ss) p _ i.sent now q
          (i.split ∙ ap (λ (l : List Numbered). i.sent ++ wave c.args.noted (period_in changes) c.args.failed (step_turns place l) p) next-are)
          (sym c.is_played.ensures ∙ c.if-not-is_played.false) in_force c.in_ok-draw_turn.ensures.pen
          ∙ ap (λ (x : State). (i.sent ++ bytes) ++ wave c.args.noted (period_in changes) c.args.failed (step_turns x ss) q) rests;
    }

pub returns-in_err-draw_turn : goal.returns-in_err-draw_turn
returns-in_err-draw_turn g c =
    let i = c.loop-step.invariant in
    let changes = c.args.program.now.periods in
    let s : Numbered = numbered c.in-Some.step in
    let ss : List Numbered = left c.next.new.self in
    let place : State = c.loop-step.place in
    let now : ℕ = c.at-period.result in
    let in_force = c.at-period.ensures.period ∙ ap (λ (cs : List PeriodChange). period_in cs s.number) i.same in
    let p = c.loop-step.drawing in
    let ts = step_turns (place_after place s.what) ss in
    let q = after_drawing now (step_messages place s.what) p in
    WritesAll-lost _ i.sent (wave c.args.noted (period_in changes) c.args.failed ts q)
    (one_more c.args.noted (period_in changes) c.args.failed (turn_at place s) ts p _ i.sent now q
    (i.split ∙ ap (λ (l : List Numbered). i.sent ++ wave c.args.noted (period_in changes) c.args.failed (step_turns place l) p) c.in-Some.ensures.steps)
    (sym c.is_played.ensures ∙ c.if-not-is_played.false) in_force refl)
    i.writes c.in_err-draw_turn.ensures.writes refl c.from_residual.ensures.0

pub returns-then-not-is_played : goal.returns-then-not-is_played
returns-then-not-is_played g c =
    let i = c.loop-step.invariant in
    let changes = c.args.program.now.periods in
    let s : Numbered = numbered c.in-Some.step in
    let ss : List Numbered = left c.next.new.self in
    let place : State = c.loop-step.place in
    let p = c.loop-step.drawing in
    let all = i.split ∙ ap (λ (l : List Numbered). i.sent ++ wave c.args.noted (period_in changes) c.args.failed (step_turns place l) p) c.in-Some.ensures.steps
    ∙ ap (λ (l : List ℕ). i.sent ++ l)
    (not_drawn c.args.noted (period_in changes) c.args.failed (turn_at place s) (step_turns (place_after place s.what) ss) p (sym c.is_played.ensures ∙ c.if-not-is_played.true)) in
    WritesAll-is (sym all) (WritesAll-then (WritesAll-done {A = ℕ} {E = ℕ} 0 i.none_lost i.writes) refl c.close.ensures)

pub returns : goal.returns
returns g c =
    let i = c.loop-step.invariant in
    let changes = c.args.program.now.periods in
    let all = i.split
    ∙ ap (λ (l : List Numbered). i.sent ++ wave c.args.noted (period_in changes) c.args.failed (step_turns c.loop-step.place l) c.loop-step.drawing) c.in-None.ensures.steps.0 in
    WritesAll-is (sym all) (WritesAll-then (WritesAll-done {A = ℕ} {E = ℕ} 0 i.none_lost i.writes) refl c.close-2.ensures)
