use Rattle.std.proofs.Common.{◌≡◌, ◌<◌, ℕ, true, List, [], ◌∷◌, ◌++◌, length, sym, ap, subst, ◌∙◌, arith}
use Rattle.jt_tap.specs.Controller.{is_stable}
use Rattle.jt_tap.specs.declared.State.{State}
use Rattle.bitbang.specs.StepMessages.{step_bytes}
use Rattle.scan_vectors.specs.Failures.{Found, found, none_found, with_found}
use Rattle.scan_vectors.proofs.Listing.{found-none}
use Rattle.svf_programs.specs.Sound.{AllWithin}
use Rattle.svf_programs.specs.Left.{left}
use Rattle.svf_programs.specs.Legal.{IsFormed}
use Rattle.svf_programs.specs.Seen.{numbered}
use Rattle.svf_programs.specs.Sizes.{program_of}
use Rattle.svf_programs.specs.Steps.{Numbered}
use Rattle.board_model.specs.Chain.{BoardState}
use Rattle.board_model.specs.Resting.{IsAtRest, board_at_rest}
use Rattle.play_model.specs.declared.kind.Kind.{Kind}
use Rattle.play_model.specs.DirectPlay.{opened_state}
use Rattle.play_model.specs.Meaning.{after_step}
use Rattle.play_model.specs.Play.{Played, full_play}
use Rattle.play_model.specs.PlayingOn.{outcome_of_all, step_failures}
use Rattle.play_model.specs.ScheduleLaws.{full}
use Rattle.play_direct.proofs.Failing.{few-in-step, goes_on_stops, passed, quiet, still, stopped}
use Rattle.play_direct.proofs.Turns.{GoesOn, bytes-of, none-left, opening_bytes, turns_from}
use Rattle.play_direct.proofs.WholePlay.{CanPlay, can_open, can_play_on, goes_from_opening, goes_past, kept_all, kept_first, listed_few, noted_more, opened, stops_here}
use Rattle.play_direct.proofs.steps.play_steps.Goals as goal

pub loop-step-init : goal.loop-step-init
loop-step-init g c =
    let b = c.args.board.now in
    let program = program_of c.args.program.now in
    let some = subst (λ (n : ℕ). 0 < n) c.devices.ensures.count c.devices.ensures.some in
    let rests = (opened b c.devices.ensures.sound some).board in
    let steps-are : program.steps ≡ left c.into_iter-step-iterator.result = sym c.steps-step-items.ensures
    ∙ ap left (sym c.into_iter-step-iterator.ensures.into_iter_gives) in
    record {
      m = opened_state b;
      rests = subst (λ (x : BoardState). IsAtRest x (opened_state b)) (sym c.play_opening.ensures) rests;
      can = subst (λ (l : List Numbered). CanPlay l (opened_state b)) steps-are
          (can_open b program.steps c.devices.ensures.sound some c.len.ensures.sound.legal);
      within = subst AllWithin steps-are c.len.ensures.sound.within;
      room = omega (arith, c.len.ensures.few, ap (λ (l : List Numbered). length l) steps-are, ap (λ (f : Found). f.total) c.new-failures.ensures);
      noted = λ i. with_found (outcome_of_all (sym steps-are i) (opened_state b)).failures (c.new-failures.ensures i);
      listed = omega (arith, ap (λ (f : Found). length f.list) c.new-failures.ensures);
      quiet = λ e. c.new-failures.ensures;
      sent = opening_bytes;
      goes = subst (λ (l : List Numbered). GoesOn (full c.args.kind program.steps b) (full_play (turns_from c.args.kind (opened_state b).place l) (board_at_rest (opened_state b))) opening_bytes) steps-are
          (goes_from_opening c.args.kind program.steps b rests);
      takes = c.take.ensures;
    }

pub place-place-requires : goal.place-place-requires
place-place-requires g c = record { state = c.loop-step.invariant.m; is = c.loop-step.invariant.rests }

pub take_step-requires-clause-rests : goal.take_step-requires-clause-rests
take_step-requires-clause-rests g c =
    let i = c.loop-step.invariant in
    subst (λ (s : State). is_stable s ≡ true) (sym (c.place-place.ensures i.m i.rests)) i.can.rest.stable

pub take_step-requires-clause-formed : goal.take_step-requires-clause-formed
take_step-requires-clause-formed g c =
    let i = c.loop-step.invariant in
    let s : Numbered = numbered c.in-Some.step in
    let can : CanPlay (s ∷ left c.next.new.self) i.m =
    subst (λ (l : List Numbered). CanPlay l i.m) c.in-Some.ensures.steps i.can in
    subst (λ (p : State). IsFormed p s.what) (sym (c.place-place.ensures i.m i.rests)) can.legal.0.formed

pub take_step-requires-clause-within : goal.take_step-requires-clause-within
take_step-requires-clause-within g c = (subst AllWithin c.in-Some.ensures.steps c.loop-step.invariant.within).0

pub play_step-requires-clause-rests : goal.play_step-requires-clause-rests
play_step-requires-clause-rests g c = record { state = c.loop-step.invariant.m; is = c.loop-step.invariant.rests }

pub play_step-requires-clause-within : goal.play_step-requires-clause-within
play_step-requires-clause-within g c = (subst AllWithin c.in-Some.ensures.steps c.loop-step.invariant.within).0

pub play_step-requires-clause-room : goal.play_step-requires-clause-room
play_step-requires-clause-room g c =
    omega (arith, c.loop-step.invariant.room, ap (λ (l : List Numbered). length l) c.in-Some.ensures.steps)

pub loop-step-preserved : goal.loop-step-preserved
loop-step-preserved g c =
    let i = c.loop-step.invariant in
    let s : Numbered = numbered c.in-Some.step in
    let ss : List Numbered = left c.next.new.self in
    let next-are = c.in-Some.ensures.steps in
    let can : CanPlay (s ∷ ss) i.m = subst (λ (l : List Numbered). CanPlay l i.m) next-are i.can in
    let old = found c.loop-step.failures in
    let new = found c.play_step.new.failures in
    let noted : new ≡ with_found (step_failures s i.m) old = c.play_step.ensures.noted i.m i.rests in
    let calm = sym c.stops.ensures ∙ c.if-stops.false in
    let whole = full c.args.kind (program_of c.args.program.now).steps c.args.board.now in
    record {
      m = after_step s.what i.m;
      rests = c.play_step.ensures.board i.m i.rests;
      can = can_play_on s ss i.m can;
      within = (subst AllWithin next-are i.within).1;
      room = omega (arith, i.room, ap (λ (l : List Numbered). length l) next-are, ap (λ (f : Found). f.total) noted, few-in-step s i.m (subst AllWithin next-are i.within).0);
      noted = noted_more s ss i.m old new (with_found (outcome_of_all (program_of c.args.program.now).steps (opened_state c.args.board.now)).failures none_found)
          (ap (λ (l : List Numbered). with_found (outcome_of_all l i.m).failures old) (sym next-are) ∙ i.noted) noted;
      listed = listed_few (step_failures s i.m) old new noted;
      quiet = still (step_failures s i.m) old new noted c.args.kind i.quiet calm;
      sent = i.sent ++ step_bytes i.m.place s.what;
      goes = goes_past s ss i.m can c.args.kind whole i.sent (λ e. passed s i.m (quiet (step_failures s i.m) old new noted c.args.kind i.quiet calm e))
          (subst (λ (l : List Numbered). GoesOn whole (full_play (turns_from c.args.kind i.m.place l) (board_at_rest i.m)) i.sent) next-are i.goes);
      takes = g.B.Beside.takes_more c.args.beside.now c.loop-step.beside c.take_step.new.self i.sent (step_bytes i.m.place s.what) i.takes
          (subst (λ (p : State). g.B.Beside.takes c.loop-step.beside (step_bytes p s.what) c.take_step.new.self) (c.place-place.ensures i.m i.rests) c.take_step.ensures);
    }

-- ---- it stops

pub returns-then-stops-clause-board : goal.returns-then-stops-clause-board
returns-then-stops-clause-board g c =
    let i = c.loop-step.invariant in
    let s : Numbered = numbered c.in-Some.step in
    let ss : List Numbered = left c.next.new.self in
    let next-are = c.in-Some.ensures.steps in
    let can : CanPlay (s ∷ ss) i.m = subst (λ (l : List Numbered). CanPlay l i.m) next-are i.can in
    let whole = full c.args.kind (program_of c.args.program.now).steps c.args.board.now in
    let stop = stops_here s ss i.m can c.args.kind whole i.sent (found c.loop-step.failures) (found c.play_step.new.failures)
    (c.play_step.ensures.noted i.m i.rests) (sym c.stops.ensures ∙ c.if-stops.true) i.quiet
    (subst (λ (l : List Numbered). GoesOn whole (full_play (turns_from c.args.kind i.m.place l) (board_at_rest i.m)) i.sent) next-are i.goes) in
    c.play_step.ensures.board i.m i.rests ∙ sym stop.goes.board

pub returns-then-stops-clause-first : goal.returns-then-stops-clause-first
returns-then-stops-clause-first g c =
    let i = c.loop-step.invariant in
    let s : Numbered = numbered c.in-Some.step in
    let ss : List Numbered = left c.next.new.self in
    let next-are = c.in-Some.ensures.steps in
    let can : CanPlay (s ∷ ss) i.m = subst (λ (l : List Numbered). CanPlay l i.m) next-are i.can in
    let whole = full c.args.kind (program_of c.args.program.now).steps c.args.board.now in
    let calls = sym c.stops.ensures ∙ c.if-stops.true in
    let noted = c.play_step.ensures.noted i.m i.rests in
    let stop = stops_here s ss i.m can c.args.kind whole i.sent (found c.loop-step.failures) (found c.play_step.new.failures) noted calls i.quiet
    (subst (λ (l : List Numbered). GoesOn whole (full_play (turns_from c.args.kind i.m.place l) (board_at_rest i.m)) i.sent) next-are i.goes) in
    stop.first ∙ sym stop.goes.ending
    ∙ ap (λ (k : Kind). (full k (program_of c.args.program.now).steps c.args.board.now).ending)
    (stopped (step_failures s i.m) (found c.loop-step.failures) (found c.play_step.new.failures) noted c.args.kind i.quiet calls)

pub returns-then-stops-clause-all : goal.returns-then-stops-clause-all
returns-then-stops-clause-all g c =
    let i = c.loop-step.invariant in
    let s : Numbered = numbered c.in-Some.step in
    let stop = stopped (step_failures s i.m) (found c.loop-step.failures) (found c.play_step.new.failures) (c.play_step.ensures.noted i.m i.rests) c.args.kind i.quiet (sym c.stops.ensures ∙ c.if-stops.true) in
    λ on. absurd (goes_on_stops c.args.kind stop on)

pub returns-then-stops-clause-bytes : goal.returns-then-stops-clause-bytes
returns-then-stops-clause-bytes g c =
    let i = c.loop-step.invariant in
    let s : Numbered = numbered c.in-Some.step in
    let ss : List Numbered = left c.next.new.self in
    let next-are = c.in-Some.ensures.steps in
    let can : CanPlay (s ∷ ss) i.m = subst (λ (l : List Numbered). CanPlay l i.m) next-are i.can in
    let whole = full c.args.kind (program_of c.args.program.now).steps c.args.board.now in
    let bytes = step_bytes i.m.place s.what in
    let stop = stops_here s ss i.m can c.args.kind whole i.sent (found c.loop-step.failures) (found c.play_step.new.failures)
    (c.play_step.ensures.noted i.m i.rests) (sym c.stops.ensures ∙ c.if-stops.true) i.quiet
    (subst (λ (l : List Numbered). GoesOn whole (full_play (turns_from c.args.kind i.m.place l) (board_at_rest i.m)) i.sent) next-are i.goes) in
    subst (λ (l : List ℕ). g.B.Beside.takes c.args.beside.now l c.take-then-stops.new.self) (sym stop.goes.bytes)
    (g.B.Beside.takes_more c.args.beside.now c.take_step.new.self c.take-then-stops.new.self (i.sent ++ bytes) (81 ∷ [])
    (g.B.Beside.takes_more c.args.beside.now c.loop-step.beside c.take_step.new.self i.sent bytes i.takes
    (subst (λ (p : State). g.B.Beside.takes c.loop-step.beside (step_bytes p s.what) c.take_step.new.self) (c.place-place.ensures i.m i.rests) c.take_step.ensures))
    c.take-then-stops.ensures)

-- ---- it came to the end

pub returns-clause-board : goal.returns-clause-board
returns-clause-board g c =
    let i = c.loop-step.invariant in
    i.rests ∙ sym (i.goes.board ∙ ap (λ (l : List Numbered). (full_play (turns_from c.args.kind i.m.place l) (board_at_rest i.m)).board) c.in-None.ensures.steps.0
    ∙ ap (λ (p : Played). p.board) (none-left c.args.kind i.m.place (board_at_rest i.m)))

pub returns-clause-first : goal.returns-clause-first
returns-clause-first g c =
    let i = c.loop-step.invariant in
    let some = subst (λ (n : ℕ). 0 < n) c.devices.ensures.count c.devices.ensures.some in
    kept_first (program_of c.args.program.now) c.args.board.now c.devices.ensures.sound some c.len.ensures.sound.legal (found c.loop-step.failures)
    (sym (found-none (found c.loop-step.failures) i.listed) ∙ ap (λ (l : List Numbered). with_found (outcome_of_all l i.m).failures (found c.loop-step.failures)) (sym c.in-None.ensures.steps.0) ∙ i.noted)

pub returns-clause-all : goal.returns-clause-all
returns-clause-all g c = λ on.
    let i = c.loop-step.invariant in
    let some = subst (λ (n : ℕ). 0 < n) c.devices.ensures.count c.devices.ensures.some in
    kept_all (program_of c.args.program.now) c.args.board.now c.devices.ensures.sound some c.len.ensures.sound.legal (found c.loop-step.failures)
    (sym (found-none (found c.loop-step.failures) i.listed) ∙ ap (λ (l : List Numbered). with_found (outcome_of_all l i.m).failures (found c.loop-step.failures)) (sym c.in-None.ensures.steps.0) ∙ i.noted)

pub returns-clause-bytes : goal.returns-clause-bytes
returns-clause-bytes g c =
    let i = c.loop-step.invariant in
    let all = i.goes.bytes ∙ ap (λ (l : List Numbered). i.sent ++ bytes-of (full_play (turns_from c.args.kind i.m.place l) (board_at_rest i.m))) c.in-None.ensures.steps.0
    ∙ ap (λ (p : Played). i.sent ++ bytes-of p) (none-left c.args.kind i.m.place (board_at_rest i.m)) in
    subst (λ (l : List ℕ). g.B.Beside.takes c.args.beside.now l c.take-2.new.self) (sym all)
    (g.B.Beside.takes_more c.args.beside.now c.loop-step.beside c.take-2.new.self i.sent (81 ∷ []) i.takes c.take-2.ensures)

pub returns-clause-some : goal.returns-clause-some
returns-clause-some g c = subst (λ (n : ℕ). 0 < n) c.devices.ensures.count c.devices.ensures.some

pub returns-then-stops-clause-some : goal.returns-then-stops-clause-some
returns-then-stops-clause-some g c = subst (λ (n : ℕ). 0 < n) c.devices.ensures.count c.devices.ensures.some
