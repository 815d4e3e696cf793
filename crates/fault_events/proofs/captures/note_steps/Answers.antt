use Rattle.std.proofs.Common.{◌≡◌, ◌<◌, ◌∷◌, ◌++◌, ℕ, List, [], length, map, refl, sym, ap, subst, ◌∙◌, append_assoc, arith}
use Rattle.std.proofs.lemmas.List.{append-nil, map-append}
use Rattle.svf_programs.specs.Left.{left}
use Rattle.svf_programs.specs.Seen.{numbered}
use Rattle.svf_programs.specs.Sound.{AllWithin}
use Rattle.svf_programs.specs.Steps.{Numbered}
use Rattle.play_model.specs.Meaning.{after_step}
use Rattle.fault_events.specs.declared.captures.Capture.{Capture}
use Rattle.fault_events.specs.Captures.{Noted, noted_at, noted_by, seen}
use Rattle.fault_events.specs.Events.{events, events_of_step}
use Rattle.fault_events.proofs.PartsKept.{step_keeps}
use Rattle.fault_events.proofs.Resting.{fits_next}
use Rattle.fault_events.proofs.captures.note_steps.Goals as goal

pub steps-init : goal.steps-init
steps-init c =
    let pins = c.args.numbers.now.pins.items in
    record {
      rests = c.requires.rests;
      fits = c.requires.fits;
      within = c.requires.within;
      noted = λ m is. (
        m,
        is,
        refl,
        sym (ap (λ (l : List Capture). map seen l ++ noted_by pins (left c.args.steps.now) m) c.new-list.ensures.items),
      );
      fewer = λ some. absurd (some c.new-list.ensures.items);
      most = omega arith;
    }

pub note_step-requires-clause-within : goal.note_step-requires-clause-within
note_step-requires-clause-within c = (subst AllWithin c.in-Some.ensures.steps c.steps.invariant.within).0

pub steps-preserved : goal.steps-preserved
steps-preserved c =
    let i = c.steps.invariant in
    let s : Numbered = numbered c.in-Some.step in
    let ss : List Numbered = left c.next.new.self in
    let at = noted_at c.args.numbers.now.pins.items in
    let own = c.in_ok-note_step.ensures in
    let m0 = i.rests.state in
    let old = map seen c.steps.list.items in
    let here : left c.steps.steps ≡ s ∷ ss = c.in-Some.ensures.steps in
    record {
      rests = record { state = after_step s.what m0; is = (own m0 i.rests.is).rests };
      fits = fits_next c.steps.board c.note_step.new.board m0 (after_step s.what m0) i.rests.is (own m0 i.rests.is).rests (step_keeps s.what m0)
          c.args.devices.now c.args.numbers.now i.fits;
      within = (subst AllWithin here i.within).1;
      noted = λ m is.
          let x = i.noted m is in
          let n = x.0 in
          let one = own n x.1 in
          let these = events_of_step s.number s.what n in
          let rest = events ss (after_step s.what n) in (
            after_step s.what n,
            one.rests,
            step_keeps s.what n ∙ x.2,
            x.3 ∙ ap (λ (l : List Numbered). old ++ map at (events l n)) here
                ∙ ap (λ (l : List Noted). old ++ l) (map-append at these rest)
                ∙ sym (append_assoc old (map at these) (map at rest))
                ∙ sym (ap (λ (l : List Noted). l ++ map at rest) one.noted),
          );
      fewer = λ some. omega (arith, i.most, ap (λ (l : List Numbered). length l) here);
      most = omega (arith, i.most, ap (λ (l : List Numbered). length l) here);
    }

pub returns : goal.returns
returns c = λ m is.
    let i = c.steps.invariant in
    let x = i.noted m is in
    record {
      state = x.0;
      rests = x.1;
      kept = x.2;
      within = i.within;
      noted = x.3;
      over = λ none. absurd (omega (arith, c.requires.some, c.steps-test.false, ap (λ (l : List Capture). length l) none));
      fewer = i.fewer;
    }
