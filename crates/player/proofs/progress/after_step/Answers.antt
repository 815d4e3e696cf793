use Rattle.std.proofs.Common.{◌≡◌, ◌<◌, ◌+◌, ◌-◌, ℕ, false, suc, List, [], drop, length, sym, ap, subst, ◌∙◌, arith, None}
use Rattle.std.specs.Prelude.{is_some}
use Rattle.bitbang.specs.Left.{left}
use Rattle.svf_programs.specs.Seen.{numbered}
use Rattle.svf_programs.specs.Sizes.{program_of}
use Rattle.svf_programs.specs.Steps.{Numbered, place_after}
use Rattle.jt_tap.specs.declared.State.{State}
use Rattle.player.specs.declared.progress.Phase.{Phase}
use Rattle.player.specs.declared.progress.Phase.TheVariants.{Opening, Within, Over}
use Rattle.player.specs.Progress.{HasWorkLeft, Rests, ahead, rest_of}
use Rattle.player.specs.PlaceInPlay.{state_at}
use Rattle.player.proofs.Steps.{below, cut, first, length-below, next-rests, none-first, some-first}
use Rattle.player.proofs.PlayerPlaces.{passes-same, stops-here, stops-same}
use Rattle.player.proofs.progress.after_step.Goals as goal

pub resume-requires-clause-formed : goal.resume-requires-clause-formed
resume-requires-clause-formed c =
    let steps = c.args.program.now.steps in
    let s = numbered c.step-step.result in
    (first steps c.args.p.at c.args.p.place c.requires.stands.rests s (drop (suc c.args.p.at) steps) (cut steps c.args.p.at s c.step-step.ensures)).legal.formed

pub resume-requires-clause-within : goal.resume-requires-clause-within
resume-requires-clause-within c =
    let steps = c.args.program.now.steps in
    let s = numbered c.step-step.result in
    (first steps c.args.p.at c.args.p.place c.requires.stands.rests s (drop (suc c.args.p.at) steps) (cut steps c.args.p.at s c.step-step.ensures)).within

pub returns-then-is_some : goal.returns-then-is_some
returns-then-is_some c =
    let steps = c.args.program.now.steps in
    let p = c.args.p in
    let s = numbered c.step-step.result in
    let rest : rest_of p.place (drop p.at steps) c.args.spot ≡ left c.resume.result =
    ap (λ (l : List Numbered). rest_of p.place l c.args.spot) (cut steps p.at s c.step-step.ensures) ∙ sym c.resume.ensures.bytes in
    subst (HasWorkLeft (drop p.at steps) p) (sym c.requires.is)
    (λ none. absurd (some-first (left c.resume.result) (sym (ap is_some c.peek.ensures) ∙ sym c.is_some.ensures ∙ c.if-is_some.true) (sym rest ∙ none)))

pub returns-then-p : goal.returns-then-p
returns-then-p c =
    let steps = c.args.program.now.steps in
    let program = program_of c.args.program.now in
    let p = c.args.p in
    let s = numbered c.step-step.result in
    let none : rest_of p.place (drop p.at steps) c.args.spot ≡ [] =
    ap (λ (l : List Numbered). rest_of p.place l c.args.spot) (cut steps p.at s c.step-step.ensures) ∙ sym c.resume.ensures.bytes
    ∙ none-first (left c.resume.result) (sym (ap is_some c.peek.ensures) ∙ sym c.is_some.ensures ∙ c.if-is_some.false) in
    let more : ahead steps p ≡ length steps - p.at + 1 =
    ap (λ (ph : Phase). elim ph [ Opening n ↦ length steps + 2 | Within spot ↦ length steps - p.at + 1 | Over out ↦ 0 ]) c.requires.is in (
      stops-here program p c.args.spot c.requires.is c.requires.stands none c.requires.nothing c.if-p.true,
      stops-same program p c.args.spot c.requires.is c.requires.stands none c.requires.nothing,
      omega (arith, more),
    )

pub overflow_add-p : goal.overflow_add-p
overflow_add-p c =
    let steps = c.args.program.now.steps in
    let s = numbered c.step-step.result in
    let less = below steps c.args.p.at s (drop (suc c.args.p.at) steps) (cut steps c.args.p.at s c.step-step.ensures) in
    omega (arith, less, c.len.ensures.count)

pub start_of_step-requires : goal.start_of_step-requires
start_of_step-requires c =
    let steps = c.args.program.now.steps in
    let s = numbered c.step-step.result in
    let next : suc c.args.p.at ≡ c.args.p.at + 1 = omega arith in record {
      rests = subst (λ (x : State). Rests steps (c.args.p.at + 1) x) (sym c.place_after.ensures)
          (subst (λ (n : ℕ). Rests steps n (place_after c.args.p.place s.what)) next
          (next-rests steps c.args.p.at c.args.p.place c.requires.stands.rests s (cut steps c.args.p.at s c.step-step.ensures)));
    }

pub returns : goal.returns
returns c =
    let steps = c.args.program.now.steps in
    let program = program_of c.args.program.now in
    let p = c.args.p in
    let s = numbered c.step-step.result in
    let here = cut steps p.at s c.step-step.ensures in
    let none : rest_of p.place (drop p.at steps) c.args.spot ≡ [] =
    ap (λ (l : List Numbered). rest_of p.place l c.args.spot) here ∙ sym c.resume.ensures.bytes
    ∙ none-first (left c.resume.result) (sym (ap is_some c.peek.ensures) ∙ sym c.is_some.ensures ∙ c.if-is_some.false) in
    let more : ahead steps p ≡ length steps - p.at + 1 =
    ap (λ (ph : Phase). elim ph [ Opening n ↦ length steps + 2 | Within spot ↦ length steps - p.at + 1 | Over out ↦ 0 ]) c.requires.is in
    let next : p.at + 1 ≡ suc p.at = omega arith in
    let fewer : length (drop (p.at + 1) steps) + 1 < length steps - p.at + 1 =
    omega (arith, length-below steps p.at s (drop (suc p.at) steps) here, ap (λ (n : ℕ). length (drop n steps)) next) in (
      c.start_of_step.ensures.stands,
      c.start_of_step.ensures.same
          ∙ ap (λ (n : ℕ). state_at program (record { over = suc n; gone = 0; heard = 0; stopped = false; bad = None })) next
          ∙ passes-same program p c.args.spot c.requires.is c.requires.stands none c.requires.nothing c.if-p.false,
      omega (arith, more, c.start_of_step.ensures.fewer, fewer),
    )
