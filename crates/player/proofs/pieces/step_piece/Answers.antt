use Rattle.std.proofs.Common.{◌≡◌, ◌-◌, ◌+◌, ◌++◌, ℕ, suc, List, drop, take, length, min, sym, ap, subst, ◌∙◌}
use Rattle.bitbang.specs.Left.{behind, left}
use Rattle.bitbang.specs.StepMessages.{step_bytes}
use Rattle.svf_programs.specs.Seen.{numbered}
use Rattle.svf_programs.specs.Sizes.{program_of}
use Rattle.svf_programs.specs.Steps.{Numbered}
use Rattle.player.specs.Progress.{gone, rest_of}
use Rattle.player.specs.PlaceInPlay.{IsSpaced, reads, up_to_reads}
use Rattle.player.proofs.Pieced.{gives-step}
use Rattle.player.proofs.PlayerPlaces.{in-step}
use Rattle.player.proofs.Spaced.{spaced-behind, spaced-bytes}
use Rattle.player.proofs.Steps.{cut, first}
use Rattle.player.proofs.pieces.step_piece.Goals as goal

pub resume-bytes-requires-clause-formed : goal.resume-bytes-requires-clause-formed
resume-bytes-requires-clause-formed c =
    let steps = c.args.program.now.steps in
    let s = numbered c.step-step.result in
    (first steps c.args.p.at c.args.p.place c.requires.stands.rests s (drop (suc c.args.p.at) steps) (cut steps c.args.p.at s c.step-step.ensures)).legal.formed

pub resume-bytes-requires-clause-within : goal.resume-bytes-requires-clause-within
resume-bytes-requires-clause-within c =
    let steps = c.args.program.now.steps in
    let s = numbered c.step-step.result in
    (first steps c.args.p.at c.args.p.place c.requires.stands.rests s (drop (suc c.args.p.at) steps) (cut steps c.args.p.at s c.step-step.ensures)).within

pub give-count-requires-clause-spaced : goal.give-count-requires-clause-spaced
give-count-requires-clause-spaced c =
    let steps = c.args.program.now.steps in
    let p = c.args.p in
    let i = in-step (program_of c.args.program.now) p c.args.spot c.requires.is c.requires.stands in
    let here = cut steps p.at (numbered c.step-step.result) c.step-step.ensures in
    let is : rest_of p.place (drop p.at steps) c.args.spot ≡ left c.resume-bytes.result =
    ap (λ (l : List Numbered). rest_of p.place l c.args.spot) here ∙ sym c.resume-bytes.ensures.bytes in
    subst IsSpaced (sym i.left ∙ is) (spaced-behind (gone (drop p.at steps) p) (step_bytes p.place i.step.what) (spaced-bytes p.place i.step.what))

pub returns-clause-gives : goal.returns-clause-gives
returns-clause-gives c = λ ready.
    let steps = c.args.program.now.steps in
    let p = c.args.p in
    let s = numbered c.step-step.result in
    let here = cut steps p.at s c.step-step.ensures in
    let old = left c.resume-bytes.result in
    let is : rest_of p.place (drop p.at steps) c.args.spot ≡ old =
    ap (λ (l : List Numbered). rest_of p.place l c.args.spot) here ∙ sym c.resume-bytes.ensures.bytes in
    let now : rest_of p.place (drop p.at steps) c.spot.result ≡ drop c.give-count.result.0 (rest_of p.place (drop p.at steps) c.args.spot) =
    ap (λ (l : List Numbered). rest_of p.place l c.spot.result) here
    ∙ ap (behind c.spot.result) (sym (c.give-count.ensures.whole ∙ c.resume-bytes.ensures.whole))
    ∙ c.spot.ensures ∙ c.give-count.ensures.left ∙ ap (drop c.give-count.result.0) (sym is) in
    gives-step (program_of c.args.program.now) p c.args.spot c.requires.is c.requires.stands c.requires.good c.args.buffer.now c.give-count.new.buffer
    c.spot.result c.give-count.result.0 c.give-count.result.1
    (c.give-count.ensures.count ∙ ap (λ (l : List ℕ). min (length c.args.buffer.now) (length (up_to_reads l (256 - p.owed)))) (sym is))
    (c.give-count.ensures.filled ∙ ap (λ (l : List ℕ). take c.give-count.result.0 l ++ drop c.give-count.result.0 c.args.buffer.now) (sym is))
    now
    (c.give-count.ensures.owed ∙ ap (λ (l : List ℕ). p.owed + reads (take c.give-count.result.0 l)) (sym is))
    c.give-count.ensures.allowed ready
