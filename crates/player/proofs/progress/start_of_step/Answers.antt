use Rattle.std.proofs.Common.{suc, drop, sym, ap, subst, ◌∙◌}
use Rattle.bitbang.specs.Left.{behind}
use Rattle.svf_programs.specs.Seen.{numbered}
use Rattle.svf_programs.specs.Sizes.{program_of}
use Rattle.player.specs.Progress.{IsProgressOf, state_of}
use Rattle.player.proofs.Steps.{cut, enters, enters-same, first}
use Rattle.player.proofs.progress.start_of_step.Goals as goal

pub of-requires-clause-formed : goal.of-requires-clause-formed
of-requires-clause-formed c =
    (first c.args.program.now.steps c.args.at c.args.place c.requires.rests (numbered c.step-step.result) (drop (suc c.args.at) c.args.program.now.steps)
    (cut c.args.program.now.steps c.args.at (numbered c.step-step.result) c.step-step.ensures)).legal.formed

pub of-requires-clause-within : goal.of-requires-clause-within
of-requires-clause-within c =
    (first c.args.program.now.steps c.args.at c.args.place c.requires.rests (numbered c.step-step.result) (drop (suc c.args.at) c.args.program.now.steps)
    (cut c.args.program.now.steps c.args.at (numbered c.step-step.result) c.step-step.ensures)).within

pub returns-then-at-len-clause-stands : goal.returns-then-at-len-clause-stands
returns-then-at-len-clause-stands c =
    let s = numbered c.step-step.result in
    let steps = c.args.program.now.steps in
    subst (IsProgressOf steps) (sym c.before-then-at-len.ensures)
    (enters steps c.spot-spot.result c.args.at c.args.place s (drop (suc c.args.at) steps) c.requires.rests (cut steps c.args.at s c.step-step.ensures)
    (ap (behind c.spot-spot.result) (sym c.of.ensures.whole) ∙ c.spot-spot.ensures ∙ c.of.ensures.bytes))

pub returns-then-at-len-clause-same : goal.returns-then-at-len-clause-same
returns-then-at-len-clause-same c =
    let s = numbered c.step-step.result in
    let steps = c.args.program.now.steps in
    ap (state_of (program_of c.args.program.now)) c.before-then-at-len.ensures
    ∙ enters-same (program_of c.args.program.now) c.spot-spot.result c.args.at c.args.place s (drop (suc c.args.at) steps) (cut steps c.args.at s c.step-step.ensures)
    (ap (behind c.spot-spot.result) (sym c.of.ensures.whole) ∙ c.spot-spot.ensures ∙ c.of.ensures.bytes)
