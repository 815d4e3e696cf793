use Rattle.std.proofs.Common.{◌≡◌, List, sym, ap, subst, ◌∙◌}
use Rattle.byte_streams.proofs.Fronts.{WritesAll-is}
use Rattle.scan_vectors.specs.Failures.{found}
use Rattle.svf_programs.specs.Sizes.{program_of}
use Rattle.board_model.specs.Chain.{BoardState}
use Rattle.board_plan.specs.declared.plan.PlannedDevice.{PlannedDevice}
use Rattle.board_plan.specs.View.{wiring}
use Rattle.board_reasons.specs.Planned.{CaptureAlike}
use Rattle.jt_board.specs.Made.{board_of}
use Rattle.play_model.specs.DirectPlay.{opened_state}
use Rattle.play_explained.specs.Lines.{explained_lines}
use Rattle.play_explained.specs.Runs.{why_on}
use Rattle.play_explained.proofs.Explanations.{ended_is, other_is}
use Rattle.play_explained.proofs.Kept.{planned_alike}
use Rattle.play_explained.proofs.runs.write_if_failed.Goals as goal

pub write_on_board-requires-clause-alike : goal.write_on_board-requires-clause-alike
write_on_board-requires-clause-alike g c =
    let plan = c.args.plan.now in
    let same : c.in-Some.other ≡ board_of (wiring plan) = other_is c.args.ending c.in-Some.other (board_of (wiring plan)) (sym c.in-Some.is ∙ c.requires.other) in
    subst (λ (l : List PlannedDevice). CaptureAlike l (opened_state c.in-Some.other).members) (sym c.deref.ensures.value)
    (subst (λ (b : BoardState). CaptureAlike plan.devices.items (opened_state b).members) (sym same) (planned_alike plan))

pub returns-in-Some : goal.returns-in-Some
returns-in-Some g c =
    let plan = c.args.plan.now in
    let same : c.in-Some.other ≡ board_of (wiring plan) = other_is c.args.ending c.in-Some.other (board_of (wiring plan)) (sym c.in-Some.is ∙ c.requires.other) in
    WritesAll-is
    (ap (λ (b : BoardState). explained_lines c.args.text.now (why_on c.args.kind (program_of c.args.program.now) b) c.args.kind c.args.ending (found c.args.failures.now)) same)
    c.write_on_board.ensures

pub returns-in-None : goal.returns-in-None
returns-in-None g c =
    let before = board_of (wiring c.args.plan.now) in
    WritesAll-is
    (ended_is c.args.text.now (why_on c.args.kind (program_of c.args.program.now) before) c.args.kind c.args.ending (found c.args.failures.now) before
    (sym c.in-None.is ∙ c.requires.other))
    c.write_ended.ensures
