use Rattle.std.proofs.Common.{◌≡◌, ◌++◌, List, ℕ, refl, sym, ap, subst, ◌∙◌}
use Rattle.byte_streams.specs.Writes.{WritesAll}
use Rattle.byte_streams.proofs.Fronts.{WritesAll-is}
use Rattle.svf_programs.specs.Sizes.{program_of}
use Rattle.svf_programs.specs.Steps.{Program}
use Rattle.board_model.specs.Chain.{BoardState}
use Rattle.board_plan.specs.declared.plan.PlannedDevice.{PlannedDevice}
use Rattle.board_plan.specs.View.{wiring}
use Rattle.board_reasons.specs.Planned.{CaptureAlike}
use Rattle.jt_board.specs.Made.{board_of}
use Rattle.jt_board.specs.Report.{report}
use Rattle.play_model.specs.DirectPlay.{opened_state}
use Rattle.play_model.specs.Endings.{status_of}
use Rattle.play_model.specs.Streams.{StreamState}
use Rattle.jt_player.specs.Loops.{LoopsAllOver}
use Rattle.play_explained.specs.Lines.{explained_lines}
use Rattle.play_explained.specs.Runs.{why_on}
use Rattle.play_explained.proofs.Kept.{planned_alike}
use Rattle.play_explained.proofs.ToldLaws.{lost-has-memory, no-status, told-done, told-lost}
use Rattle.play_explained.proofs.runs.run_loop_explained.Goals as goal

pub write_with_report-requires-clause-alike : goal.write_with_report-requires-clause-alike
write_with_report-requires-clause-alike g c =
    let plan = c.args.plan.now in
    subst (λ (l : List PlannedDevice). CaptureAlike l (opened_state c.in_ok-other.other).members) (sym c.deref.ensures.value)
    (subst (λ (b : BoardState). CaptureAlike plan.devices.items (opened_state b).members) (sym c.in_ok-other.ensures) (planned_alike plan))

pub returns-in_err-other-clause-played : goal.returns-in_err-other-clause-played
returns-in_err-other-clause-played g c = λ has. absurd (has c.from_residual.ensures.1)

pub returns-in_err-write_with_report-clause-refused : goal.returns-in_err-write_with_report-clause-refused
returns-in_err-write_with_report-clause-refused g c = λ lacks. absurd (lost-has-memory _ c.from_residual-in_err-write_with_report.ensures.1 lacks)

pub returns-in_err-write_with_report-clause-played : goal.returns-in_err-write_with_report-clause-played
returns-in_err-write_with_report-clause-played g c = λ has.
    let a = c.args in
    let ending = c.loop_over_lent-ending.result in
    let p = c.loop_over_lent-ending.new.player in
    let left = c.loop_over_lent-ending.new.board in
    let fresh = c.fresh_player-player.ensures in
    let same : p.program ≡ program_of a.program = c.loop_over_lent-ending.ensures.program ∙ ap (λ (s : StreamState). s.program) fresh in (
      ending,
      p.found,
      subst
          (λ (s : StreamState). LoopsAllOver g.P.Sink.puts g.P.Source.hears g.B.Sink.puts g.B.Source.hears g.P.Write.contents g.P.Read.remaining
          g.B.Write.contents g.B.Read.remaining a.player_end.now c.loop_over_lent-ending.new.player_end a.board_end.now
          c.loop_over_lent-ending.new.board_end s.kind s.program a.board.now left ending p.found)
          fresh c.loop_over_lent-ending.ensures.played,
      told-lost g.O.Write.contents a.out.now c.write_with_report.new.out
          (explained_lines a.text.now (why_on a.kind (program_of a.program) (board_of (wiring a.plan.now))) a.kind ending p.found ++ report left) _ c.from_residual-in_err-write_with_report.result
          (WritesAll-is (λ i. explained_lines a.text.now (why_on a.kind (same i) (c.in_ok-other.ensures i)) a.kind ending p.found ++ report left)
          c.in_err-write_with_report.ensures)
          refl c.from_residual-in_err-write_with_report.ensures.1,
      no-status c.from_residual-in_err-write_with_report.result (status_of ending) c.from_residual-in_err-write_with_report.ensures.1,
    )

pub returns-clause-played : goal.returns-clause-played
returns-clause-played g c = λ has.
    let a = c.args in
    let ending = c.loop_over_lent-ending.result in
    let p = c.loop_over_lent-ending.new.player in
    let left = c.loop_over_lent-ending.new.board in
    let fresh = c.fresh_player-player.ensures in
    let same : p.program ≡ program_of a.program = c.loop_over_lent-ending.ensures.program ∙ ap (λ (s : StreamState). s.program) fresh in (
      ending,
      p.found,
      subst
          (λ (s : StreamState). LoopsAllOver g.P.Sink.puts g.P.Source.hears g.B.Sink.puts g.B.Source.hears g.P.Write.contents g.P.Read.remaining
          g.B.Write.contents g.B.Read.remaining a.player_end.now c.loop_over_lent-ending.new.player_end a.board_end.now
          c.loop_over_lent-ending.new.board_end s.kind s.program a.board.now left ending p.found)
          fresh c.loop_over_lent-ending.ensures.played,
      told-done {B = ℕ} g.O.Write.contents a.out.now c.write_with_report.new.out
          (explained_lines a.text.now (why_on a.kind (program_of a.program) (board_of (wiring a.plan.now))) a.kind ending p.found ++ report left) _ c.status.result
          (WritesAll-is (λ i. explained_lines a.text.now (why_on a.kind (same i) (c.in_ok-other.ensures i)) a.kind ending p.found ++ report left)
          c.in_ok-write_with_report.ensures)
          refl,
      c.status.ensures,
    )
