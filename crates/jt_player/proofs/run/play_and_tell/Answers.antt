use Rattle.std.proofs.Common.{refl, ap}
use Rattle.byte_streams.proofs.Fronts.{WritesAll-is, WritesAll-then, WritesAll-stopped}
use Rattle.play_direct.specs.Report.{report}
use Rattle.play_model.specs.ScheduleLaws.{full}
use Rattle.svf_programs.specs.Sizes.{program_of}
use Rattle.jt_player.specs.Kinds.{ending_in, found_in}
use Rattle.jt_player.specs.Showing.{ending_lines}
use Rattle.jt_player.proofs.RunLaws.{WritesAll-like, not-ok}
use Rattle.jt_player.proofs.run.play_and_tell.Goals as goal

pub returns-in_err-ending-clause-writes : goal.returns-in_err-ending-clause-writes
returns-in_err-ending-clause-writes g c =
    let told = ending_lines c.args.kind (ending_in c.args.kind (program_of c.args.program.now) c.args.board.now) (found_in c.args.kind (program_of c.args.program.now) c.args.board.now) in
    let left = (full c.args.kind c.args.program.now.steps c.args.board.now).board in
    let so = c.from_residual.ensures.0 in
    WritesAll-stopped (report left) (WritesAll-stopped told c.in_err-ending.ensures.writes refl so) so so

pub returns-in_err-write_ending-clause-writes : goal.returns-in_err-write_ending-clause-writes
returns-in_err-write_ending-clause-writes g c =
    let told = ending_lines c.args.kind (ending_in c.args.kind (program_of c.args.program.now) c.args.board.now) (found_in c.args.kind (program_of c.args.program.now) c.args.board.now) in
    let left = (full c.args.kind c.args.program.now.steps c.args.board.now).board in
    let so = c.from_residual-in_err-write_ending.ensures.0 in
    WritesAll-stopped (report left)
    (WritesAll-then c.in_ok-ending.ensures.writes refl (WritesAll-is (λ k. ending_lines c.args.kind (c.in_ok-ending.ensures.ending k) (c.in_ok-ending.ensures.found k)) c.in_err-write_ending.ensures)) refl so

pub returns-in_err-write_report-clause-writes : goal.returns-in_err-write_report-clause-writes
returns-in_err-write_report-clause-writes g c =
    let so = c.from_residual-in_err-write_report.ensures.0 in
    WritesAll-like _ _ (not-ok _ so)
    (WritesAll-then (WritesAll-then c.in_ok-ending.ensures.writes refl (WritesAll-is (λ k. ending_lines c.args.kind (c.in_ok-ending.ensures.ending k) (c.in_ok-ending.ensures.found k)) c.in_ok-write_ending.ensures)) refl
    (WritesAll-is (ap report c.in_ok-ending.ensures.left) c.in_err-write_report.ensures))

pub returns-clause-writes : goal.returns-clause-writes
returns-clause-writes g c =
    WritesAll-like _ _ refl
    (WritesAll-then (WritesAll-then c.in_ok-ending.ensures.writes refl (WritesAll-is (λ k. ending_lines c.args.kind (c.in_ok-ending.ensures.ending k) (c.in_ok-ending.ensures.found k)) c.in_ok-write_ending.ensures)) refl
    (WritesAll-is (ap report c.in_ok-ending.ensures.left) c.in_ok-write_report.ensures))
