use Rattle.std.proofs.Common.{refl}
use Rattle.byte_streams.proofs.Fronts.{WritesAll-stopped, WritesAll-then}
use Rattle.jt_board.specs.Report.{report}
use Rattle.play_explained.proofs.runs.write_by_other.Goals as goal

pub returns-in_err-write_if_failed : goal.returns-in_err-write_if_failed
returns-in_err-write_if_failed g c =
    WritesAll-stopped (report c.args.board.now) c.in_err-write_if_failed.ensures refl c.from_residual.ensures.0

pub returns : goal.returns
returns g c = WritesAll-then c.in_ok-write_if_failed.ensures refl c.write_report.ensures
