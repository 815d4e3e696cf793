use Rattle.std.proofs.Common.{refl}
use Rattle.byte_streams.proofs.Fronts.{WritesAll-then, WritesAll-stopped}
use Rattle.play_direct.specs.Report.{report}
use Rattle.jt_player.proofs.linking.write_played.Goals as goal

pub returns-in_err-write_ending : goal.returns-in_err-write_ending
returns-in_err-write_ending g c =
    WritesAll-stopped (report c.args.board.now) c.in_err-write_ending.ensures refl c.from_residual.ensures.0

pub returns : goal.returns
returns g c = WritesAll-then c.in_ok-write_ending.ensures refl c.write_report.ensures
