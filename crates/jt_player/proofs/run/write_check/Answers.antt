use Rattle.std.proofs.Common.{refl}
use Rattle.byte_streams.proofs.Fronts.{WritesAll-then, WritesAll-stopped}
use Rattle.play_direct.specs.LeftOut.{left_out_lines}
use Rattle.jt_player.proofs.run.write_check.Goals as goal

pub returns-in_err-write_accepted : goal.returns-in_err-write_accepted
returns-in_err-write_accepted g c =
    WritesAll-stopped (left_out_lines c.args.board.now) c.in_err-write_accepted.ensures refl c.from_residual.ensures.0

pub returns : goal.returns
returns g c = WritesAll-then c.in_ok-write_accepted.ensures refl c.write_left_out.ensures
