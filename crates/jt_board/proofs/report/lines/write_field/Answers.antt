use Rattle.std.proofs.Common.{refl}
use Rattle.byte_streams.proofs.Fronts.{WritesAll-then, WritesAll-stopped}
use Rattle.jt_board.proofs.report.lines.write_field.Goals as goal

pub returns-in_err-put_all : goal.returns-in_err-put_all
returns-in_err-put_all g c = WritesAll-stopped c.args.end.now c.in_err-put_all.ensures.writes refl c.from_residual.ensures.0

pub returns : goal.returns
returns g c = WritesAll-then c.in_ok-put_all.ensures.writes refl c.put_all-2.ensures.writes
