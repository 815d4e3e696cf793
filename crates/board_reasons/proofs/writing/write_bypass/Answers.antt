use Rattle.std.proofs.Common.{refl}
use Rattle.byte_streams.proofs.Fronts.{WritesAll-stopped, WritesAll-then}
use Rattle.board_reasons.specs.Lines.{by_words}
use Rattle.board_reasons.proofs.writing.write_bypass.Goals as goal

pub returns-in_err-put_all : goal.returns-in_err-put_all
returns-in_err-put_all g c =
    WritesAll-stopped (by_words c.args.device.now c.args.by) c.in_err-put_all.ensures.writes refl c.from_residual.ensures.0

pub returns : goal.returns
returns g c = WritesAll-then c.in_ok-put_all.ensures.writes refl c.write_by.ensures
