use Rattle.std.proofs.Common.{refl}
use Rattle.byte_streams.proofs.Fronts.{WritesAll-stopped, WritesAll-then}
use Rattle.board_description.specs.Words.{port_of}
use Rattle.board_reasons.proofs.writing.write_named_port.Goals as goal

pub returns-in_err-put_all : goal.returns-in_err-put_all
returns-in_err-put_all g c =
    WritesAll-stopped (port_of c.args.device.now c.args.port) c.in_err-put_all.ensures.writes refl c.from_residual.ensures.0

pub returns : goal.returns
returns g c = WritesAll-then c.in_ok-put_all.ensures.writes refl c.write_port.ensures
