use Rattle.std.proofs.Common.{◌++◌, refl}
use Rattle.byte_streams.proofs.Fronts.{WritesAll-stopped, WritesAll-then}
use Rattle.board_reasons.specs.Lines.{at_port, captured_words}
use Rattle.board_reasons.proofs.writing.write_cell_words.Goals as goal

pub returns-in_err-write_function : goal.returns-in_err-write_function
returns-in_err-write_function g c =
    WritesAll-stopped (at_port c.args.device.now c.args.cell.port ++ captured_words c.args.chain.now.nets c.args.captured)
    c.in_err-write_function.ensures refl c.from_residual.ensures.0

pub returns-in_err-write_at_port : goal.returns-in_err-write_at_port
returns-in_err-write_at_port g c =
    WritesAll-then c.in_ok-write_function.ensures refl
    (WritesAll-stopped (captured_words c.args.chain.now.nets c.args.captured) c.in_err-write_at_port.ensures refl c.from_residual-in_err-write_at_port.ensures.0)

pub returns : goal.returns
returns g c = WritesAll-then c.in_ok-write_function.ensures refl (WritesAll-then c.in_ok-write_at_port.ensures refl c.write_captured.ensures)
