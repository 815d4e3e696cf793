use Rattle.std.proofs.Common.{slice_get, refl, ap}
use Rattle.byte_streams.proofs.Fronts.{WritesAll-is, WritesAll-stopped, WritesAll-then}
use Rattle.board_reasons.specs.Lines.{found_cell}
use Rattle.board_reasons.proofs.writing.write_cell.Goals as goal

pub returns-in_err-write_number : goal.returns-in_err-write_number
returns-in_err-write_number g c =
    let d = c.args.device.now in
    WritesAll-stopped (found_cell c.args.chain.now.nets d c.args.captured (slice_get d.cells c.args.cell)) c.in_err-write_number.ensures refl c.from_residual.ensures.0

pub returns : goal.returns
returns g c =
    WritesAll-then c.in_ok-write_number.ensures refl
    (WritesAll-is (ap (found_cell c.args.chain.now.nets c.args.device.now c.args.captured) c.cell_at.ensures) c.write_found_cell.ensures)
