use Rattle.std.proofs.Common.{◌-◌, arith}
use Rattle.scan_vectors.specs.Fields.{part_of}
use Rattle.scan_vectors.specs.Held.{fields}
use Rattle.board_reasons.proofs.PartStarts.{room}
use Rattle.board_reasons.proofs.vectors.last_before.Goals as goal

pub returns-clause-room : goal.returns-clause-room
returns-clause-room c =
    let v = c.args.vector.now in
    omega (arith, c.requires.some, room (part_of (fields v.header)) (part_of (fields v.body)) (part_of (fields v.trailer)) (c.args.end - 1) c.part.result c.part.ensures)
