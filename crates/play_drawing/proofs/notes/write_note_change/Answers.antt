use Rattle.std.proofs.Common.{refl}
use Rattle.byte_streams.proofs.Fronts.{WritesAll-is, WritesAll-stopped, WritesAll-then}
use Rattle.play_drawing.specs.Notes.{note_lines}
use Rattle.play_drawing.proofs.Judged.{moved, still}
use Rattle.play_drawing.proofs.notes.write_note_change.Goals as goal

pub returns-then-shows_same : goal.returns-then-shows_same
returns-then-shows_same g c =
    WritesAll-is (still c.args.time c.args.number c.args.before c.args.after c.shows_same.result c.shows_same.ensures c.if-shows_same.true) c.put_all.ensures.writes

pub returns-in_err-write_stamp : goal.returns-in_err-write_stamp
returns-in_err-write_stamp g c =
    let rest = note_lines c.args.number c.args.before c.args.after in
    WritesAll-is (moved c.args.time c.args.number c.args.before c.args.after c.shows_same.result c.shows_same.ensures c.if-shows_same.false)
    (WritesAll-stopped rest c.in_err-write_stamp.ensures refl c.from_residual.ensures.0)

pub returns : goal.returns
returns g c =
    WritesAll-is (moved c.args.time c.args.number c.args.before c.args.after c.shows_same.result c.shows_same.ensures c.if-shows_same.false)
    (WritesAll-then c.in_ok-write_stamp.ensures refl c.write_note.ensures)
