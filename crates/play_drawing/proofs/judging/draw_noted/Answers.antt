use Rattle.std.proofs.Common.{◌++◌, ℕ, ap, refl}
use Rattle.byte_streams.proofs.Fronts.{WritesAll-is, WritesAll-stopped, WritesAll-then}
use Rattle.play_drawing.specs.Drawing.{mark}
use Rattle.play_drawing.specs.Notes.{note_change}
use Rattle.play_drawing.proofs.Runs.{always}
use Rattle.play_drawing.proofs.judging.draw_noted.Goals as goal

pub returns-in_err-write_note_change-clause-writes : goal.returns-in_err-write_note_change-clause-writes
returns-in_err-write_note_change-clause-writes g c =
    let rest = mark c.args.message c.args.drawing.now in
    WritesAll-is (ap (λ (t : ℕ). note_change t c.args.number c.args.before c.args.after ++ rest) c.time.ensures)
    (WritesAll-stopped rest c.in_err-write_note_change.ensures refl c.from_residual.ensures.0)

pub returns-clause-writes : goal.returns-clause-writes
returns-clause-writes g c =
    let rest = mark c.args.message c.args.drawing.now in
    WritesAll-is (ap (λ (t : ℕ). note_change t c.args.number c.args.before c.args.after ++ rest) c.time.ensures)
    (WritesAll-then c.in_ok-write_note_change.ensures refl c.draw.ensures.writes)

pub returns-clause-pen : goal.returns-clause-pen
returns-clause-pen g c = always c.draw.result c.draw.ensures.pen
