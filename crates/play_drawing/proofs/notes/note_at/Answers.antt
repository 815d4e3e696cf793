use Rattle.std.proofs.Common.{Option, ℕ, sym, ap, ◌∙◌}
use Rattle.scan_vectors.specs.Held.{bits}
use Rattle.std.specs.Prelude.{slice_get}
use Rattle.play_drawing.specs.Judging.{asked_bit, high_note}
use Rattle.play_drawing.proofs.Judged.{high_so}
use Rattle.play_drawing.proofs.notes.note_at.Goals as goal

pub returns-in-Some : goal.returns-in-Some
returns-in-Some c =
    high_so (slice_get (bits c.args.vector.now) c.in-Some.i) c.args.tdo c.args.low c.bit.result c.difference.result c.bit.ensures c.difference.ensures
    ∙ ap (λ (a : Option ℕ). high_note (asked_bit (bits c.args.vector.now) a) c.args.tdo c.args.low) (sym c.in-Some.is)
