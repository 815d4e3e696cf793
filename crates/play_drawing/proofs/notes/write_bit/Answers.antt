use Rattle.std.proofs.Common.{◌+◌, ◌++◌, refl}
use Rattle.byte_streams.proofs.Fronts.{WritesAll-is, WritesAll-stopped, WritesAll-then}
use Rattle.wave_files.specs.Values.{bits_line, word_line}
use Rattle.play_model.specs.Endings.{part_word}
use Rattle.play_drawing.specs.Notes.{place_bits}
use Rattle.play_drawing.proofs.notes.write_bit.Goals as goal

pub returns-in_err-write_place : goal.returns-in_err-write_place
returns-in_err-write_place g c =
    WritesAll-stopped (word_line (c.args.number + 1) (part_word c.args.part)) c.in_err-write_place.ensures refl c.from_residual.ensures.0

pub returns : goal.returns
returns g c =
    WritesAll-is (λ i. bits_line c.args.number (place_bits c.args.place) ++ word_line (c.args.number + 1) (c.word_of.ensures i))
    (WritesAll-then c.in_ok-write_place.ensures refl c.write_word_line.ensures)
