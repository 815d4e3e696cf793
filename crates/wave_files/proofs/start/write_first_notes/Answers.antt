use Rattle.std.proofs.Common.{refl}
use Rattle.byte_streams.proofs.Fronts.{WritesAll-stopped, WritesAll-then}
use Rattle.wave_files.proofs.start.write_first_notes.Goals as goal

pub returns-in_err-write_byte : goal.returns-in_err-write_byte
returns-in_err-write_byte g c =
    (WritesAll-stopped _ c.in_err-write_byte.ensures refl c.from_residual.ensures.0)

pub returns-in_err-write_byte-2 : goal.returns-in_err-write_byte-2
returns-in_err-write_byte-2 g c =
    (WritesAll-then c.in_ok-write_byte.ensures refl
    (WritesAll-stopped _ c.in_err-write_byte-2.ensures refl c.from_residual-in_err-write_byte-2.ensures.0))

pub returns-in_err-write_bits_line : goal.returns-in_err-write_bits_line
returns-in_err-write_bits_line g c =
    (WritesAll-then c.in_ok-write_byte.ensures refl
    (WritesAll-then c.in_ok-write_byte-2.ensures refl
    (WritesAll-stopped _ c.in_err-write_bits_line.ensures refl c.from_residual-in_err-write_bits_line.ensures.0)))

pub returns : goal.returns
returns g c =
    (WritesAll-then c.in_ok-write_byte.ensures refl
    (WritesAll-then c.in_ok-write_byte-2.ensures refl
    (WritesAll-then c.in_ok-write_bits_line.ensures refl
    (c.write_word_line.ensures))))
