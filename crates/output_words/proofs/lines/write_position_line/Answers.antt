use Rattle.std.proofs.Common.{refl}
use Rattle.std.specs.Prelude.{codes}
use Rattle.byte_streams.proofs.Fronts.{WritesAll-then, WritesAll-stopped}
use Rattle.output_words.proofs.lines.write_position_line.Goals as goal

pub returns-in_err-write_position : goal.returns-in_err-write_position
returns-in_err-write_position g c =
    WritesAll-stopped (codes "\n") c.in_err-write_position.ensures refl c.from_residual.ensures.0

pub returns : goal.returns
returns g c = WritesAll-then c.in_ok-write_position.ensures refl c.put_all.ensures.writes
