use Rattle.std.proofs.Common.{refl, arith, ◌++◌}
use Rattle.std.proofs.lemmas.Grind.{common_steps}
use Rattle.std.specs.Prelude.{codes}
use Rattle.byte_streams.proofs.Fronts.{WritesAll-is, WritesAll-then, WritesAll-stopped}
use Rattle.output_words.specs.Levels.{level_word}
use Rattle.jt_board.proofs.report.lines.write_level.Goals as goal

pub returns-in_err-write_field : goal.returns-in_err-write_field
returns-in_err-write_field g c =
    WritesAll-is (grind (arith, common_steps)) (WritesAll-stopped (level_word c.args.level ++ codes "\n") c.in_err-write_field.ensures refl c.from_residual.ensures.0)

pub returns : goal.returns
returns g c = WritesAll-is (grind (arith, common_steps)) (WritesAll-then c.in_ok-write_field.ensures refl c.write_field-2.ensures)
