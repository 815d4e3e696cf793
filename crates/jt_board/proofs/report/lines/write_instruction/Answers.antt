use Rattle.std.proofs.Common.{refl, arith, ◌++◌}
use Rattle.std.proofs.lemmas.Grind.{common_steps}
use Rattle.std.specs.Prelude.{codes}
use Rattle.byte_streams.proofs.Fronts.{WritesAll-is, WritesAll-then, WritesAll-stopped}
use Rattle.chip_instructions.specs.Instruction.{instruction}
use Rattle.jt_board.specs.Report.{name_or_dash}
use Rattle.jt_board.proofs.report.lines.write_instruction.Goals as goal

pub returns-in_err-write_bits : goal.returns-in_err-write_bits
returns-in_err-write_bits g c =
    let so = c.from_residual.ensures.0 in
    let name = name_or_dash (instruction c.args.chip.now.chip.device c.args.chip.now.chip.latch) in
    WritesAll-is (grind (arith, common_steps)) (WritesAll-stopped (codes " " ++ (name ++ codes "\n")) c.in_err-write_bits.ensures refl so)

pub returns-in_err-put_all : goal.returns-in_err-put_all
returns-in_err-put_all g c =
    let so = c.from_residual-in_err-put_all.ensures.0 in
    let name = name_or_dash (instruction c.args.chip.now.chip.device c.args.chip.now.chip.latch) in
    WritesAll-is (grind (arith, common_steps))
    (WritesAll-then c.in_ok-write_bits.ensures refl (WritesAll-stopped (name ++ codes "\n") c.in_err-put_all.ensures.writes refl so))

pub returns : goal.returns
returns g c =
    WritesAll-is (grind (arith, common_steps))
    (WritesAll-then c.in_ok-write_bits.ensures refl (WritesAll-then c.in_ok-put_all.ensures.writes refl c.write_field.ensures))
