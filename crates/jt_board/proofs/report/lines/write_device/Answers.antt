use Rattle.std.proofs.Common.{refl, arith, ◌++◌}
use Rattle.std.proofs.lemmas.Grind.{common_steps}
use Rattle.std.specs.Prelude.{codes}
use Rattle.byte_streams.proofs.Fronts.{WritesAll-is, WritesAll-then, WritesAll-stopped}
use Rattle.jt_tap.specs.Words.{word}
use Rattle.board_chain.specs.WiredChips.{chip_state}
use Rattle.jt_board.specs.Report.{instruction_part}
use Rattle.jt_board.proofs.report.lines.write_device.Goals as goal

pub returns-in_err-write_field : goal.returns-in_err-write_field
returns-in_err-write_field g c =
    let so = c.from_residual.ensures.0 in
    WritesAll-stopped (instruction_part (chip_state c.args.chip.now))
    (WritesAll-stopped (word c.args.chip.now.chip.state ++ codes " ") (WritesAll-is (grind (arith, common_steps)) c.in_err-write_field.ensures) refl so) so so

pub returns-in_err-write_field-2 : goal.returns-in_err-write_field-2
returns-in_err-write_field-2 g c =
    let so = c.from_residual-in_err-write_field-2.ensures.0 in
    WritesAll-is (grind (arith, common_steps))
    (WritesAll-then c.in_ok-write_field.ensures refl (WritesAll-stopped (instruction_part (chip_state c.args.chip.now)) c.in_err-write_field-2.ensures refl so))

pub returns : goal.returns
returns g c =
    WritesAll-is (grind (arith, common_steps))
    (WritesAll-then c.in_ok-write_field.ensures refl (WritesAll-then c.in_ok-write_field-2.ensures refl c.write_instruction.ensures))
