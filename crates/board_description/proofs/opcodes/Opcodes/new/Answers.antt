use Rattle.std.proofs.Common.{arith, take}
use Rattle.board_description.specs.Covered.{opcode_names, opcode_patterns}
use Rattle.board_description.proofs.CoverLaws.{one_row}
use Rattle.board_description.proofs.opcodes.Opcodes.new.Goals as goal

pub loop-row-preserved : goal.loop-row-preserved
loop-row-preserved c =
    let i = c.loop-row.row-index in
    let rows = c.args.rows.now in
    one_row rows i c.row-item.result c.add_row.new.self (omega (arith, c.loop-row-test.true)) c.row-item.is
    (c.in_ok-add_row.ensures (opcode_names (take i rows)) (opcode_patterns (take i rows)) c.loop-row.invariant)
