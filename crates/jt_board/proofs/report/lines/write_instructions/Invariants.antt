use Rattle.std.proofs.Common.{◌≡◌, take}
use Rattle.std.specs.Prelude.{flat_map}
use Rattle.std.specs.Io.KnownBytes.{Appends}
use Rattle.jt_board.proofs.Lines.{row_lines}
use Rattle.jt_board.proofs.report.lines.write_instructions.Given as goal

abbrev pub invariant-loop-opcode : goal.invariant-loop-opcode
invariant-loop-opcode g l = record {
  none_lost : l.out.failures ≡ 0;
  sent : Appends (g.W.Write.contents l.initial.out.inner) (g.W.Write.contents l.out.inner) (flat_map (row_lines l.chip.name l.chip.chip.device) (take l.opcode-index l.opcodes));
}
