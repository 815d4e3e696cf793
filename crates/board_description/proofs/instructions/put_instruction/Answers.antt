use Rattle.std.proofs.Common.{◌≡◌, ◌++◌, ap, ◌∙◌, arith}
use Rattle.bsdl_device.specs.Device.{Name, Pattern}
use Rattle.board_description.specs.Covered.{played}
use Rattle.board_description.specs.Described.{opcode_line, opcode_line_by}
use Rattle.board_description.proofs.TextLaws.{line_more}
use Rattle.board_description.proofs.instructions.put_instruction.Goals as goal

pub loop-pattern-preserved : goal.loop-pattern-preserved
loop-pattern-preserved c =
    let i = c.loop-pattern.pattern-index in
    let patterns = c.patterns-pattern-items.result.now in
    let p = c.pattern-item.result in
    let device = c.args.name.now in
    let d = c.args.device.now in
    let name = c.args.row.now.name in
    let text = c.loop-pattern.text.items in
    let new = c.put_line.new.text.items in
    let by : c.played-played.result.now ≡ played d name p =
    c.played-played.ensures d.opcodes c.requires.opcodes ∙ ap (λ (n : Name). played d n p) c.name.ensures in
    line_more (opcode_line device d name) patterns i p c.args.text.now.items text new (omega (arith, c.loop-pattern-test.true)) c.loop-pattern.invariant
    (c.in_ok-put_line.ensures
    ∙ ap (λ (n : Name). text ++ opcode_line_by device d n p c.played-played.result.now) c.name-in-loop-pattern.ensures
    ∙ ap (λ (n : Name). text ++ opcode_line_by device d name p n) by
    ∙ ap (λ (q : Pattern). text ++ opcode_line device d name q) c.pattern-item.is)
