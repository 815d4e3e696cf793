use Rattle.std.proofs.Common.{ℕ, filter, map, ◌+◌, ◌++◌, List, refl, sym, drop, take, ap, ◌∙◌, subst, arith}
use Rattle.std.proofs.lemmas.List.{take_all}
use Rattle.std.specs.Prelude.{flat_map}
use Rattle.std.specs.Io.KnownBytes.{Appends}
use Rattle.std.proofs.KnownBytes.{Appends-trans}
use Rattle.bsdl_device.specs.Device.{Device, Opcode}
use Rattle.byte_streams.proofs.Fronts.{WritesAll-is, WritesAll-lost, WritesAll-done}
use Rattle.byte_streams.proofs.Pieces.{flat_map-more, flat_map-split}
use Rattle.board_plan.specs.LeftOut.{is_left_out}
use Rattle.jt_board.specs.LeftOut.{left_out_line, name_lines}
use Rattle.jt_board.proofs.Lines.{lines_by_rows, row_lines}
use Rattle.jt_board.proofs.report.lines.write_instructions.Goals as goal

pub loop-opcode-preserved : goal.loop-opcode-preserved
loop-opcode-preserved g c =
    let rows = c.opcodes-opcodes.result.now in
    let i = c.loop-opcode.opcode-index in
    let name = c.args.chip.now.name in
    let device = c.args.chip.now.chip.device in
    let lines = row_lines name device in
    record {
      none_lost = c.in_ok-write_if_left_out.ensures.ok.0 refl;
      sent = subst (λ (l : List ℕ). Appends (g.W.Write.contents c.args.out.now.inner) (g.W.Write.contents c.write_if_left_out.new.out.inner) l)
          (ap (λ (n : List ℕ). flat_map lines (take i rows) ++ name_lines name device n) (c.name.ensures ∙ ap (λ (o : Opcode). o.name) c.opcode-item.is)
          ∙ flat_map-more lines rows i c.opcode-item.result (omega (arith, c.loop-opcode-test.true)))
          (Appends-trans _ _ _ _ _ c.loop-opcode.invariant.sent c.in_ok-write_if_left_out.ensures.whole);
    }

pub returns-in_err-write_if_left_out : goal.returns-in_err-write_if_left_out
returns-in_err-write_if_left_out g c =
    let rows = c.opcodes-opcodes.result.now in
    let i = c.loop-opcode.opcode-index in
    let name = c.args.chip.now.name in
    let device = c.args.chip.now.chip.device in
    let lines = row_lines name device in
    let more = ap (λ (n : List ℕ). flat_map lines (take i rows) ++ name_lines name device n) (c.name.ensures ∙ ap (λ (o : Opcode). o.name) c.opcode-item.is)
    ∙ flat_map-more lines rows i c.opcode-item.result (omega (arith, c.loop-opcode-test.true)) in
    let whole = lines_by_rows name device rows
    ∙ ap (λ (rs : List Opcode). flat_map (left_out_line name) (filter (is_left_out device) (map (λ (o : Opcode). o.name) rs))) (c.opcodes-opcodes.ensures ∙ ap (λ (d : Device). d.opcodes) c.device.ensures) in
    WritesAll-is whole
    (WritesAll-lost (flat_map lines rows) (flat_map lines (take i rows)) (flat_map lines (drop (i + 1) rows))
    (flat_map-split lines rows (i + 1) ∙ ap (λ l. l ++ flat_map lines (drop (i + 1) rows)) (sym more))
    c.loop-opcode.invariant.sent c.in_err-write_if_left_out.ensures refl c.from_residual.ensures.0)

pub returns : goal.returns
returns g c =
    let rows = c.opcodes-opcodes.result.now in
    let name = c.args.chip.now.name in
    let device = c.args.chip.now.chip.device in
    let whole = lines_by_rows name device rows
    ∙ ap (λ (rs : List Opcode). flat_map (left_out_line name) (filter (is_left_out device) (map (λ (o : Opcode). o.name) rs))) (c.opcodes-opcodes.ensures ∙ ap (λ (d : Device). d.opcodes) c.device.ensures) in
    WritesAll-is whole
    (WritesAll-done tt c.loop-opcode.invariant.none_lost
    (subst (λ (l : List Opcode). Appends (g.W.Write.contents c.args.out.now.inner) (g.W.Write.contents c.loop-opcode.out.inner) (flat_map (row_lines name device) l))
    (take_all c.loop-opcode.opcode-index rows (omega (arith, c.loop-opcode-test.false))) c.loop-opcode.invariant.sent))
