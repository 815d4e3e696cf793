use Rattle.std.proofs.Common.{◌≡◌, Bool, true, false, List, ℕ, [], sym, ap, ◌∙◌, if◌then◌else◌}
use Rattle.std.proofs.KnownBytes.{Appends-nil}
use Rattle.bsdl_device.specs.Device.{Device}
use Rattle.byte_streams.proofs.Fronts.{WritesAll-is, WritesAll-done}
use Rattle.board_plan.specs.LeftOut.{is_left_out}
use Rattle.jt_board.specs.LeftOut.{left_out_line}
use Rattle.jt_board.proofs.report.lines.write_if_left_out.Goals as goal

pub returns-then-is_left_out : goal.returns-then-is_left_out
returns-then-is_left_out g c =
    let name = c.args.name.now in
    let line = left_out_line c.args.chip.now.name name in
    let left : is_left_out c.args.chip.now.chip.device name ≡ true =
    ap (λ (d : Device). is_left_out d name) (sym c.device.ensures) ∙ sym c.is_left_out.ensures ∙ c.if-is_left_out.true in
    WritesAll-is (ap (λ (d : List ℕ). left_out_line d name) c.name.ensures ∙ sym (ap (λ (b : Bool). if b then line else []) left)) c.write_instruction_line.ensures

pub returns : goal.returns
returns g c =
    let name = c.args.name.now in
    let line = left_out_line c.args.chip.now.name name in
    let kept : is_left_out c.args.chip.now.chip.device name ≡ false =
    ap (λ (d : Device). is_left_out d name) (sym c.device.ensures) ∙ sym c.is_left_out.ensures ∙ c.if-is_left_out.false in
    WritesAll-is (sym (ap (λ (b : Bool). if b then line else []) kept)) (WritesAll-done tt c.requires (Appends-nil _))
