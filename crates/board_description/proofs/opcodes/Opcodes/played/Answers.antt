use Rattle.std.proofs.Common.{◌∙◌, sym, ap}
use Rattle.std.specs.List.{list_all, position}
use Rattle.std.specs.Prelude.{slice_get, unwrap_or}
use Rattle.bsdl_device.specs.Device.{Pattern}
use Rattle.board_tables.specs.WordView.{texts_of}
use Rattle.board_description.specs.Covered.{is_one, opcode_names, opcode_patterns, takes}
use Rattle.board_description.proofs.CoverLaws.{named_there, not_taken}
use Rattle.board_description.proofs.opcodes.Opcodes.played.Goals as goal

pub returns-in-Some : goal.returns-in-Some
returns-in-Some c rows h =
    let pattern = c.args.pattern.now in
    let ones = ap (list_all is_one) (sym c.bits.ensures) ∙ sym c.all_ones.ensures ∙ c.if-all_ones.false in
    let found = c.first_taking.ensures (opcode_names rows) (opcode_patterns rows) h
    ∙ ap (λ (p : Pattern). position (λ other. takes other p) (opcode_patterns rows)) c.bits-2.ensures in
    c.name_at.ensures ∙ ap (λ ks. unwrap_or (slice_get (texts_of ks) c.in-Some.place) c.args.name.now) c.deref.ensures.value
    ∙ named_there rows pattern c.args.name.now c.args.self.now.names.items c.first_taking.result ones found h.names_are c.in-Some.place c.in-Some.is

pub returns-in-None : goal.returns-in-None
returns-in-None c rows h =
    let pattern = c.args.pattern.now in
    let ones = ap (list_all is_one) (sym c.bits.ensures) ∙ sym c.all_ones.ensures ∙ c.if-all_ones.false in
    let found = c.first_taking.ensures (opcode_names rows) (opcode_patterns rows) h
    ∙ ap (λ (p : Pattern). position (λ other. takes other p) (opcode_patterns rows)) c.bits-2.ensures in
    not_taken rows pattern c.args.name.now c.args.self.now.names.items c.first_taking.result ones found h.names_are c.in-None.is
