use Rattle.std.proofs.Common.{◌≡◌, ℕ, List, Some, None, length, slice_get, refl, sym, ap, ◌∙◌}
use Rattle.std.proofs.lemmas.Option.{slice_get-get_or}
use Rattle.std.proofs.lemmas.Bool.{ltb-true}
use Rattle.bsdl_device.specs.Device.{Device, Opcode}
use Rattle.chip_instructions.specs.Fitting.{meaning_by}
use Rattle.chip_instructions.specs.Instruction.{meaning, meaning_of}
use Rattle.chip_instructions.proofs.TableLaws.{meaning_found}
use Rattle.chip_instructions.proofs.shared.SortedDevice.decode.Goals as goal

pub returns-in_default-clause-meaning : goal.returns-in_default-clause-meaning
returns-in_default-clause-meaning c =
    let d = c.self.inside.device in
    let latch = c.args.latch.now in
    let found = sym c.in_default.is ∙ c.row.ensures ∙ c.self.invariant.found latch (c.requires.length ∙ ap (λ (x : Device). x.instruction_length) (sym c.self.view_is)) in
    meaning_found d latch None None (sym c.all_ones.ensures ∙ c.if-all_ones.false) found refl
    ∙ ap (λ (x : Device). meaning x latch) c.self.view_is

pub returns-in-Some-get-clause-meaning : goal.returns-in-Some-get-clause-meaning
returns-in-Some-get-clause-meaning c =
    let d = c.self.inside.device in
    let latch = c.args.latch.now in
    let found = sym c.in-Some.is ∙ c.row.ensures ∙ c.self.invariant.found latch (c.requires.length ∙ ap (λ (x : Device). x.instruction_length) (sym c.self.view_is)) in
    let rows = c.opcodes.result.now in
    let number = c.in-Some.number in
    let row = c.in-Some-get.row.now in
    let there : slice_get d.opcodes number ≡ Some row =
    ap (λ (l : List Opcode). slice_get l number) (sym c.opcodes.ensures)
    ∙ slice_get-get_or rows number row (ltb-true number (length rows) (sym c.in-Some-get.ensures.lookup.0)) ∙ ap Some (sym c.in-Some-get.ensures.lookup.1) in
    ap (λ (x : Device). meaning_by x c.meaning_of_name.result) (sym c.self.view_is)
    ∙ c.meaning_of_name.ensures.meaning
    ∙ ap (λ (name : List ℕ). meaning_of d (Some name)) c.name.ensures
    ∙ meaning_found d latch (Some number) (Some row) (sym c.all_ones.ensures ∙ c.if-all_ones.false) found there
    ∙ ap (λ (x : Device). meaning x latch) c.self.view_is
