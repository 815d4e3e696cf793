use Rattle.std.proofs.Common.{◌≡◌, length, map, ap, ◌∙◌, arith}
use Rattle.std.specs.Prelude.{filter}
use Rattle.std.specs.BTreeSet.{contains_by}
use Rattle.name_keys.specs.Keys.{key_order}
use Rattle.bsdl_values.specs.InstructionValues.{Instr}
use Rattle.bsdl_values.specs.InstructionView.{access_row}
use Rattle.bsdl_opcodes.specs.Own.{own_accesses}
use Rattle.bsdl_opcodes.specs.NameSets.{is_own_by, has_some}
use Rattle.bsdl_opcodes.proofs.OwnLaws.{front_of, own_left}
use Rattle.bsdl_opcodes.proofs.own.keep_own_rows.Goals as goal

pub returns : goal.returns
returns c =
    let test = λ (i : Instr). is_own_by (λ q. contains_by (key_order q) c.args.with_opcode.now) (λ q. contains_by (key_order q) c.args.private.now) i.name.text in
    let slice : c.deref_mut.result.now ≡ c.args.rows.now.items = c.deref_mut.ensures.value in
    let long : c.args.rows.now.len ≡ length c.keep_own_of_each.new.rows =
    omega (arith, c.args.rows.now.ok.0, c.keep_own_of_each.ensures.long, ap length slice) in
    c.drop_empty.ensures
    ∙ ap (λ rs. filter has_some (map access_row rs)) (front_of c.keep_own_of_each.new.rows _ c.args.rows.now.len long)
    ∙ ap (filter has_some) c.keep_own_of_each.ensures.rows
    ∙ own_left test access_row c.deref_mut.result.now
    ∙ ap (λ rs. own_accesses test (map access_row rs)) slice
