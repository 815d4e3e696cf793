use Rattle.std.proofs.Common.{◌≡◌, ◌+◌, ◌++◌, ℕ, suc, map, take, drop, set, get_or, sym, subst, ◌∙◌, arith}
use Rattle.std.specs.BTreeSet.{contains_by}
use Rattle.std.proofs.lemmas.List.{length-set}
use Rattle.std.proofs.lemmas.Option.{slice_get-get_or}
use Rattle.name_keys.specs.Keys.{key_order}
use Rattle.bsdl_values.specs.declared.instructions.names.AccessRow as declared_access
use Rattle.bsdl_values.specs.InstructionValues.{Instr}
use Rattle.bsdl_values.specs.InstructionView.{access_row}
use Rattle.bsdl_opcodes.specs.NameSets.{is_own_by, row_with}
use Rattle.bsdl_opcodes.proofs.OwnLaws.{all_changed, changed_more}
use Rattle.bsdl_opcodes.proofs.own.keep_own_of_each.Goals as goal

pub loop-row-preserved : goal.loop-row-preserved
loop-row-preserved c =
    let now = c.loop-row.rows in
    let at = c.loop-row.row-index in
    let after = λ (r : declared_access.AccessRow). row_with (λ (i : Instr). is_own_by (λ q. contains_by (key_order q) c.args.with_opcode.now) (λ q. contains_by (key_order q) c.args.private.now) i.name.text) (access_row r) in
    let y = c.keep_own.new.row in
    let more : suc at ≡ at + 1 = omega arith in
    record {
      long = length-set now at y ∙ c.loop-row.invariant.long;
      told =
          subst (λ (j : ℕ). map access_row (take j (set now at y)) ++ map after (drop j (set now at y)) ≡ map after c.args.rows.now) more
          (changed_more access_row after now at (get_or now at c.row-item.result) y
          (slice_get-get_or now at c.row-item.result (omega (arith, c.loop-row-test.true, c.loop-row.invariant.long))) c.keep_own.ensures
          ∙ c.loop-row.invariant.told);
    }

pub returns-clause-rows : goal.returns-clause-rows
returns-clause-rows c =
    let after = λ (r : declared_access.AccessRow). row_with (λ (i : Instr). is_own_by (λ q. contains_by (key_order q) c.args.with_opcode.now) (λ q. contains_by (key_order q) c.args.private.now) i.name.text) (access_row r) in
    sym (all_changed access_row after c.loop-row.rows c.loop-row.row-index (omega (arith, c.loop-row-test.false, c.loop-row.invariant.long)))
    ∙ c.loop-row.invariant.told
