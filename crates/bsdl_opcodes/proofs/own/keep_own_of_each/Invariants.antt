use Rattle.std.proofs.Common.{◌≡◌, ◌++◌, length, map, take, drop}
use Rattle.std.specs.BTreeSet.{contains_by}
use Rattle.name_keys.specs.Keys.{key_order}
use Rattle.bsdl_values.specs.declared.instructions.names.AccessRow as declared_access
use Rattle.bsdl_values.specs.InstructionValues.{AccessRow}
use Rattle.bsdl_values.specs.InstructionView.{access_row}
use Rattle.bsdl_opcodes.specs.NameSets.{is_own_by, row_with}
use Rattle.bsdl_opcodes.proofs.own.keep_own_of_each.Given as goal

abbrev pub invariant-loop-row : goal.invariant-loop-row
invariant-loop-row l =
    let after : declared_access.AccessRow → AccessRow = λ r. row_with (λ i. is_own_by (λ q. contains_by (key_order q) l.with_opcode) (λ q. contains_by (key_order q) l.private) i.name.text) (access_row r) in
    record {
      long : length l.rows ≡ length l.initial.rows;
      told : map access_row (take l.row-index l.rows) ++ map after (drop l.row-index l.rows) ≡ map after l.initial.rows;
    }
