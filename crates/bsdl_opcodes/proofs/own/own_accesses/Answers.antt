use Rattle.std.proofs.Common.{ℕ, List, map}
use Rattle.std.specs.BTreeSet.{contains_by}
use Rattle.name_keys.specs.Keys.{key_order}
use Rattle.bsdl_values.specs.InstructionView as rows_view
use Rattle.bsdl_opcodes.proofs.OwnLaws.{own_test}
use Rattle.bsdl_opcodes.proofs.own.own_accesses.Goals as goal

pub returns : goal.returns
returns c =
    rw (← own_test (λ (q : List ℕ). contains_by (key_order q) c.in_ok-with_opcode.with_opcode) (λ (q : List ℕ). contains_by (key_order q) c.in_ok-private.private)
    (map rows_view.opcode_row c.args.opcodes.now) (map rows_view.private_name c.args.private.now) c.in_ok-with_opcode.ensures c.in_ok-private.ensures)
    c.keep_own_rows.ensures
