use Rattle.std.proofs.Common.{◌≡◌, ◌+◌, ◌++◌, ◌∷◌, [], ap, sym, ◌∙◌, map, take, get_or}
use Rattle.std.proofs.lemmas.List.{take_more, map-append}
use Rattle.bsdl_values.specs.InstructionView.{access_row}
use Rattle.bsdl_values.specs.declared.instructions.names.AccessRow.{AccessRow}
use Rattle.bsdl_opcodes.specs.Users.{users_of}
use Rattle.bsdl_opcodes.proofs.UserLaws.{users_more}
use Rattle.bsdl_opcodes.proofs.users.users_of.Goals as goal

pub loop-row-preserved : goal.loop-row-preserved
loop-row-preserved c =
    let rows = c.args.rows.now in
    let i = c.loop-row.row-index in
    let taken : map access_row (take (i + 1) rows) ≡ map access_row (take i rows) ++ access_row c.row-item.result ∷ [] =
    ap (map access_row) (take_more rows i c.row-item.result c.loop-row-test.true) ∙ map-append access_row (take i rows) (get_or rows i c.row-item.result ∷ [])
    ∙ ap (λ (s : AccessRow). map access_row (take i rows) ++ access_row s ∷ []) (sym c.row-item.is) in
    rw (taken, users_more (map access_row (take i rows)) (access_row c.row-item.result)) (c.in_ok-add_row.ensures (users_of (map access_row (take i rows))) c.loop-row.invariant)
