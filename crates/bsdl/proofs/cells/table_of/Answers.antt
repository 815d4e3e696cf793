use Rattle.std.proofs.Common.{◌≡◌, ◌+◌, ◌++◌, ◌∷◌, [], nat_eq, cond, ap, sym, ◌∙◌, map, take, get_or}
use Rattle.std.specs.Prelude.{Some, filter}
use Rattle.std.proofs.lemmas.List.{take_all, take_more, map-append}
use Rattle.bsdl_values.specs.CellView.{cell_row}
use Rattle.bsdl_values.specs.declared.cells.CellRow.{CellRow}
use Rattle.bsdl.specs.Bits.{last_of}
use Rattle.bsdl.specs.Boundary.{cell}
use Rattle.bsdl.proofs.ListedCells.{last_more}
use Rattle.bsdl.proofs.cells.table_of.Goals as goal

pub loop-row-preserved : goal.loop-row-preserved
loop-row-preserved c = λ ps at bits_are n.
    let rows = c.args.rows.now in
    let i = c.loop-row.row-index in
    let r = cell_row c.row-item.result in
    let before = map cell_row (take i rows) in
    let taken : map cell_row (take (i + 1) rows) ≡ before ++ r ∷ [] =
    ap (map cell_row) (take_more rows i c.row-item.result c.loop-row-test.true) ∙ map-append cell_row (take i rows) (get_or rows i c.row-item.result ∷ [])
    ∙ ap (λ (s : CellRow). before ++ cell_row s ∷ []) (sym c.row-item.is) in
    c.in_ok-add_row.ensures ps at bits_are n ∙ ap (λ o. cond (nat_eq r.number n) (Some (cell ps r)) o) (c.loop-row.invariant ps at bits_are n)
    ∙ sym (last_more (cell ps) before r n) ∙ ap (λ rs. last_of (map (cell ps) (filter (λ s. nat_eq s.number n) rs))) (sym taken)

pub returns : goal.returns
returns c = λ ps at bits_are n.
    c.loop-row.invariant ps at bits_are n
    ∙ ap (λ rows. last_of (map (cell ps) (filter (λ s. nat_eq s.number n) (map cell_row rows)))) (take_all c.loop-row.row-index c.args.rows.now c.loop-row-test.false)
