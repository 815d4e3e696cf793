use Rattle.std.proofs.Common.{◌≡◌, ◌≤◌, ℕ, suc, min, max, nat_lt, ap, sym, ◌∙◌, map, arith}
use Rattle.std.specs.Prelude.{not}
use Rattle.std.specs.BTreeMap.{get}
use Rattle.std.specs.List.{find, fold, range_with_len}
use Rattle.std.specs.Ordering.{nat_cmp}
use Rattle.jt_limits.specs.Limits.{subscript_limit}
use Rattle.bsdl_values.specs.CellView.{cell_row}
use Rattle.bsdl_description.specs.View.{description}
use Rattle.bsdl_rules.specs.Fits as fits
use Rattle.bsdl_lookup.specs.Table.{is_fit, only_row_fits}
use Rattle.bsdl_rules.proofs.TableLaws.{end_by, find_same, fit_by}
use Rattle.bsdl_rules.proofs.keyed.unfit_cell_by_key.Goals as goal

pub returns : goal.returns
returns c = λ f holds.
    let d = description f c.args.described.now in
    let length = c.up_to-length.result in
    let table = c.in_ok-table.table in
    let end = min (suc subscript_limit) (fits.cells_end d) in
    let test = λ (n : ℕ). not (is_fit (nat_lt n length) (get nat_cmp table.cells n)) in
    let listed : (n : ℕ) → n ≤ subscript_limit → get nat_cmp table.cells n ≡ only_row_fits (fits.row_fits d) d.cells n = λ n few.
    c.in_ok-table.ensures d holds n few ∙ ap (λ rows. only_row_fits (fits.row_fits d) (map cell_row rows) n) c.deref.ensures.value in
    let ends : c.cells_end-end.result ≡ end =
    c.cells_end-end.ensures ∙ ap (λ rows. min (fold (λ n r. max n (suc r.number)) length (map cell_row rows)) (suc subscript_limit)) c.deref-2.ensures.value ∙ end_by d length c.up_to-length.ensures in
    c.first_unfit.ensures ∙ ap (λ (e : ℕ). find test (range_with_len 0 e)) ends
    ∙ find_same test (λ n. not (fits.is_fit d n)) 0 end (λ k h.
    let few : k ≤ subscript_limit = omega arith in
    ap not (sym (fit_by d k length (get nat_cmp table.cells k) few c.up_to-length.ensures (listed k few))))
