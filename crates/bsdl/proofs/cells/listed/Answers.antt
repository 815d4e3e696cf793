use Rattle.std.proofs.Common.{◌+◌, ◌-◌, ◌++◌, ℕ, ap, ◌∙◌}
use Rattle.std.specs.Prelude.{option_to_list}
use Rattle.std.specs.BTreeMap.{get}
use Rattle.std.specs.List.{flat_map, range_with_len}
use Rattle.std.specs.Ordering.{nat_cmp}
use Rattle.bsdl.proofs.ListedCells.{listed_more}
use Rattle.bsdl.proofs.cells.listed.Goals as goal

pub loop-number-preserved : goal.loop-number-preserved
loop-number-preserved c =
    let g = λ (k : ℕ). option_to_list (get nat_cmp c.args.table.now k) in
    let k = c.loop-number.number in
    ap (λ xs. xs ++ flat_map g (range_with_len (k + 1) (c.args.len - (k + 1)))) c.in_ok-add_listed.ensures
    ∙ listed_more g c.loop-number.cells.items k c.args.len c.loop-number-test.true ∙ c.loop-number.invariant
