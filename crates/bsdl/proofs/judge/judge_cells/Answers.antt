use Rattle.std.proofs.Common.{◌≡◌, ℕ, None, Some, option_map, ap}
use Rattle.bsdl_description.specs.Describing.{bad_cell}
use Rattle.bsdl_description.specs.View.{description}
use Rattle.bsdl_rules.specs.Fits.{unfit_cell as unfit_cell_of}
use Rattle.bsdl.proofs.judge.judge_cells.Goals as goal

pub returns-in-Some-clause-judges : goal.returns-in-Some-clause-judges
returns-in-Some-clause-judges c =
    let told : unfit_cell_of (description c.args.outline.now c.args.described.now) ≡ Some c.in-Some.number =
    cc (c.in_ok-number.ensures c.args.outline.now c.in_ok-known.ensures, c.in-Some.is) in
    ap (option_map (λ (x : ℕ). bad_cell x)) told

pub returns-clause-judges : goal.returns-clause-judges
returns-clause-judges c =
    let told : unfit_cell_of (description c.args.outline.now c.args.described.now) ≡ None =
    cc (c.in_ok-number.ensures c.args.outline.now c.in_ok-known.ensures, c.in-None.is) in
    ap (option_map (λ (x : ℕ). bad_cell x)) told
