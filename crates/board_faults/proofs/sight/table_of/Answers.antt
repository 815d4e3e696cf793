use Rattle.std.proofs.Common.{◌≡◌, drop, map, ap, ◌∙◌, arith, ℕ}
use Rattle.board_faults.specs.Sights.{makes_in}
use Rattle.board_faults.specs.Together.{table}
use Rattle.board_faults.proofs.sight.table_of.Goals as goal

pub returns : goal.returns
returns c =
    let none : c.loop-k.k ≡ 0 = omega (arith, c.loop-k-test.false) in
    c.loop-k.invariant.made ∙ ap (λ (k : ℕ). table (makes_in (map (λ t. t.items) c.args.sights.now) (drop k c.args.pins.now))) none
