use Rattle.std.proofs.Common.{arith, refl, subst, length, sym, false}
use Rattle.refusal_places.specs.Rising.{Rises}
use Rattle.refusal_places.specs.Starts.{starts}
use Rattle.refusal_places.proofs.Order.{starts_rise}
use Rattle.refusal_places.proofs.text_positions.statements.StatementPositions.new.Goals as goal

pub invariant_of-result : goal.invariant_of-result
invariant_of-result c =
    let text = c.args.text.now in
    record {
      within = omega arith;
      stands = refl;
      rising = subst (λ items. Rises (length text) 0 (starts false items)) (sym c.new.ensures) (starts_rise text (c.tokens_are_slices_in_order.ensures.in_order text));
    }
