use Rattle.std.proofs.Common.{Bool, true, false, refl, sym, subst}
use Rattle.fault_serving.specs.Planes.{ChangesTell}
use Rattle.fault_serving.proofs.planing.fails_with.Goals as goal

pub returns-then-before : goal.returns-then-before
returns-then-before c = subst (λ (b : Bool). ChangesTell b c.args.changes true) (sym c.if-before.true) refl

pub returns-then-fails : goal.returns-then-fails
returns-then-fails c = subst (λ (b : Bool). ChangesTell b c.args.changes true) (sym c.if-before.false) (c.fails.ensures c.if-fails.true)

pub returns-then-is_untold : goal.returns-then-is_untold
returns-then-is_untold c = subst (λ (b : Bool). ChangesTell b c.args.changes false) (sym c.if-before.false) (c.is_untold.ensures c.if-is_untold.true)
