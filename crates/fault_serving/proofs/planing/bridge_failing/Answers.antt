use Rattle.std.proofs.Common.{Option, Some, None, arith}
use Rattle.std.specs.Prelude.{IfSome}
use Rattle.fault_serving.specs.Planes.{IsToldAt}
use Rattle.fault_serving.proofs.planing.bridge_failing.Goals as goal

if-then : {A : Type 0} (o : Option A) (P Q : A → Type 0) → ((x : A) → P x → Q x) → IfSome o P → IfSome o Q
if-then None P Q so is = is
if-then (Some x) P Q so is = so x is

pub returns-then-second-words : goal.returns-then-second-words
returns-then-second-words c =
    if-then c.failing_with.result _ (IsToldAt c.args.before c.args.pulls c.args.words.now c.args.first c.args.second)
    (λ f told. record { one = omega (arith, c.if-first-words.true); other = omega (arith, c.if-second-words.true); told = told })
    c.failing_with.ensures
