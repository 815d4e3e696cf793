use Rattle.std.proofs.Common.{◌≡◌, ℕ, Bool, List, ap, subst}
use Rattle.std.specs.Prelude.{IfOk}
use Rattle.bsdl_entity.specs.PortsView as view
use Rattle.bsdl_entity.specs.Scalars.{tells, is_scalar}
use Rattle.bsdl_entity.proofs.ScalarLaws.{tells_all}
use Rattle.bsdl_entity.proofs.asking.Scalars.is_scalar.Goals as goal

pub returns-in-Some : goal.returns-in-Some
returns-in-Some c =
    let name = c.args.name.text.now in
    let same : tells c.in-Some.by_name name ≡ is_scalar (view.ports c.args.self.now.groups.now) name =
    ap (λ (f : List ℕ → Bool). f name) (tells_all c.in-Some.by_name (view.ports c.args.self.now.groups.now) (rw c.in-Some.is at c.args.self.now.kept)) in
    subst (λ (t : Bool). IfOk c.is_scalar.result (λ b. b ≡ t)) same c.is_scalar.ensures
