use Rattle.std.proofs.Common.{List, IfOk, Ok, Result, subst, sym}
use Rattle.bsdl_entity.specs.declared.items.Given as declared_given
use Rattle.bsdl_description.specs.Describing.{Description, Refusal}
use Rattle.bsdl_description.specs.FirstView.{AreFirst}
use Rattle.bsdl_description.specs.View.{Describes}
use Rattle.bsdl_description.proofs.FirstLaws.{described_is}
use Rattle.bsdl_description.proofs.description.describe.Goals as goal

pub returns-in-Ok : goal.returns-in-Ok
returns-in-Ok c =
    let o = c.args.outline.now in
    let are = subst (λ (gs : List declared_given.Given). AreFirst (Ok c.in-Ok.firsts) gs) c.deref.ensures.value (subst (λ r. AreFirst r c.deref.result.now) c.in-Ok.is c.in_ok-firsts.ensures) in
    subst (λ (says : Result Description Refusal). IfOk c.describe_firsts.result (λ found. Describes o found says)) (sym (described_is o c.in-Ok.firsts.items are.0 are.1)) c.describe_firsts.ensures
