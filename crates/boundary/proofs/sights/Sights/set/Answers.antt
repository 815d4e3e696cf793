use Rattle.std.proofs.Common.{◌∙◌, Bool, List, ap, set}
use Rattle.boundary.proofs.ToldLaws.{one_told}
use Rattle.boundary.proofs.sights.Sights.set.Goals as goal

pub returns : goal.returns
returns c =
    one_told c.self.inside.bytes.items c.self.inside.len c.args.cell c.from.result c.args.bit c.from.ensures
    ∙ ap (λ (l : List Bool). set l c.args.cell c.args.bit) c.self.view_is
