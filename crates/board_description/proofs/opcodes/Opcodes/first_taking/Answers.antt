use Rattle.std.proofs.Common.{◌∙◌, ap, List, Option, ℕ}
use Rattle.bsdl_device.specs.Device.{Pattern}
use Rattle.board_description.specs.Blocks.{joined, x_taking}
use Rattle.board_description.specs.Opcodes.{first_of}
use Rattle.board_description.proofs.CoverLaws.{first_kept}
use Rattle.board_description.proofs.opcodes.Opcodes.first_taking.Goals as goal

pub returns : goal.returns
returns c names patterns h =
    let p = c.args.pattern.now in
    c.first_of.ensures
    ∙ ap (λ (o : Option ℕ). first_of o c.first_in.result) c.place-same.ensures
    ∙ ap (first_of _) (c.first_in.ensures ∙ ap (λ (blocks : List (List (ℕ × Pattern))). x_taking (joined blocks) p) c.deref.ensures.value)
    ∙ first_kept names patterns c.args.self.now p h
