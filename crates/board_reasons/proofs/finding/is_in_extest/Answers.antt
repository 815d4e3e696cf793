use Rattle.std.proofs.Common.{Option, Some, true, ap, ◌∙◌}
use Rattle.bsdl_device.specs.Device.{Device, Name}
use Rattle.chip_instructions.specs.Instruction.{meaning_of}
use Rattle.boundary.specs.Cells.{takes_update}
use Rattle.board_reasons.proofs.finding.is_in_extest.Goals as goal

pub returns-in-Some : goal.returns-in-Some
returns-in-Some c =
    let name = c.in-Some.name.now in
    c.is_extest.ensures
    ∙ ap (λ (d : Device). takes_update true (meaning_of d (Some name)).mode) c.device.ensures
    ∙ ap (λ (o : Option Name). takes_update true (meaning_of c.args.chip.now.chip.device o).mode) c.in-Some.ensures

pub returns-in-None : goal.returns-in-None
returns-in-None c = ap (λ (o : Option Name). takes_update true (meaning_of c.args.chip.now.chip.device o).mode) c.in-None.ensures
