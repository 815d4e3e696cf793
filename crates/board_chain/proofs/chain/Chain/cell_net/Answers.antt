use Rattle.std.proofs.Common.{◌≡◌, ◌∙◌, Some, option_map, slice_get, ap, subst}
use Rattle.std.specs.Prelude.{option_and_then}
use Rattle.std.proofs.lemmas.Option.{slice_get-map}
use Rattle.board_plan.specs.CellNets.{cell_net}
use Rattle.board_chain.specs.Chains.{ChainValue}
use Rattle.board_chips.specs.WiredChips.{chip_state}
use Rattle.board_chain.proofs.CellLaws.{of_chip}
use Rattle.board_chain.proofs.chain.Chain.cell_net.Goals as goal

pub returns : goal.returns
returns c =
    let s = c.self.inside.settled in
    let i = c.args.i in
    let cell = c.args.cell in
    subst (λ (v : ChainValue). option_map (λ d. option_and_then (cell_net v.nets i) (slice_get d.member.device.cells cell)) (slice_get v.chips i) ≡ Some c.cell_net.result) c.self.view_is
    (ap (option_map (λ d. option_and_then (cell_net s.nets i) (slice_get d.member.device.cells cell))) (slice_get-map chip_state s.chips i)
    ∙ of_chip s.nets i cell (slice_get s.chips i) ∙ c.cell_net.ensures)
