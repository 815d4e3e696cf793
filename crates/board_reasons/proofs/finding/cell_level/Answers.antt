use Rattle.std.proofs.Common.{◌≡◌, slice_get, option_map, sym, ap, ◌∙◌}
use Rattle.std.specs.Prelude.{option_and_then}
use Rattle.std.proofs.lemmas.Option.{same_Some}
use Rattle.board_plan.specs.CellNets.{cell_net}
use Rattle.board_model.specs.Chain.{ChipState, members}
use Rattle.board_reasons.specs.Holders.{net_level}
use Rattle.board_reasons.proofs.finding.cell_level.Goals as goal

pub returns : goal.returns
returns c =
    let chain = c.args.chain.now in
    let device = c.args.device in
    let net : option_and_then (cell_net chain.nets device) (slice_get c.args.chip.now.chip.device.cells c.args.cell) ≡ c.cell_net.result =
    same_Some _ _
    (sym (ap (option_map (λ (s : ChipState). option_and_then (cell_net chain.nets device) (slice_get s.member.device.cells c.args.cell))) c.requires.chip)
    ∙ c.cell_net.ensures) in
    c.net_level.ensures ∙ ap (option_and_then (net_level chain.nets (members chain.chips))) (sym net)
