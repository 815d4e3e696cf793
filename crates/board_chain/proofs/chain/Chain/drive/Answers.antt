use Rattle.std.proofs.Common.{◌≡◌, ◌∙◌, List, Some, map, option_map, slice_get, ap, subst, sym}
use Rattle.std.proofs.lemmas.Option.{slice_get-map}
use Rattle.pin_nets.specs.declared.Drive.{Drive}
use Rattle.pin_nets.specs.Wired.{Net}
use Rattle.board_plan.specs.Planned.{all_pins}
use Rattle.board_model.specs.Cells.{Member}
use Rattle.board_model.specs.Chain.{members}
use Rattle.board_model.specs.Nets as nets
use Rattle.board_model.specs.Nets.{pin_drive}
use Rattle.board_chain.specs.Chains.{ChainValue}
use Rattle.board_chips.specs.WiredChips.{held_of}
use Rattle.board_chain.proofs.ChainLaws.{chips_in_force}
use Rattle.board_chain.proofs.chain.Chain.drive.Goals as goal

pub returns : goal.returns
returns c =
    let s = c.self.inside.settled in
    let pin = c.args.pin in
    let held = map held_of s.chips in
    subst (λ (v : ChainValue). option_map (pin_drive (nets.in_force v.nets (members v.chips))) (slice_get (all_pins v.nets) pin) ≡ Some c.drive.result) c.self.view_is
    (ap (λ (ms : List Member). option_map (pin_drive ms) (slice_get (all_pins s.nets) pin)) (chips_in_force s.nets s.chips c.wiring.ensures.in_force)
    ∙ ap (λ (ns : List Net). option_map (pin_drive held) (slice_get (all_pins ns) pin)) (sym c.wiring.ensures.nets)
    ∙ sym (slice_get-map (pin_drive held) _ pin)
    ∙ ap (λ (ds : List Drive). slice_get ds pin) (sym c.wiring.ensures.wired.drives)
    ∙ c.drive.ensures)
