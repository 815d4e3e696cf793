use Rattle.std.proofs.Common.{◌≡◌, ◌∙◌, List, Some, map, option_map, slice_get, ap, subst, sym}
use Rattle.pin_nets.specs.Wired.{Net}
use Rattle.board_model.specs.Cells.{Member}
use Rattle.board_model.specs.Chain.{members}
use Rattle.board_model.specs.Nets as nets
use Rattle.board_model.specs.Nets.{pin_drive}
use Rattle.board_chain.specs.Chains.{ChainValue}
use Rattle.board_chips.specs.WiredChips.{held_of}
use Rattle.board_chain.proofs.ChainLaws.{chips_in_force}
use Rattle.board_chain.proofs.chain.Chain.is_opposed.Goals as goal

pub returns : goal.returns
returns c =
    let s = c.self.inside.settled in
    let net = c.args.net in
    subst (λ (v : ChainValue). option_map (nets.is_opposed v.nets (members v.chips)) (slice_get v.nets net) ≡ Some c.is_opposed.result) c.self.view_is
    (ap (λ (held : List Member). option_map (nets.is_opposed_under held) (slice_get s.nets net)) (chips_in_force s.nets s.chips c.wiring.ensures.in_force)
    ∙ ap (λ (ns : List Net). option_map (nets.is_opposed_under (map held_of s.chips)) (slice_get ns net)) (sym c.wiring.ensures.nets)
    ∙ c.is_opposed.ensures (pin_drive (map held_of s.chips)) c.wiring.ensures.wired.drives)
