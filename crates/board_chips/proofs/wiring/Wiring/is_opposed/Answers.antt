use Rattle.std.proofs.Common.{◌≡◌, ◌<◌, List, Some, length, map, option_map, slice_get, sym, ap, subst, ◌∙◌}
use Rattle.pin_nets.specs.declared.Drive.{Drive}
use Rattle.pin_nets.specs.declared.Pin.{Pin}
use Rattle.pin_nets.specs.Levels.{NetValue, is_opposed, net_counts, opposed_by, pull_drive}
use Rattle.board_plan.specs.Planned.{all_pins}
use Rattle.board_chips.specs.WiringValues.{WiringValue}
use Rattle.board_chips.specs.contracts.wiring.Wiring.{the_view}
use Rattle.board_chips.proofs.LevelLaws.{net_there, opposed_driven}
use Rattle.board_chips.proofs.wiring.Wiring.is_opposed.Goals as goal

pub is_opposed-requires : goal.is_opposed-requires
is_opposed-requires c =
    let v = the_view c.self.inside in
    let there : c.args.net < length v.nets = subst (λ (w : WiringValue). c.args.net < length w.nets) (sym c.self.view_is) c.requires in
    subst (λ (l : List NetValue). c.args.net < length l) (sym c.self.invariant.levels) (net_there v.nets c.args.net there)

pub returns : goal.returns
returns c =
    let v = the_view c.self.inside in
    let there : c.args.net < length v.nets = subst (λ (w : WiringValue). c.args.net < length w.nets) (sym c.self.view_is) c.requires in
    subst (λ (w : WiringValue). (f : Pin → Drive) → w.drives ≡ map f (all_pins w.nets)
    → option_map (λ n. opposed_by (pull_drive n.pull) (map f n.pins)) (slice_get w.nets c.args.net) ≡ Some c.is_opposed.result)
    c.self.view_is
    (λ f e. opposed_driven f v.drives v.nets c.args.net c.is_opposed.result there e
    (sym (ap (λ (l : List NetValue). option_map (λ n. is_opposed (net_counts v.drives n)) (slice_get l c.args.net)) c.self.invariant.levels) ∙ c.is_opposed.ensures))
