use Rattle.std.proofs.Common.{◌≡◌, ◌<◌, List, Some, length, map, option_map, slice_get, sym, ap, subst, ◌∙◌}
use Rattle.pin_nets.specs.declared.Drive.{Drive}
use Rattle.pin_nets.specs.declared.Pin.{Pin}
use Rattle.pin_nets.specs.Levels.{NetValue, level, pull_drive, shown}
use Rattle.board_plan.specs.PinNumbers.{with_pin_numbers}
use Rattle.board_plan.specs.Planned.{all_pins}
use Rattle.board_chips.specs.WiringValues.{WiringValue}
use Rattle.board_chips.specs.contracts.wiring.Wiring.{the_view}
use Rattle.board_chips.proofs.LevelLaws.{net_level, net_put, net_there}
use Rattle.board_chips.proofs.wiring.Wiring.level.Goals as goal

pub level-requires : goal.level-requires
level-requires c =
    let v = the_view c.self.inside in
    let there : c.args.net < length v.nets = subst (λ (w : WiringValue). c.args.net < length w.nets) (sym c.self.view_is) c.requires in
    subst (λ (l : List NetValue). c.args.net < length l) (sym c.self.invariant.levels) (net_there v.nets c.args.net there)

pub returns-clause-put : goal.returns-clause-put
returns-clause-put c =
    let v = the_view c.self.inside in
    let there : c.args.net < length v.nets = subst (λ (w : WiringValue). c.args.net < length w.nets) (sym c.self.view_is) c.requires in
    subst (λ (w : WiringValue). option_map (level w.drives) (slice_get (with_pin_numbers 0 w.nets) c.args.net) ≡ Some c.level.result) c.self.view_is
    (net_put v.drives v.nets c.args.net c.level.result there
    (sym (ap (λ (l : List NetValue). option_map (level v.drives) (slice_get l c.args.net)) c.self.invariant.levels) ∙ c.level.ensures))

pub returns-clause-driven : goal.returns-clause-driven
returns-clause-driven c =
    let v = the_view c.self.inside in
    let there : c.args.net < length v.nets = subst (λ (w : WiringValue). c.args.net < length w.nets) (sym c.self.view_is) c.requires in
    subst (λ (w : WiringValue). (f : Pin → Drive) → w.drives ≡ map f (all_pins w.nets)
    → option_map (λ n. shown n.rule (pull_drive n.pull) (map f n.pins)) (slice_get w.nets c.args.net) ≡ Some c.level.result)
    c.self.view_is
    (λ f e. net_level f v.drives v.nets c.args.net c.level.result there e
    (sym (ap (λ (l : List NetValue). option_map (level v.drives) (slice_get l c.args.net)) c.self.invariant.levels) ∙ c.level.ensures))
