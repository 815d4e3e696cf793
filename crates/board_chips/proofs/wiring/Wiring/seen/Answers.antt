use Rattle.std.proofs.Common.{◌≡◌, ◌<◌, List, Some, length, map, option_map, slice_get, sym, ap, subst, ◌∙◌}
use Rattle.pin_nets.specs.declared.Drive.{Drive}
use Rattle.pin_nets.specs.declared.Pin.{Pin}
use Rattle.pin_nets.specs.Levels.{NetValue, level, pull_drive, reads, shown}
use Rattle.board_plan.specs.PinNumbers.{with_pin_numbers}
use Rattle.board_plan.specs.Planned.{all_pins}
use Rattle.board_chips.specs.WiringValues.{WiringValue}
use Rattle.board_chips.specs.contracts.wiring.Wiring.{the_view}
use Rattle.board_chips.proofs.LevelLaws.{net_there, seen_driven, seen_put}
use Rattle.board_chips.proofs.wiring.Wiring.seen.Goals as goal

pub seen-requires : goal.seen-requires
seen-requires c =
    let v = the_view c.self.inside in
    let there : c.args.net < length v.nets = subst (λ (w : WiringValue). c.args.net < length w.nets) (sym c.self.view_is) c.requires in
    subst (λ (l : List NetValue). c.args.net < length l) (sym c.self.invariant.levels) (net_there v.nets c.args.net there)

pub returns-clause-put : goal.returns-clause-put
returns-clause-put c =
    let v = the_view c.self.inside in
    let there : c.args.net < length v.nets = subst (λ (w : WiringValue). c.args.net < length w.nets) (sym c.self.view_is) c.requires in
    subst (λ (w : WiringValue). option_map (λ n. reads (level w.drives n)) (slice_get (with_pin_numbers 0 w.nets) c.args.net) ≡ Some c.seen.result) c.self.view_is
    (seen_put v.drives v.nets c.args.net c.seen.result there
    (sym (ap (λ (l : List NetValue). option_map (λ n. reads (level v.drives n)) (slice_get l c.args.net)) c.self.invariant.levels) ∙ c.seen.ensures))

pub returns-clause-driven : goal.returns-clause-driven
returns-clause-driven c =
    let v = the_view c.self.inside in
    let there : c.args.net < length v.nets = subst (λ (w : WiringValue). c.args.net < length w.nets) (sym c.self.view_is) c.requires in
    subst (λ (w : WiringValue). (f : Pin → Drive) → w.drives ≡ map f (all_pins w.nets)
    → option_map (λ n. reads (shown n.rule (pull_drive n.pull) (map f n.pins))) (slice_get w.nets c.args.net) ≡ Some c.seen.result)
    c.self.view_is
    (λ f e. seen_driven f v.drives v.nets c.args.net c.seen.result there e
    (sym (ap (λ (l : List NetValue). option_map (λ n. reads (level v.drives n)) (slice_get l c.args.net)) c.self.invariant.levels) ∙ c.seen.ensures))
