use Rattle.std.proofs.Common.{ℕ, List, map, take, sym, ap, ◌∙◌}
use Rattle.pin_nets.specs.Levels.{NetValue, drive_at, led_by, level, net_counts}
use Rattle.pin_nets.proofs.Leading.{led_level}
use Rattle.pin_nets.proofs.ruled.level_by_rule.Goals as goal

pub returns-then-is_opposed-2 : goal.returns-then-is_opposed-2
returns-then-is_opposed-2 c =
    let ds = c.args.drives.now in
    let n : NetValue = record { pull = c.net.inside.pull; rule = c.net.inside.rule; pins = c.net.inside.pins.items } in
    c.led_by.ensures ∙ ap (λ (ps : List ℕ). led_by (map (drive_at ds) ps)) (c.first_of.ensures ∙ ap (take c.in-Led.pins) c.deref.ensures.value)
    ∙ led_level ds n c.in-Led.pins c.args.counts c.in-Led.is (c.requires ∙ sym (ap (net_counts ds) c.net.view_is)) (sym c.is_opposed-in-Led.ensures ∙ c.if-is_opposed-2.true)
    ∙ ap (level ds) c.net.view_is
