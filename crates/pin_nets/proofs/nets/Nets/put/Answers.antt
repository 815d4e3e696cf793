use Rattle.std.proofs.Common.{◌≡◌, ◌<◌, true, false, length, get_or, Option, option_map, set, slice_get, sym, ap, ◌∙◌, arith}
use Rattle.pin_nets.specs.declared.Level.{Level}
use Rattle.pin_nets.specs.Levels.{NetsValue, level, all_levels}
use Rattle.pin_nets.proofs.Counting.{OnNet, nobody, on_some, pin_at, shown_at, levels_off, levels_same, level_same}
use Rattle.pin_nets.proofs.nets.Nets.put.Goals as goal

no : false ≡ true → ⊥
no e = cc

pub returns-in-None-clause-changed : goal.returns-in-None-clause-changed
returns-in-None-clause-changed c =
    let ds = c.self.inside.drives.items in
    let nets = c.self.inside.nets.items in
    let pin = c.args.pin in
    let d = c.args.drive in
    let in_ : pin < length ds = omega (arith, c.requires, ap (λ (v : NetsValue). length v.drives) c.self.view_is) in
    let at = pin_at c.self.inside.net_of.items nets pin c.index.result.now _ c.self.invariant.placed (omega (arith, in_, c.self.invariant.long)) c.index.ensures c.in-None.is in
    let put : NetsValue → NetsValue = λ v. record v { drives = set v.drives pin d } in
    let same : all_levels c.args.self.now ≡ all_levels c.place.new.self =
    sym (ap all_levels c.self.view_is) ∙ levels_off ds pin d nets in_ at ∙ ap all_levels (ap put c.self.view_is ∙ sym c.place.ensures) in
    (λ t e. no t, λ differs. absurd (differs same))

pub returns-in-Some-clause-changed : goal.returns-in-Some-clause-changed
returns-in-Some-clause-changed c =
    let ds = c.self.inside.drives.items in
    let nets = c.self.inside.nets.items in
    let pin = c.args.pin in
    let d = c.args.drive in
    let in_ : pin < length ds = omega (arith, c.requires, ap (λ (v : NetsValue). length v.drives) c.self.view_is) in
    let at = pin_at c.self.inside.net_of.items nets pin c.index.result.now _ c.self.invariant.placed (omega (arith, in_, c.self.invariant.long)) c.index.ensures c.in-Some.is in
    let on : OnNet pin nets c.in-Some.net = on_some pin nets c.in-Some.net c.self.invariant.placed.once at in
    let m = c.in-Some.net in
    let x = get_or nets m nobody in
    let new = set ds pin d in
    let put : NetsValue → NetsValue = λ v. record v { drives = set v.drives pin d } in
    let told : NetsValue → Option Level = λ v. option_map (level v.drives) (slice_get v.nets m) in
    let view : all_levels _ ≡ all_levels c.args.self.now = ap all_levels c.self.view_is in
    let after : put _ ≡ c.place-in-Some.new.self = ap put c.self.view_is ∙ sym c.place-in-Some.ensures in
    let was : c.level-before.result ≡ level ds x = shown_at ds nets m c.level-before.result on.inside (ap told c.self.view_is ∙ c.level-before.ensures) in
    let is : c.level.result ≡ level new x = shown_at new nets m c.level.result on.inside (ap told after ∙ c.level.ensures) in (
      λ t e. c.differ.ensures.0 t (was ∙ level_same ds pin d nets m in_ on (view ∙ e ∙ sym (ap all_levels after)) ∙ sym is),
      λ differs. c.differ.ensures.1 (λ same. differs (sym view ∙ levels_same ds pin d nets m in_ on (sym was ∙ same ∙ is) ∙ ap all_levels after)),
    )
