use Rattle.std.proofs.Common.{◌≡◌, ◌<◌, ◌+◌, ◌++◌, ◌∷◌, [], ℕ, List, Option, length, map, take, sym, ap, subst, ◌∙◌, arith}
use Rattle.std.specs.Global.{Vec}
use Rattle.std.proofs.lemmas.List.{map-append, take_more}
use Rattle.board_plan.specs.declared.plan.PlannedDevice.{PlannedDevice}
use Rattle.board_plan.specs.Planned.{Member}
use Rattle.board_plan.specs.View.{member as planned_member}
use Rattle.fault_events.specs.Drives.{AreDriverTables}
use Rattle.fault_events.proofs.DriverTables.{tables_more}
use Rattle.fault_events.proofs.tables.driver_tables.Goals as goal

pub loop-device-preserved : goal.loop-device-preserved
loop-device-preserved c =
    let ds = c.args.devices.now in
    let k = c.loop-device.device-index in
    let d = c.device-item.result in
    let t = c.in_ok-table.table in
    let items : Vec (Option ℕ) → List (Option ℕ) = λ x. x.items in
    let old = c.loop-device.tables.items in
    let inside : k < length ds = omega (arith, c.loop-device-test.true) in
    let ms = map planned_member (take k ds) in
    let more : map planned_member (take (k + 1) ds) ≡ ms ++ planned_member d ∷ [] =
    ap (map planned_member) (take_more ds k d inside ∙ ap (λ (x : PlannedDevice). take k ds ++ x ∷ []) (sym c.device-item.is))
    ∙ map-append planned_member (take k ds) (d ∷ []) in
    let tables : map items c.push.new.self.items ≡ map items old ++ t.items ∷ [] = ap (map items) c.in_ok-push.ensures.items ∙ map-append items old (t ∷ []) in
    subst (λ (xs : List Member). AreDriverTables xs (map items c.push.new.self.items)) (sym more)
    (subst (λ (ts : List (List (Option ℕ))). AreDriverTables (ms ++ planned_member d ∷ []) ts) (sym tables)
    (tables_more ms (map items old) (planned_member d) t.items c.loop-device.invariant c.in_ok-table.ensures))
