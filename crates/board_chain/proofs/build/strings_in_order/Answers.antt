use Rattle.std.proofs.Common.{◌<◌, ◌∙◌, ℕ, All, List, length, map, slice_get, sym, ap, subst}
use Rattle.std.proofs.lemmas.Result.{IfOk-weaker}
use Rattle.board_plan.specs.Planned as planned
use Rattle.board_plan.specs.View.{member as planned_member, net as planned_net, wiring}
use Rattle.board_plan.specs.declared.plan.PlannedDevice.{PlannedDevice}
use Rattle.board_plan.specs.declared.plan.PlannedNet.{PlannedNet}
use Rattle.board_chips.specs.Planning.{IsReadyForStrings, strings_of}
use Rattle.board_chips.specs.Strings.{AreStrung, placed_of}
use Rattle.board_chain.proofs.OrderLaws.{as_options, order_of_work, places_inside, ready_for_strings}
use Rattle.board_chain.proofs.build.strings_in_order.Goals as goal

pub wired_strings-requires-clause-ready : goal.wired_strings-requires-clause-ready
wired_strings-requires-clause-ready c =
    let w = wiring c.args.plan.now in
    subst (λ (l : List PlannedNet). IsReadyForStrings (record { members = map planned_member c.deref.result.now; nets = map planned_net l })) (sym c.deref-2.ensures.value)
    (subst (λ (l : List PlannedDevice). IsReadyForStrings (record { members = map planned_member l; nets = w.nets })) (sym c.deref.ensures.value) (ready_for_strings w c.requires.ready))

pub wired_strings-requires-clause-order : goal.wired_strings-requires-clause-order
wired_strings-requires-clause-order c =
    let order = c.args.plan.now.order.items in
    subst (λ (ks : List ℕ). All (λ (k : ℕ). k < length (strings_of (map planned_member c.deref.result.now))) ks) (sym c.deref-3.ensures.value)
    (subst (λ (l : List PlannedDevice). All (λ (k : ℕ). k < length (strings_of (map planned_member l))) order) (sym c.deref.ensures.value)
    (places_inside (wiring c.args.plan.now) c.requires.ready order c.requires.ordered))

pub returns-clause-strung : goal.returns-clause-strung
returns-clause-strung c =
    let w = wiring c.args.plan.now in
    IfOk-weaker c.wired_strings.result _ _
    (λ v strung.
    subst (λ (l : List PlannedDevice). AreStrung w.nets (map (λ (m : planned.Member). m.device.cells) (map planned_member l)) v.items) c.deref.ensures.value
    (subst (λ (l : List PlannedNet). AreStrung (map planned_net l) (map (λ (m : planned.Member). m.device.cells) (map planned_member c.deref.result.now)) v.items) c.deref-2.ensures.value strung))
    c.wired_strings.ensures.strung

pub returns-clause-order : goal.returns-clause-order
returns-clause-order c =
    let w = wiring c.args.plan.now in
    IfOk-weaker c.wired_strings.result _ _
    (λ v placed.
    order_of_work w c.requires.ready c.args.plan.now.order.items c.requires.ordered (map placed_of v.items)
    (as_options placed_of v.items ∙ placed
    ∙ ap (λ (l : List PlannedDevice). map (slice_get (strings_of (map planned_member l))) c.deref-3.result.now) c.deref.ensures.value
    ∙ ap (map (slice_get (strings_of w.members))) c.deref-3.ensures.value))
    c.wired_strings.ensures.placed
