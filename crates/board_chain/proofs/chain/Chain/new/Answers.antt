use Rattle.std.proofs.Common.{◌≡◌, ◌∙◌, false, List, map, sym, ap, subst}
use Rattle.bsdl_device.specs.declared.Cell.{Cell}
use Rattle.pin_nets.specs.Wired.{Net}
use Rattle.board_plan.specs.Planned.{all_pins}
use Rattle.board_plan.specs.Planned as planned
use Rattle.board_plan.specs.View.{member as planned_member, net as planned_net, wiring}
use Rattle.board_plan.specs.declared.plan.PlannedDevice.{PlannedDevice}
use Rattle.board_plan.specs.declared.plan.PlannedNet.{PlannedNet}
use Rattle.board_model.specs.Cells.{Member}
use Rattle.board_model.specs.Chain.{ChipState}
use Rattle.board_model.specs.Following.{AreHeld, IsOrderOf}
use Rattle.board_model.specs.Nets.{pin_drive}
use Rattle.board_model.specs.Planned.{powered_up}
use Rattle.board_chips.specs.Building.{wired_chips_of, IsReady as HasReadyChips}
use Rattle.board_chips.specs.Driving.{cells_of}
use Rattle.board_chips.specs.WiredChips.{AllTold, WiredChipValue, chip_state, held_of, member_of}
use Rattle.board_chips.specs.Strings.{AreStrung, placed_of}
use Rattle.board_chips.specs.WiringValues.{WiringValue}
use Rattle.board_chips.specs.Wires.{IsWired}
use Rattle.board_chips.proofs.BuildLaws.{chips_told, start_within, start_wired}
use Rattle.board_chain.proofs.PowerLaws.{chips_have, chips_hold, chips_mean, chips_stand}
use Rattle.board_chain.proofs.chain.Chain.new.Goals as goal

pub all_chips-requires : goal.all_chips-requires
all_chips-requires c =
    let w = wiring c.args.plan.now in
    subst (λ (l : List PlannedNet). HasReadyChips (record { members = map planned_member c.deref.result.now; nets = map planned_net l })) (sym c.deref-2.ensures.value)
    (subst (λ (l : List PlannedDevice). HasReadyChips (record { members = map planned_member l; nets = w.nets })) (sym c.deref.ensures.value) c.requires.ready.chips)

pub refresh-requires : goal.refresh-requires
refresh-requires c =
    let w = wiring c.args.plan.now in
    let chips-are : c.in_ok-chips.chips.items ≡ wired_chips_of w.nets 0 w.members =
    c.in_ok-chips.ensures ∙ ap (λ (l : List PlannedNet). wired_chips_of (map planned_net l) 0 (map planned_member c.deref.result.now)) c.deref-2.ensures.value
    ∙ ap (λ (l : List PlannedDevice). wired_chips_of w.nets 0 (map planned_member l)) c.deref.ensures.value in
    start_within w.nets w.members c.deref-4.result.now c.in_ok-wiring.wiring c.requires.ready.chips.pins (c.deref-4.ensures.value ∙ chips-are) (ap (λ (v : WiringValue). v.nets) c.in_ok-wiring.ensures ∙ ap (map planned_net) c.deref-3.ensures.value)

pub first-requires-clause-wired : goal.first-requires-clause-wired
first-requires-clause-wired c =
    let w = wiring c.args.plan.now in
    let chips-are : c.in_ok-chips.chips.items ≡ wired_chips_of w.nets 0 w.members =
    c.in_ok-chips.ensures ∙ ap (λ (l : List PlannedNet). wired_chips_of (map planned_net l) 0 (map planned_member c.deref.result.now)) c.deref-2.ensures.value
    ∙ ap (λ (l : List PlannedDevice). wired_chips_of w.nets 0 (map planned_member l)) c.deref.ensures.value in
    subst (λ (l : List WiredChipValue). IsWired l c.refresh.new.wiring) (sym chips-are)
    (start_wired w.nets w.members c.in_ok-wiring.wiring c.refresh.new.wiring c.requires.ready.chips.pins (ap (λ (v : WiringValue). v.nets) c.in_ok-wiring.ensures ∙ ap (map planned_net) c.deref-3.ensures.value)
    (c.refresh.ensures ∙ ap (λ (l : List WiredChipValue). record c.in_ok-wiring.wiring { drives = map (pin_drive (map held_of l)) (all_pins c.in_ok-wiring.wiring.nets) }) (c.deref-4.ensures.value ∙ chips-are)))

pub first-requires-clause-held : goal.first-requires-clause-held
first-requires-clause-held c =
    let w = wiring c.args.plan.now in
    let chips-are : c.in_ok-chips.chips.items ≡ wired_chips_of w.nets 0 w.members =
    c.in_ok-chips.ensures ∙ ap (λ (l : List PlannedNet). wired_chips_of (map planned_net l) 0 (map planned_member c.deref.result.now)) c.deref-2.ensures.value
    ∙ ap (λ (l : List PlannedDevice). wired_chips_of w.nets 0 (map planned_member l)) c.deref.ensures.value in
    subst (λ (l : List WiredChipValue). AreHeld (map member_of l) (map held_of l)) (sym chips-are) (chips_hold w.nets 0 w.members)

pub first-requires-clause-strung : goal.first-requires-clause-strung
first-requires-clause-strung c =
    let w = wiring c.args.plan.now in
    let strings = c.in_ok-strings.strings.items in
    let chips-are : c.in_ok-chips.chips.items ≡ wired_chips_of w.nets 0 w.members =
    c.in_ok-chips.ensures ∙ ap (λ (l : List PlannedNet). wired_chips_of (map planned_net l) 0 (map planned_member c.deref.result.now)) c.deref-2.ensures.value
    ∙ ap (λ (l : List PlannedDevice). wired_chips_of w.nets 0 (map planned_member l)) c.deref.ensures.value in
    let nets-are : c.refresh.new.wiring.nets ≡ w.nets = ap (λ (v : WiringValue). v.nets) c.refresh.ensures ∙ ap (λ (v : WiringValue). v.nets) c.in_ok-wiring.ensures ∙ ap (map planned_net) c.deref-3.ensures.value in
    let cells-are : map (λ (m : planned.Member). m.device.cells) w.members ≡ map cells_of c.in_ok-chips.chips.items = sym (ap (map cells_of) chips-are ∙ chips_have w.nets 0 w.members) in
    subst (λ (ns : List Net). AreStrung ns (map cells_of c.in_ok-chips.chips.items) strings) (sym nets-are)
    (subst (λ (cs : List (List Cell)). AreStrung w.nets cs strings) cells-are c.in_ok-strings.ensures.strung)

pub first-requires-clause-order : goal.first-requires-clause-order
first-requires-clause-order c =
    let w = wiring c.args.plan.now in
    let placed = map placed_of c.in_ok-strings.strings.items in
    let chips-are : c.in_ok-chips.chips.items ≡ wired_chips_of w.nets 0 w.members =
    c.in_ok-chips.ensures ∙ ap (λ (l : List PlannedNet). wired_chips_of (map planned_net l) 0 (map planned_member c.deref.result.now)) c.deref-2.ensures.value
    ∙ ap (λ (l : List PlannedDevice). wired_chips_of w.nets 0 (map planned_member l)) c.deref.ensures.value in
    let nets-are : c.refresh.new.wiring.nets ≡ w.nets = ap (λ (v : WiringValue). v.nets) c.refresh.ensures ∙ ap (λ (v : WiringValue). v.nets) c.in_ok-wiring.ensures ∙ ap (map planned_net) c.deref-3.ensures.value in
    let members-are : map powered_up w.members ≡ map member_of c.in_ok-chips.chips.items = sym (ap (map member_of) chips-are ∙ chips_mean w.nets 0 w.members) in
    subst (λ (ns : List Net). IsOrderOf ns (map member_of c.in_ok-chips.chips.items) placed) (sym nets-are)
    (subst (λ (ms : List Member). IsOrderOf w.nets ms placed) members-are c.in_ok-strings.ensures.order)

pub of-requires : goal.of-requires
of-requires c =
    let w = wiring c.args.plan.now in
    let chips-are : c.in_ok-chips.chips.items ≡ wired_chips_of w.nets 0 w.members =
    c.in_ok-chips.ensures ∙ ap (λ (l : List PlannedNet). wired_chips_of (map planned_net l) 0 (map planned_member c.deref.result.now)) c.deref-2.ensures.value
    ∙ ap (λ (l : List PlannedDevice). wired_chips_of w.nets 0 (map planned_member l)) c.deref.ensures.value in
    c.in_ok-settled.ensures.told false (subst (AllTold false) (sym chips-are) (chips_told w.nets 0 w.members))

pub returns : goal.returns
returns c =
    let w = wiring c.args.plan.now in
    let chips-are : c.in_ok-chips.chips.items ≡ wired_chips_of w.nets 0 w.members =
    c.in_ok-chips.ensures ∙ ap (λ (l : List PlannedNet). wired_chips_of (map planned_net l) 0 (map planned_member c.deref.result.now)) c.deref-2.ensures.value
    ∙ ap (λ (l : List PlannedDevice). wired_chips_of w.nets 0 (map planned_member l)) c.deref.ensures.value in
    let nets-are = ap (λ (v : WiringValue). v.nets) c.refresh.ensures ∙ ap (λ (v : WiringValue). v.nets) c.in_ok-wiring.ensures ∙ ap (map planned_net) c.deref-3.ensures.value in
    let is = c.in_ok-settled.ensures in
    c.of.ensures
    ∙ (λ i. record { trst = false; nets = is.nets i; chips = is.chips i })
    ∙ ap (λ (ns : List Net). record { trst = false; nets = ns; chips = map chip_state c.in_ok-chips.chips.items }) nets-are
    ∙ ap (λ (cs : List ChipState). record { trst = false; nets = w.nets; chips = cs }) (ap (map chip_state) chips-are ∙ chips_stand w.nets 0 w.members)
