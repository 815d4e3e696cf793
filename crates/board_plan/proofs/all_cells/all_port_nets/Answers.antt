use Rattle.std.proofs.Common.{◌≡◌, ◌<◌, ◌-◌, ℕ, [], suc, List, Option, drop, get_or, length, map, sym, ap, subst, ◌∙◌, arith}
use Rattle.std.specs.Global.{Vec}
use Rattle.std.proofs.lemmas.List.{drop_all, get_or-map, length-map, with_items_is}
use Rattle.pin_nets.specs.declared.Pin.{Pin}
use Rattle.pin_nets.specs.Wired.{Net}
use Rattle.board_plan.specs.AllCellNets.{EntersPins, HaveNets, lists_of}
use Rattle.board_plan.specs.View.{member as planned_member, net as planned_net}
use Rattle.board_plan.proofs.TableLaws.{empty_have, more_have}
use Rattle.board_plan.proofs.all_cells.all_port_nets.Goals as goal

pub loop-net-init : goal.loop-net-init
loop-net-init c =
    let members = map planned_member c.args.devices.now in
    let nets = map planned_net c.args.nets.now in
    let n = length c.args.nets.now in
    let tables = lists_of c.in_ok-tables.tables.items in
    let none : drop n nets ≡ [] = drop_all n nets (omega (arith, length-map c.args.nets.now planned_net)) in
    record {
      below = omega arith;
      have = subst (λ (rest : List Net). HaveNets n members rest tables) (sym none) (empty_have members n tables c.in_ok-tables.ensures);
    }

pub loop-net-preserved : goal.loop-net-preserved
loop-net-preserved c =
    let members = map planned_member c.args.devices.now in
    let nets = map planned_net c.args.nets.now in
    let n = c.loop-net.net - 1 in
    let old = c.loop-net.tables.items in
    let new = c.enter_pins.new.tables in
    let net = planned_net c.index-nets-net.result in
    let below : n < length c.args.nets.now = omega (arith, c.loop-net-test.true, c.loop-net.invariant.below) in
    let inside : n < length nets = omega (arith, below, length-map c.args.nets.now planned_net) in
    let is : net ≡ get_or nets n net = ap planned_net c.index-nets-net.is ∙ sym (get_or-map planned_net c.args.nets.now n c.index-nets-net.result net below) in
    let pins : c.deref.result.now ≡ net.pins = c.deref.ensures.value ∙ sym (ap (λ (x : Net). x.pins) (ap planned_net c.index-nets-net.is)) in
    let put : EntersPins n net.pins (lists_of old) (lists_of new) =
    subst (λ (ts : List (Vec (Option ℕ))). EntersPins n net.pins (lists_of ts) (lists_of new)) c.deref_mut.ensures.value
    (subst (λ (l : List Pin). EntersPins n l (lists_of c.deref_mut.result.now) (lists_of new)) pins c.enter_pins.ensures) in
    let items = with_items_is c.loop-net.tables new (c.enter_pins.auto.tables ∙ ap length c.deref_mut.ensures.value ∙ sym c.loop-net.tables.ok.0) in
    let next : c.loop-net.net ≡ suc n = omega (arith, c.loop-net-test.true) in
    record {
      below = omega (arith, c.loop-net.invariant.below);
      have = subst (λ (ts : List (Vec (Option ℕ))). HaveNets n members (drop n nets) (lists_of ts)) (sym items)
          (more_have members nets n net (lists_of old) (lists_of new) inside is put
          (subst (λ (m : ℕ). HaveNets m members (drop m nets) (lists_of old)) next c.loop-net.invariant.have));
    }

pub returns : goal.returns
returns c =
    let members = map planned_member c.args.devices.now in
    let nets = map planned_net c.args.nets.now in
    let none : c.loop-net.net ≡ 0 = omega (arith, c.loop-net-test.false) in
    subst (λ (n : ℕ). HaveNets n members (drop n nets) (lists_of c.loop-net.tables.items)) none c.loop-net.invariant.have
