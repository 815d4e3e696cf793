use Rattle.std.proofs.Common.{◌≡◌, ℕ, zero, suc, List, [], ◌∷◌, map, slice_get, Option, Some, refl, sym, ap, subst, ◌∙◌, inl, inr}
use Rattle.std.specs.Global.{Vec}
use Rattle.std.specs.List.{AllByRecursion}
use Rattle.pin_nets.specs.declared.Pin.{Pin}
use Rattle.board_plan.specs.Planned.{IsPinOf, Member, all_pins}
use Rattle.board_plan.specs.View.{member as planned_member, net as planned_net}
use Rattle.board_model.specs.Following.{IsAmong}
use Rattle.board_faults.proofs.Choosing.{Once, once}
use Rattle.fault_events.specs.Drives.{AreDriverTables, wire_of}
use Rattle.fault_events.specs.Tables.{AreApart, ArePorts, tables_of}
use Rattle.fault_events.proofs.DriverTables.{wires_there}
use Rattle.fault_events.proofs.tables.number_pins.Goals as goal

got-among : (ps : List Pin) (j : ℕ) (p : Pin) → slice_get ps j ≡ Some p → IsAmong p ps
got-among [] j p e = absurd (cc)
got-among (x ∷ ps) zero p e = let same : x ≡ p = cc in inl same
got-among (x ∷ ps) (suc j) p e = inr (got-among ps j p e)

apart-at : (ps : List Pin) → Once ps → AreApart ps
apart-at [] is i j p e f = absurd (cc)
apart-at (x ∷ ps) is zero zero p e f = refl
apart-at (x ∷ ps) is zero (suc j) p e f = let same : x ≡ p = cc in absurd (is.0 p (got-among ps j p f) same)
apart-at (x ∷ ps) is (suc i) zero p e f = let same : x ≡ p = cc in absurd (is.0 p (got-among ps i p e) same)
apart-at (x ∷ ps) is (suc i) (suc j) p e f = ap (λ (n : ℕ). suc n) (apart-at ps is.1 i j p e f)

ports-at : (ms : List Member) (ps : List Pin) → AllByRecursion (IsPinOf ms) ps → ArePorts ms ps
ports-at ms [] all n p e = absurd (cc)
ports-at ms (x ∷ ps) all zero p e = let same : x ≡ p = cc in subst (IsPinOf ms) same all.0
ports-at ms (x ∷ ps) all (suc n) p e = ports-at ms ps all.1 n p e

pub returns-clause-numbered : goal.returns-clause-numbered
returns-clause-numbered c =
    let ms = map planned_member c.args.devices.now in
    let pins : c.deref-3.result.now ≡ all_pins (map planned_net c.args.nets.now) = c.deref-3.ensures.value ∙ c.in_ok-pins.ensures in
    let drivers : AreDriverTables ms (map (λ t. t.items) c.deref-2.result.now) =
    subst (λ (v : List (Vec (Option ℕ))). AreDriverTables ms (map (λ t. t.items) v)) (sym c.deref-2.ensures.value) c.in_ok-drivers.ensures in
    record {
      apart = subst AreApart (sym c.in_ok-pins.ensures) (apart-at _ (once _ c.requires.apart));
      ports = subst (ArePorts ms) (sym c.in_ok-pins.ensures) (ports-at ms _ c.requires.ports);
      tables = c.in_ok-tables.ensures ∙ ap (λ (ps : List Pin). tables_of ps ms) c.deref.ensures.value;
      wires = c.in_ok-wires.ensures
          ∙ wires_there ms (map (λ t. t.items) c.deref-2.result.now) drivers c.deref-3.result.now
          (subst (AllByRecursion (IsPinOf ms)) (sym pins) c.requires.ports)
          ∙ ap (map (wire_of ms)) c.deref-3.ensures.value;
    }
