-- The devices of a plan that powers up, behind the opening of a play.
use Rattle.std.proofs.Common.{◌≡◌, List, [], ◌∷◌, map, refl, sym, ap, subst, ◌∙◌}
use Rattle.std.specs.List.{AllByRecursion}
use Rattle.board_plan.specs.declared.plan.Plan.{Plan}
use Rattle.board_plan.specs.declared.plan.PlannedDevice.{PlannedDevice}
use Rattle.board_plan.specs.declared.plan.PlannedNet.{PlannedNet}
use Rattle.board_plan.specs.Planned as planned
use Rattle.board_plan.specs.Planned.{IsPinOf, all_pins}
use Rattle.board_plan.specs.View.{member as planned_member, net as planned_net, wiring}
use Rattle.board_model.specs.Chain.{BoardState}
use Rattle.board_model.specs.Planned.{members_of, powered_up}
use Rattle.board_model.specs.Whole.{reset_member}
use Rattle.play_model.specs.DirectPlay.{opened_state}
use Rattle.board_faults.specs.Made.{PowersUp, board_of}
use Rattle.board_faults.proofs.OnePlay.{opened-members}
use Rattle.fault_events.specs.declared.tables.PinNumbers.{PinNumbers}
use Rattle.fault_events.specs.Captures.{Fits}
use Rattle.fault_events.specs.Parts.{AllPlannedFormed, planned_parts}
use Rattle.fault_events.specs.Tables.{AreNumbered}
use Rattle.fault_events.proofs.PartsKept.{map_keeps}

powered-parts : (ps : List planned.Member) → planned_parts (map powered_up ps) ≡ ps
powered-parts [] = refl
powered-parts (p ∷ ps) = ap (λ (l : List planned.Member). p ∷ l) (powered-parts ps)

-- devices that have been planned are formed
pub ports_of : (plan : Plan) → PowersUp plan → (ds : List PlannedDevice) (ns : List PlannedNet) → ds ≡ plan.devices.items → ns ≡ plan.nets.items
    → AllByRecursion (IsPinOf (map planned_member ds)) (all_pins (map planned_net ns))
ports_of plan up ds ns same same' =
    subst (λ (x : List PlannedDevice). AllByRecursion (IsPinOf (map planned_member x)) (all_pins (map planned_net ns))) (sym same)
    (subst (λ (x : List PlannedNet). AllByRecursion (IsPinOf (map planned_member plan.devices.items)) (all_pins (map planned_net x))) (sym same') up.ready.chips.pins)

pub fits_opened : (plan : Plan) → PowersUp plan → (b : BoardState) → b ≡ board_of (wiring plan) → (ds : List PlannedDevice) → ds ≡ plan.devices.items
    → (n : PinNumbers) {es : List PlannedDevice} → es ≡ plan.devices.items → AreNumbered (map planned_member es) n
    → Fits (opened_state b).members ds n
fits_opened plan up b is ds same n {es} same' numbered =
    let w = wiring plan in
    let own : map planned_member ds ≡ w.members = ap (map planned_member) same in
    let its : map planned_member es ≡ w.members = ap (map planned_member) same' in
    record {
      same = ap (λ (x : BoardState). planned_parts (opened_state x).members) is
          ∙ ap planned_parts (opened-members w.nets (members_of w))
          ∙ map_keeps reset_member (λ x. refl) (members_of w)
          ∙ powered-parts w.members ∙ sym own;
      formed = subst AllPlannedFormed (sym own) up.ready.chips.formed;
      numbered = subst (λ (ps : List planned.Member). AreNumbered ps n) (its ∙ sym own) numbered;
    }
