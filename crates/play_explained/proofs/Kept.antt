-- What a plan says of the devices of its board, and what a play keeps of that: whether EXTEST captures their update
-- stages.
use Rattle.std.proofs.Common.{◌≡◌, List, [], ◌∷◌, map, refl, sym, ap, ◌∙◌}
use Rattle.jt_tap.specs.declared.State.TheVariants.{Reset}
use Rattle.board_plan.specs.declared.plan.Plan.{Plan}
use Rattle.board_plan.specs.declared.plan.PlannedDevice.{PlannedDevice}
use Rattle.board_plan.specs.View.{member as planned_member, wiring}
use Rattle.board_model.specs.Cells.{Member}
use Rattle.board_model.specs.Chain.{Heard, members}
use Rattle.board_model.specs.Planned.{members_of, powered_up}
use Rattle.board_model.specs.Resting.{chip_at_rest, power_up}
use Rattle.board_model.specs.Whole.{reset_member}
use Rattle.board_model.proofs.BoardLaws.{opening_settles}
use Rattle.board_reasons.specs.Planned.{CaptureAlike}
use Rattle.jt_board.specs.Made.{board_of}
use Rattle.play_model.specs.DirectPlay.{opened_state}
use Rattle.play_explained.specs.Kept.{Plate, plates}

updates_of : (ms : List Member) → map (λ (p : Plate). p.extest_update) (plates ms) ≡ map (λ (m : Member). m.extest_update) ms
updates_of [] = refl
updates_of (m ∷ ms) = ap (λ l. m.extest_update ∷ l) (updates_of ms)

pub alike_kept : (devices : List PlannedDevice) (ms ns : List Member) → plates ns ≡ plates ms → CaptureAlike devices ms → CaptureAlike devices ns
alike_kept devices ms ns same alike =
    alike ∙ sym (updates_of ms) ∙ ap (map (λ (p : Plate). p.extest_update)) (sym same) ∙ updates_of ns

-- the devices of a plan as a play's opening leaves them, once they are powered up
opened_alike : (devices : List PlannedDevice)
    → map (λ (p : PlannedDevice). p.extest_update) devices
    ≡ map (λ (m : Member). m.extest_update) (members (map (chip_at_rest Reset) (map reset_member (map powered_up (map planned_member devices)))))
opened_alike [] = refl
opened_alike (p ∷ devices) = ap (λ l. p.extest_update ∷ l) (opened_alike devices)

pub planned_alike : (plan : Plan) → CaptureAlike plan.devices.items (opened_state (board_of (wiring plan))).members
planned_alike plan =
    let w = wiring plan in
    opened_alike plan.devices.items
    ∙ sym (ap (λ (h : Heard). map (λ (m : Member). m.extest_update) (members h.board.chips)) (opening_settles (power_up w.nets (members_of w)) refl))
