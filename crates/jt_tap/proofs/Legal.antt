-- Each default path follows arrows of the state diagram.
use Rattle.std.proofs.Common.{◌≡◌, ◌<◌, ◌≤◌, true, false, refl, length, lit<, lit≤}
use Rattle.jt_tap.specs.declared.Column.{Column}
use Rattle.jt_tap.specs.declared.Column.TheVariants.{Dr, Ir}
use Rattle.jt_tap.specs.declared.State.{State}
use Rattle.jt_tap.specs.declared.State.TheVariants.{Reset, Idle, DrPause, IrPause}
use Rattle.jt_tap.specs.Controller.{is_stable, dr_capture_0, dr_capture_1, dr_exit1_0, dr_exit1_1, dr_exit2_1, dr_pause_1, dr_select_0, dr_select_1, dr_update_0, dr_update_1, idle_0, idle_1, ir_capture_0, ir_capture_1, ir_exit1_0, ir_exit1_1, ir_exit2_1, ir_pause_1, ir_select_0, ir_select_1, ir_update_0, ir_update_1, reset_0, reset_1}
use Rattle.jt_tap.specs.Paths.{go, to_shift, from_exit1, shift_state, exit1_state, Leads}

pub default_leads : (from to : State) → is_stable from ≡ true → is_stable to ≡ true → Leads from (go from to) to
default_leads Reset Reset sf st = (true, reset_1, refl)
default_leads Reset Idle sf st = (false, reset_0, refl)
default_leads Reset DrPause sf st = (false, reset_0, (true, idle_1, (false, dr_select_0, (true, dr_capture_1, (false, dr_exit1_0, refl)))))
default_leads Reset IrPause sf st = (false, reset_0, (true, idle_1, (true, dr_select_1, (false, ir_select_0, (true, ir_capture_1, (false, ir_exit1_0, refl))))))
default_leads Reset _ sf st = absurd (cc)
default_leads Idle Reset sf st = (true, idle_1, (true, dr_select_1, (true, ir_select_1, refl)))
default_leads Idle Idle sf st = (false, idle_0, refl)
default_leads Idle DrPause sf st = (true, idle_1, (false, dr_select_0, (true, dr_capture_1, (false, dr_exit1_0, refl))))
default_leads Idle IrPause sf st = (true, idle_1, (true, dr_select_1, (false, ir_select_0, (true, ir_capture_1, (false, ir_exit1_0, refl)))))
default_leads Idle _ sf st = absurd (cc)
default_leads DrPause Reset sf st = (true, dr_pause_1, (true, dr_exit2_1, (true, dr_update_1, (true, dr_select_1, (true, ir_select_1, refl)))))
default_leads DrPause Idle sf st = (true, dr_pause_1, (true, dr_exit2_1, (false, dr_update_0, refl)))
default_leads DrPause DrPause sf st = (true, dr_pause_1, (true, dr_exit2_1, (true, dr_update_1, (false, dr_select_0, (true, dr_capture_1, (false, dr_exit1_0, refl))))))
default_leads DrPause IrPause sf st = (true, dr_pause_1, (true, dr_exit2_1, (true, dr_update_1, (true, dr_select_1, (false, ir_select_0, (true, ir_capture_1, (false, ir_exit1_0, refl)))))))
default_leads DrPause _ sf st = absurd (cc)
default_leads IrPause Reset sf st = (true, ir_pause_1, (true, ir_exit2_1, (true, ir_update_1, (true, dr_select_1, (true, ir_select_1, refl)))))
default_leads IrPause Idle sf st = (true, ir_pause_1, (true, ir_exit2_1, (false, ir_update_0, refl)))
default_leads IrPause DrPause sf st = (true, ir_pause_1, (true, ir_exit2_1, (true, ir_update_1, (false, dr_select_0, (true, dr_capture_1, (false, dr_exit1_0, refl))))))
default_leads IrPause IrPause sf st = (true, ir_pause_1, (true, ir_exit2_1, (true, ir_update_1, (true, dr_select_1, (false, ir_select_0, (true, ir_capture_1, (false, ir_exit1_0, refl)))))))
default_leads IrPause _ sf st = absurd (cc)
default_leads _ to sf st = absurd (cc)

pub shift_leads : (from : State) (column : Column) → is_stable from ≡ true → Leads from (to_shift from column) (shift_state column)
shift_leads Reset Dr sf = (false, reset_0, (true, idle_1, (false, dr_select_0, (false, dr_capture_0, refl))))
shift_leads Reset Ir sf = (false, reset_0, (true, idle_1, (true, dr_select_1, (false, ir_select_0, (false, ir_capture_0, refl)))))
shift_leads Idle Dr sf = (true, idle_1, (false, dr_select_0, (false, dr_capture_0, refl)))
shift_leads Idle Ir sf = (true, idle_1, (true, dr_select_1, (false, ir_select_0, (false, ir_capture_0, refl))))
shift_leads DrPause Dr sf = (true, dr_pause_1, (true, dr_exit2_1, (true, dr_update_1, (false, dr_select_0, (false, dr_capture_0, refl)))))
shift_leads DrPause Ir sf = (true, dr_pause_1, (true, dr_exit2_1, (true, dr_update_1, (true, dr_select_1, (false, ir_select_0, (false, ir_capture_0, refl))))))
shift_leads IrPause Dr sf = (true, ir_pause_1, (true, ir_exit2_1, (true, ir_update_1, (false, dr_select_0, (false, dr_capture_0, refl)))))
shift_leads IrPause Ir sf = (true, ir_pause_1, (true, ir_exit2_1, (true, ir_update_1, (true, dr_select_1, (false, ir_select_0, (false, ir_capture_0, refl))))))
shift_leads _ column sf = absurd (cc)

pub exit1_leads : (column : Column) (to : State) → is_stable to ≡ true → Leads (exit1_state column) (from_exit1 column to) to
exit1_leads Dr Reset st = (true, dr_exit1_1, (true, dr_update_1, (true, dr_select_1, (true, ir_select_1, refl))))
exit1_leads Dr Idle st = (true, dr_exit1_1, (false, dr_update_0, refl))
exit1_leads Dr DrPause st = (false, dr_exit1_0, refl)
exit1_leads Dr IrPause st = (true, dr_exit1_1, (true, dr_update_1, (true, dr_select_1, (false, ir_select_0, (true, ir_capture_1, (false, ir_exit1_0, refl))))))
exit1_leads Dr _ st = absurd (cc)
exit1_leads Ir Reset st = (true, ir_exit1_1, (true, ir_update_1, (true, dr_select_1, (true, ir_select_1, refl))))
exit1_leads Ir Idle st = (true, ir_exit1_1, (false, ir_update_0, refl))
exit1_leads Ir DrPause st = (true, ir_exit1_1, (true, ir_update_1, (false, dr_select_0, (true, dr_capture_1, (false, dr_exit1_0, refl)))))
exit1_leads Ir IrPause st = (false, ir_exit1_0, refl)
exit1_leads Ir _ st = absurd (cc)

pub some_states : (from to : State) → is_stable from ≡ true → is_stable to ≡ true → 0 < length (go from to)
some_states Reset Reset sf st = lit< tt
some_states Reset Idle sf st = lit< tt
some_states Reset DrPause sf st = lit< tt
some_states Reset IrPause sf st = lit< tt
some_states Reset _ sf st = absurd (cc)
some_states Idle Reset sf st = lit< tt
some_states Idle Idle sf st = lit< tt
some_states Idle DrPause sf st = lit< tt
some_states Idle IrPause sf st = lit< tt
some_states Idle _ sf st = absurd (cc)
some_states DrPause Reset sf st = lit< tt
some_states DrPause Idle sf st = lit< tt
some_states DrPause DrPause sf st = lit< tt
some_states DrPause IrPause sf st = lit< tt
some_states DrPause _ sf st = absurd (cc)
some_states IrPause Reset sf st = lit< tt
some_states IrPause Idle sf st = lit< tt
some_states IrPause DrPause sf st = lit< tt
some_states IrPause IrPause sf st = lit< tt
some_states IrPause _ sf st = absurd (cc)
some_states _ to sf st = absurd (cc)

pub few_states : (from to : State) → is_stable from ≡ true → is_stable to ≡ true → length (go from to) ≤ 7
few_states Reset Reset sf st = lit≤ tt
few_states Reset Idle sf st = lit≤ tt
few_states Reset DrPause sf st = lit≤ tt
few_states Reset IrPause sf st = lit≤ tt
few_states Reset _ sf st = absurd (cc)
few_states Idle Reset sf st = lit≤ tt
few_states Idle Idle sf st = lit≤ tt
few_states Idle DrPause sf st = lit≤ tt
few_states Idle IrPause sf st = lit≤ tt
few_states Idle _ sf st = absurd (cc)
few_states DrPause Reset sf st = lit≤ tt
few_states DrPause Idle sf st = lit≤ tt
few_states DrPause DrPause sf st = lit≤ tt
few_states DrPause IrPause sf st = lit≤ tt
few_states DrPause _ sf st = absurd (cc)
few_states IrPause Reset sf st = lit≤ tt
few_states IrPause Idle sf st = lit≤ tt
few_states IrPause DrPause sf st = lit≤ tt
few_states IrPause IrPause sf st = lit≤ tt
few_states IrPause _ sf st = absurd (cc)
few_states _ to sf st = absurd (cc)
