-- The arrows of the controller are its function; five ones reset.
use Rattle.std.proofs.Common.{◌≡◌, ◌≢◌, ◌<◌, ℕ, zero, suc, Bool, true, false, refl, sym, subst, arith, replicate}
use Rattle.jt_tap.specs.declared.State.{State}
use Rattle.jt_tap.specs.declared.State.TheVariants.{Reset, Idle, DrSelect, DrCapture, DrShift, DrExit1, DrPause, DrExit2, DrUpdate, IrSelect, IrCapture, IrShift, IrExit1, IrPause, IrExit2, IrUpdate}
use Rattle.jt_tap.specs.Controller.{Arrow, reset_0, reset_1, idle_0, idle_1, dr_select_0, dr_select_1, dr_capture_0, dr_capture_1, dr_shift_0, dr_shift_1, dr_exit1_0, dr_exit1_1, dr_pause_0, dr_pause_1, dr_exit2_0, dr_exit2_1, dr_update_0, dr_update_1, ir_select_0, ir_select_1, ir_capture_0, ir_capture_1, ir_shift_0, ir_shift_1, ir_exit1_0, ir_exit1_1, ir_pause_0, ir_pause_1, ir_exit2_0, ir_exit2_1, ir_update_0, ir_update_1, next, after_cycles, entered_by, FiveOnesReset, ArrowsAreTheFunction, EnteredByOne}

pub ruleset arrows = (reset_0, reset_1, idle_0, idle_1, dr_select_0, dr_select_1, dr_capture_0, dr_capture_1, dr_shift_0, dr_shift_1, dr_exit1_0, dr_exit1_1, dr_pause_0, dr_pause_1, dr_exit2_0, dr_exit2_1, dr_update_0, dr_update_1, ir_select_0, ir_select_1, ir_capture_0, ir_capture_1, ir_shift_0, ir_shift_1, ir_exit1_0, ir_exit1_1, ir_pause_0, ir_pause_1, ir_exit2_0, ir_exit2_1, ir_update_0, ir_update_1)

pub arrow_of : (s : State) (tms : Bool) → Arrow s tms (next s tms)
arrow_of Reset false = reset_0
arrow_of Reset true = reset_1
arrow_of Idle false = idle_0
arrow_of Idle true = idle_1
arrow_of DrSelect false = dr_select_0
arrow_of DrSelect true = dr_select_1
arrow_of DrCapture false = dr_capture_0
arrow_of DrCapture true = dr_capture_1
arrow_of DrShift false = dr_shift_0
arrow_of DrShift true = dr_shift_1
arrow_of DrExit1 false = dr_exit1_0
arrow_of DrExit1 true = dr_exit1_1
arrow_of DrPause false = dr_pause_0
arrow_of DrPause true = dr_pause_1
arrow_of DrExit2 false = dr_exit2_0
arrow_of DrExit2 true = dr_exit2_1
arrow_of DrUpdate false = dr_update_0
arrow_of DrUpdate true = dr_update_1
arrow_of IrSelect false = ir_select_0
arrow_of IrSelect true = ir_select_1
arrow_of IrCapture false = ir_capture_0
arrow_of IrCapture true = ir_capture_1
arrow_of IrShift false = ir_shift_0
arrow_of IrShift true = ir_shift_1
arrow_of IrExit1 false = ir_exit1_0
arrow_of IrExit1 true = ir_exit1_1
arrow_of IrPause false = ir_pause_0
arrow_of IrPause true = ir_pause_1
arrow_of IrExit2 false = ir_exit2_0
arrow_of IrExit2 true = ir_exit2_1
arrow_of IrUpdate false = ir_update_0
arrow_of IrUpdate true = ir_update_1

pub next-arrow : (s : State) (tms : Bool) (t : State) → Arrow s tms t → next s tms ≡ t
next-arrow _ _ _ reset_0 = refl
next-arrow _ _ _ reset_1 = refl
next-arrow _ _ _ idle_0 = refl
next-arrow _ _ _ idle_1 = refl
next-arrow _ _ _ dr_select_0 = refl
next-arrow _ _ _ dr_select_1 = refl
next-arrow _ _ _ dr_capture_0 = refl
next-arrow _ _ _ dr_capture_1 = refl
next-arrow _ _ _ dr_shift_0 = refl
next-arrow _ _ _ dr_shift_1 = refl
next-arrow _ _ _ dr_exit1_0 = refl
next-arrow _ _ _ dr_exit1_1 = refl
next-arrow _ _ _ dr_pause_0 = refl
next-arrow _ _ _ dr_pause_1 = refl
next-arrow _ _ _ dr_exit2_0 = refl
next-arrow _ _ _ dr_exit2_1 = refl
next-arrow _ _ _ dr_update_0 = refl
next-arrow _ _ _ dr_update_1 = refl
next-arrow _ _ _ ir_select_0 = refl
next-arrow _ _ _ ir_select_1 = refl
next-arrow _ _ _ ir_capture_0 = refl
next-arrow _ _ _ ir_capture_1 = refl
next-arrow _ _ _ ir_shift_0 = refl
next-arrow _ _ _ ir_shift_1 = refl
next-arrow _ _ _ ir_exit1_0 = refl
next-arrow _ _ _ ir_exit1_1 = refl
next-arrow _ _ _ ir_pause_0 = refl
next-arrow _ _ _ ir_pause_1 = refl
next-arrow _ _ _ ir_exit2_0 = refl
next-arrow _ _ _ ir_exit2_1 = refl
next-arrow _ _ _ ir_update_0 = refl
next-arrow _ _ _ ir_update_1 = refl

-- each state is entered by one value of TMS
pub entered_by-next : (s : State) (tms : Bool) → entered_by (next s tms) ≡ tms
entered_by-next Reset true = refl
entered_by-next Reset false = refl
entered_by-next Idle true = refl
entered_by-next Idle false = refl
entered_by-next DrSelect true = refl
entered_by-next DrSelect false = refl
entered_by-next DrCapture true = refl
entered_by-next DrCapture false = refl
entered_by-next DrShift true = refl
entered_by-next DrShift false = refl
entered_by-next DrExit1 true = refl
entered_by-next DrExit1 false = refl
entered_by-next DrPause true = refl
entered_by-next DrPause false = refl
entered_by-next DrExit2 true = refl
entered_by-next DrExit2 false = refl
entered_by-next DrUpdate true = refl
entered_by-next DrUpdate false = refl
entered_by-next IrSelect true = refl
entered_by-next IrSelect false = refl
entered_by-next IrCapture true = refl
entered_by-next IrCapture false = refl
entered_by-next IrShift true = refl
entered_by-next IrShift false = refl
entered_by-next IrExit1 true = refl
entered_by-next IrExit1 false = refl
entered_by-next IrPause true = refl
entered_by-next IrPause false = refl
entered_by-next IrExit2 true = refl
entered_by-next IrExit2 false = refl
entered_by-next IrUpdate true = refl
entered_by-next IrUpdate false = refl

pub arrows_are_the_function : ArrowsAreTheFunction
arrows_are_the_function s tms t = (next-arrow s tms t, λ e. subst (Arrow s tms) e (arrow_of s tms))

pub entered_by_one : EnteredByOne
entered_by_one s tms t a = rw (← next-arrow s tms t a) (sym (entered_by-next s tms))

five_ones : (s : State) → after_cycles s (replicate 5 true) ≡ Reset
five_ones Reset = refl
five_ones Idle = refl
five_ones DrSelect = refl
five_ones DrCapture = refl
five_ones DrShift = refl
five_ones DrExit1 = refl
five_ones DrPause = refl
five_ones DrExit2 = refl
five_ones DrUpdate = refl
five_ones IrSelect = refl
five_ones IrCapture = refl
five_ones IrShift = refl
five_ones IrExit1 = refl
five_ones IrPause = refl
five_ones IrExit2 = refl
five_ones IrUpdate = refl

fewer : (n : ℕ) → n < 5 → after_cycles DrShift (replicate n true) ≢ Reset
fewer zero h = λ e. cc
fewer (suc zero) h = λ e. cc
fewer (suc (suc zero)) h = λ e. cc
fewer (suc (suc (suc zero))) h = λ e. cc
fewer (suc (suc (suc (suc zero)))) h = λ e. cc
fewer (suc (suc (suc (suc (suc n))))) h = λ e. absurd (omega arith)

pub five_ones_reset : FiveOnesReset
five_ones_reset = (five_ones, λ n h. (DrShift, fewer n h))
