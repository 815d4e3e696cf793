-- The TAP controller of IEEE Std 1149.1-2001 (clause 6): sixteen states, one table, and what each state does to a
-- register.
use Rattle.std.specs.Prelude.{◌≡◌, ◌≢◌, ◌↔◌, ◌<◌, ℕ, Bool, true, false, List, [], ◌∷◌, replicate}
use Rattle.jt_tap.specs.declared.State.{State}
use Rattle.jt_tap.specs.declared.State.TheVariants.{Reset, Idle, DrSelect, DrCapture, DrShift, DrExit1, DrPause}
use Rattle.jt_tap.specs.declared.State.TheVariants.{DrExit2, DrUpdate, IrSelect, IrCapture, IrShift, IrExit1, IrPause}
use Rattle.jt_tap.specs.declared.State.TheVariants.{IrExit2, IrUpdate}
use Rattle.jt_tap.specs.declared.Column.{Column}
use Rattle.jt_tap.specs.declared.Column.TheVariants.{Dr, Ir}
use Rattle.jt_tap.specs.declared.Work.{Work}
use Rattle.jt_tap.specs.declared.Work.TheVariants.{Resets, Captures, Shifts, Updates, Waits}

-- The arrows of the state diagram: from a state, by TMS on a rising edge of TCK, to a state. There are thirty-two.
pub data Arrow : State → Bool → State → Type 0 where
  reset_0 : Arrow Reset false Idle
  reset_1 : Arrow Reset true Reset
  idle_0 : Arrow Idle false Idle
  idle_1 : Arrow Idle true DrSelect
  dr_select_0 : Arrow DrSelect false DrCapture
  dr_select_1 : Arrow DrSelect true IrSelect
  dr_capture_0 : Arrow DrCapture false DrShift
  dr_capture_1 : Arrow DrCapture true DrExit1
  dr_shift_0 : Arrow DrShift false DrShift
  dr_shift_1 : Arrow DrShift true DrExit1
  dr_exit1_0 : Arrow DrExit1 false DrPause
  dr_exit1_1 : Arrow DrExit1 true DrUpdate
  dr_pause_0 : Arrow DrPause false DrPause
  dr_pause_1 : Arrow DrPause true DrExit2
  dr_exit2_0 : Arrow DrExit2 false DrShift
  dr_exit2_1 : Arrow DrExit2 true DrUpdate
  dr_update_0 : Arrow DrUpdate false Idle
  dr_update_1 : Arrow DrUpdate true DrSelect
  ir_select_0 : Arrow IrSelect false IrCapture
  ir_select_1 : Arrow IrSelect true Reset
  ir_capture_0 : Arrow IrCapture false IrShift
  ir_capture_1 : Arrow IrCapture true IrExit1
  ir_shift_0 : Arrow IrShift false IrShift
  ir_shift_1 : Arrow IrShift true IrExit1
  ir_exit1_0 : Arrow IrExit1 false IrPause
  ir_exit1_1 : Arrow IrExit1 true IrUpdate
  ir_pause_0 : Arrow IrPause false IrPause
  ir_pause_1 : Arrow IrPause true IrExit2
  ir_exit2_0 : Arrow IrExit2 false IrShift
  ir_exit2_1 : Arrow IrExit2 true IrUpdate
  ir_update_0 : Arrow IrUpdate false Idle
  ir_update_1 : Arrow IrUpdate true DrSelect

-- The same table as a function: the state after a rising edge of TCK, by TMS.
abbrev pub next : State → Bool → State
next Reset true = Reset
next Reset false = Idle
next Idle true = DrSelect
next Idle false = Idle
next DrSelect true = IrSelect
next DrSelect false = DrCapture
next DrCapture true = DrExit1
next DrCapture false = DrShift
next DrShift true = DrExit1
next DrShift false = DrShift
next DrExit1 true = DrUpdate
next DrExit1 false = DrPause
next DrPause true = DrExit2
next DrPause false = DrPause
next DrExit2 true = DrUpdate
next DrExit2 false = DrShift
next DrUpdate true = DrSelect
next DrUpdate false = Idle
next IrSelect true = Reset
next IrSelect false = IrCapture
next IrCapture true = IrExit1
next IrCapture false = IrShift
next IrShift true = IrExit1
next IrShift false = IrShift
next IrExit1 true = IrUpdate
next IrExit1 false = IrPause
next IrPause true = IrExit2
next IrPause false = IrPause
next IrExit2 true = IrUpdate
next IrExit2 false = IrShift
next IrUpdate true = DrSelect
next IrUpdate false = Idle

-- The law that the two are the same table.
abbrev pub ArrowsAreTheFunction : Type 0
ArrowsAreTheFunction = (s : State) (tms : Bool) (t : State) → Arrow s tms t ↔ (next s tms ≡ t)

-- The state after a list of rising edges, by their TMS.
abbrev pub after_cycles : State → List Bool → State
after_cycles s [] = s
after_cycles s (tms ∷ rest) = after_cycles (next s tms) rest

-- Five rising edges with TMS 1 lead from every state to RESET, and no smaller number does from every state.
abbrev pub FiveOnesReset : Type 0
FiveOnesReset =
    ((s : State) → after_cycles s (replicate 5 true) ≡ Reset)
    × ((n : ℕ) → n < 5 → (s : State) × (after_cycles s (replicate n true) ≢ Reset))

-- What a device does in a state (6.1.1): it captures and shifts on the rising edge that ends a cycle there, and updates
-- and resets on the falling edge in it.
abbrev pub work : State → Work
work Reset = Resets
work DrCapture = Captures Dr
work DrShift = Shifts Dr
work DrUpdate = Updates Dr
work IrCapture = Captures Ir
work IrShift = Shifts Ir
work IrUpdate = Updates Ir
work _ = Waits

-- The TMS by which a state is entered.
abbrev pub entered_by : State → Bool
entered_by Idle = false
entered_by DrCapture = false
entered_by DrShift = false
entered_by DrPause = false
entered_by IrCapture = false
entered_by IrShift = false
entered_by IrPause = false
entered_by _ = true

-- The law that each state is entered by one value of TMS alone.
abbrev pub EnteredByOne : Type 0
EnteredByOne = (s : State) (tms : Bool) (t : State) → Arrow s tms t → tms ≡ entered_by t

-- The states in which a controller may stay for any number of cycles, but for the two Shift states.
abbrev pub is_stable : State → Bool
is_stable Reset = true
is_stable Idle = true
is_stable DrPause = true
is_stable IrPause = true
is_stable _ = false

-- The pause of a column.
abbrev pub pause : Column → State
pause Dr = DrPause
pause Ir = IrPause

-- Whether two states are one.
abbrev pub is_at : State → State → Bool
is_at Reset Reset = true
is_at Idle Idle = true
is_at DrSelect DrSelect = true
is_at DrCapture DrCapture = true
is_at DrShift DrShift = true
is_at DrExit1 DrExit1 = true
is_at DrPause DrPause = true
is_at DrExit2 DrExit2 = true
is_at DrUpdate DrUpdate = true
is_at IrSelect IrSelect = true
is_at IrCapture IrCapture = true
is_at IrShift IrShift = true
is_at IrExit1 IrExit1 = true
is_at IrPause IrPause = true
is_at IrExit2 IrExit2 = true
is_at IrUpdate IrUpdate = true
is_at _ _ = false
