-- What is noted of the captures of a run.
use Rattle.std.specs.Prelude.{◌≡◌, ◌<◌, ◌++◌, ℕ, List, [], length, map}
use Rattle.svf_programs.specs.Left.{left}
use Rattle.svf_programs.specs.Sound.{AllWithin}
use Rattle.svf_programs.specs.Steps.{Numbered, Program}
use Rattle.pin_nets.specs.declared.Pin.{Pin}
use Rattle.board_plan.specs.declared.plan.PlannedDevice.{PlannedDevice}
use Rattle.board_plan.specs.Planned.{Wiring, all_pins}
use Rattle.board_plan.specs.View.{member as planned_member}
use Rattle.board_model.specs.Cells.{Member}
use Rattle.board_model.specs.Chain.{BoardState}
use Rattle.board_model.specs.Resting.{IsAtRest}
use Rattle.board_model.specs.Whole.{AtRest}
use Rattle.board_faults.specs.Made.{board_of}
use Rattle.play_model.specs.DirectPlay.{opened_state}
use Rattle.fault_events.specs.declared.captures.Capture.{Capture}
use Rattle.fault_events.specs.declared.captures.Captures.{Captures}
use Rattle.fault_events.specs.declared.notes.Note.{Note}
use Rattle.fault_events.specs.declared.tables.PinNumbers.{PinNumbers}
use Rattle.fault_events.specs.Events.{Event, events}
use Rattle.fault_events.specs.Notes.{noted}
use Rattle.fault_events.specs.Parts.{AllPlannedFormed, planned_parts}
use Rattle.fault_events.specs.Tables.{AreNumbered}

-- a capture: the number of its statement, and what is noted of each pin
pub record Noted : Type 0 where
  pub command : ℕ
  pub notes : List Note

abbrev pub noted_at : List Pin → Event → Noted
noted_at pins e = record { command = e.command; notes = noted pins e.board.members e.vector }

abbrev pub seen : Capture → Noted
seen c = record { command = c.command; notes = c.pins.items }

-- these devices, whatever their registers, are those of a plan, and its pins are numbered
pub record Fits (ms : List Member) (devices : List PlannedDevice) (n : PinNumbers) : Type 0 where
  pub same : planned_parts ms ≡ map planned_member devices
  pub formed : AllPlannedFormed (map planned_member devices)
  pub numbered : AreNumbered (map planned_member devices) n

-- a board is at rest in a state, and what is noted of these captures stands behind what was
pub record Goes (pins : List Pin) (es : List Event) (after : AtRest) (board : BoardState)
    (old new : List Capture) : Type 0 where
  pub rests : IsAtRest board after
  pub noted : map seen new ≡ map seen old ++ map (noted_at pins) es

-- ---- a whole play

-- what is noted of every pin at the captures of steps from a state
abbrev pub noted_by : List Pin → List Numbered → AtRest → List Noted
noted_by pins steps m = map (noted_at pins) (events steps m)

-- at those of a program's play on a board, from power-up
abbrev pub captures : Program → Wiring → List Noted
captures program w = noted_by (all_pins w.nets) program.steps (opened_state (board_of w))

-- A block of captures is noted, and the board rests at a state from where the steps that are left make the others. No
-- block is empty but that of no steps.
pub record GoesOn (pins : List Pin) (before : List Numbered) (m : AtRest) (after : List Numbered)
    (board : BoardState) (block : List Capture) : Type 0 where
  pub state : AtRest
  pub rests : IsAtRest board state
  pub kept : planned_parts state.members ≡ planned_parts m.members
  pub within : AllWithin after
  pub noted : noted_by pins before m ≡ map seen block ++ noted_by pins after state
  pub over : block ≡ [] → after ≡ []
  pub fewer : (block ≡ [] → ⊥) → length after < length before

-- ---- a play that is to be gone on with

abbrev pub steps_left : Captures → List Numbered
steps_left c = left c.steps

-- its board is at rest, and its pins are numbered
pub record IsUnderWay (c : Captures) : Type 0 where
  pub state : AtRest
  pub rests : IsAtRest c.board state
  pub within : AllWithin (left c.steps)
  pub fits : Fits state.members c.devices.now c.numbers

-- what is noted at the captures that are left of it
pub record AreLeft (cs : List Noted) (pins : List Pin) (c : Captures) : Type 0 where
  pub way : IsUnderWay c
  pub numbered : c.numbers.pins.items ≡ pins
  pub noted : cs ≡ noted_by pins (left c.steps) way.state

-- These captures begin with a block, and the others are left; they are none where the block is empty, and no step is
-- left then.
pub record Begins (cs : List Noted) (pins : List Pin) (old : Captures) (block : List Capture)
    (new : Captures) : Type 0 where
  pub rest : List Noted
  pub are : cs ≡ map seen block ++ rest
  pub leaves : AreLeft rest pins new
  pub over : block ≡ [] → rest ≡ []
  pub none : block ≡ [] → steps_left new ≡ []
  pub fewer : (block ≡ [] → ⊥) → length (steps_left new) < length (steps_left old)
