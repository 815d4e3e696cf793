-- One device, edge by edge (IEEE Std 1149.1-2001, clauses 4 and 6). A rising edge captures or shifts and moves; a
-- falling edge updates, resets and sets TDO.
use Rattle.std.specs.Prelude.{Bool, ◌&&◌, slice_get, Option, None, if◌then◌else◌}
use Rattle.jt_tap.specs.declared.State.{State}
use Rattle.jt_tap.specs.declared.State.TheVariants.{Reset}
use Rattle.jt_tap.specs.Controller.{next, work}
use Rattle.jt_tap.specs.declared.Work.{Work}
use Rattle.jt_tap.specs.declared.Work.TheVariants.{Resets, Captures, Shifts, Updates}
use Rattle.jt_bits.specs.Shifting.{after_shift}
use Rattle.chip_instructions.specs.Device.{Device}
use Rattle.chip_registers.specs.Registers.{Registers, Surroundings, selected_bits, put, after_capture, after_update}
use Rattle.chip_registers.specs.Registers.{after_reset}

-- The registers after a rising edge on which the controller stands in a state of this work.
abbrev pub after_rise : Work → Device → Surroundings → Bool → Registers → Registers
after_rise (Captures column) d around tdi r = after_capture d column around r
after_rise (Shifts column) d around tdi r = put d column (after_shift (selected_bits d column r) tdi) r
after_rise _ d around tdi r = r

-- The registers after a falling edge in such a state.
abbrev pub after_fall : Work → Device → Surroundings → Registers → Registers
after_fall (Updates column) d around r = after_update d column r
after_fall Resets d around r = after_reset d around r
after_fall _ d around r = r

-- TDO from a falling edge on: bit 0 of the selected register in a Shift state, else undriven.
abbrev pub tdo_after : Work → Device → Registers → Option Bool
tdo_after (Shifts column) d r = slice_get (selected_bits d column r) 0
tdo_after _ d r = None

-- a device with its controller, its TDO (None while undriven), and the TRST line as it was last told
pub record OneChip : Type 0 where
  pub device : Device
  pub registers : Registers
  pub state : State
  pub tdo : Option Bool
  pub trst : Bool

-- While TRST is asserted a device with a TRST port is held in RESET.
abbrev pub is_held : OneChip → Bool
is_held c = c.trst && c.device.has_trst

-- One rising edge, given TDI and what the boundary knows.
abbrev pub rise : (tms tdi : Bool) → Surroundings → OneChip → OneChip
rise tms tdi around c =
    if is_held c then c else record c {
      registers = after_rise (work c.state) c.device around tdi c.registers;
      state = next c.state tms;
    }

-- One falling edge: the update or reset of the state, then TDO.
abbrev pub fall : Surroundings → OneChip → OneChip
fall around c =
    let r = after_fall (work c.state) c.device around c.registers in
    record c { registers = r; tdo = tdo_after (work c.state) c.device r }

-- TRST asserted or released: asserted, a device with a TRST port is in RESET at once, its TDO undriven.
abbrev pub after_trst : Bool → Surroundings → OneChip → OneChip
after_trst trst around c =
    if trst && c.device.has_trst
    then record c { registers = after_reset c.device around c.registers; state = Reset; tdo = None; trst = trst }
    else record c { trst = trst }
