-- The registers that a device's own instructions select (IEEE Std 1149.1-2001, Annex B.8.13).
use Rattle.std.specs.Prelude.{ℕ, Bool, is_some, if◌then◌else◌, List, map}
use Rattle.std.specs.Prelude.{Option, Some, None, option_map, unwrap_or, bytes_eq, codes}
use Rattle.bsdl_text.specs.Words.{upper}
use Rattle.bsdl_device.specs.Device.{Name, Access}
use Rattle.bsdl_device.specs.Opcodes.{x_as_0}
use Rattle.bsdl_device.specs.declared.Place.{Place}
use Rattle.bsdl_device.specs.declared.Place.TheVariants.{AtBypass, AtBoundary, AtDeviceId, AtUser}
use Rattle.bsdl_values.specs.InstructionValues.{AccessRow, Instr}
use Rattle.bsdl_opcodes.specs.Users.{user_number}

-- a register that is not the device's own
abbrev pub public_place : Name → Place
public_place name =
    if bytes_eq name (codes "BOUNDARY") then AtBoundary else if bytes_eq name (codes "BYPASS") then AtBypass
    else AtDeviceId

abbrev pub place_of : List (Name × ℕ) → AccessRow → Option ℕ → Place
place_of users r (Some n) = AtUser (unwrap_or (user_number users r.register) 0)
place_of users r None = public_place r.register

-- a pattern behind CAPTURES counts for a register of the device's own
abbrev pub access : Place → Bool → Instr → Access
access place is_own i =
    record {
      instruction = upper i.name.text;
      place = place;
      captures = if is_own then option_map x_as_0 i.captures
          else None;
    }

abbrev pub accesses_of_row : List (Name × ℕ) → AccessRow → List Access
accesses_of_row users r = map (access (place_of users r r.len) (is_some r.len)) r.instrs
