-- What a play keeps of a device: its name, its description, and whether EXTEST captures its update stage.
use Rattle.std.specs.Prelude.{ℕ, Bool, List, map}
use Rattle.bsdl_device.specs.Device.{Device}
use Rattle.board_model.specs.Cells.{Member}

pub record Plate : Type 0 where
  pub name : List ℕ
  pub device : Device
  pub extest_update : Bool

abbrev pub plate : Member → Plate
plate m = record { name = m.name; device = m.device; extest_update = m.extest_update }

abbrev pub plates : List Member → List Plate
plates ms = map plate ms
