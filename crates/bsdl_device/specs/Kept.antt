-- How ports are kept.
use Rattle.std.specs.Prelude.{◌≡◌, ℕ, List, map, Option}
use Rattle.std.specs.BTreeMap.{BTreeMap}
use Rattle.std.specs.List.{AllByRecursion}
use Rattle.bsdl_device.specs.declared.numbers.Numbers.{Numbers}
use Rattle.bsdl_device.specs.declared.port_bits.Port.{Port}
use Rattle.bsdl_device.specs.declared.port_bits.BitPlace.{BitPlace}
use Rattle.bsdl_device.specs.Found.{number_named}
use Rattle.bsdl_device.specs.Ports.{bit_number}
use Rattle.bsdl_device.specs.View.{IsPlaced}
use Rattle.bsdl_device.specs.View as view_of

-- each bit has its port, and is found by name and index
pub record AreKept (ports : List Port) (bits : List BitPlace) (names : BTreeMap (List ℕ) Numbers) : Type 0 where
  pub placed : AllByRecursion (IsPlaced ports) bits
  pub found : (q : List ℕ) (i : Option ℕ) → number_named names q i ≡ bit_number q i (map (view_of.placed ports) bits)
