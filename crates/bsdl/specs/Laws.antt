-- Laws over all texts, which public functions ensure.
use Rattle.std.specs.Prelude.{◌≡◌, ℕ, List, length, Option, Some, Ok}
use Rattle.std.specs.List.{flat_map}
use Rattle.bsdl_text.specs.Words.{upper}
use Rattle.bsdl_device.specs.Device.{Device, Name}
use Rattle.bsdl_device.specs.Ports as found
use Rattle.bsdl_device.specs.Sound.{IsSoundDevice}
use Rattle.bsdl_entity.specs.Ports.{Port}
use Rattle.bsdl_lookup.specs.PortNumbers as port_numbers
use Rattle.bsdl_description.specs.Describing.{Description}
use Rattle.bsdl.specs.Boundary.{port_bits}
use Rattle.bsdl.specs.Judging.{text_says}
use Rattle.bsdl.specs.Exact.{IsExactDevice}
use Rattle.bsdl.specs.FitCells.{HasFitCells}
use Rattle.bsdl.specs.Limited.{IsLimitedDevice}
use Rattle.bsdl.specs.RowCells.{HasRowCells, text_described}
use Rattle.bsdl.specs.Small.{IsSmallDevice}

-- every device that a text says is sound
abbrev pub EveryDeviceIsSound : Type 0
EveryDeviceIsSound = (text : List ℕ) (d : Device) → text_says text ≡ Ok d → IsSoundDevice d

-- every device that a text says keeps the limits
abbrev pub EveryDeviceIsLimited : Type 0
EveryDeviceIsLimited = (text : List ℕ) (d : Device) → text_says text ≡ Ok d → IsLimitedDevice d

-- in every device that a text says, what a register takes is as long as it
abbrev pub EveryDeviceIsExact : Type 0
EveryDeviceIsExact = (text : List ℕ) (d : Device) → text_says text ≡ Ok d → IsExactDevice d

-- in every device that a text says, the lists that no limit bounds are no longer than the text
abbrev pub EveryDeviceIsSmall : Type 0
EveryDeviceIsSmall = (text : List ℕ) (d : Device) → text_says text ≡ Ok d → IsSmallDevice (length text) d

-- the number that a cell's row has for its port bit is that by which a pin finds it
abbrev pub PinsFindTheBitsOfRows : Type 0
PinsFindTheBitsOfRows = (taps : List Name) (ps : List Port) (x : List ℕ) (i : Option ℕ) (k : ℕ)
    → port_numbers.bit_number 0 ps (record { name = upper x; index = i }) ≡ Some k
    → found.bit_number x i (flat_map (port_bits taps) ps) ≡ Some k

-- in every device that a text says, each cell is as its row describes it, and has the port that its row names
abbrev pub EveryCellHasThePortThatItsRowNames : Type 0
EveryCellHasThePortThatItsRowNames = (text : List ℕ) (v : Device) → text_says text ≡ Ok v
    → (d : Description) × (text_described text ≡ Ok d) × HasRowCells d v

-- in every device that a text says, each cell fits
abbrev pub EveryCellFitsItsDevice : Type 0
EveryCellFitsItsDevice = (text : List ℕ) (d : Device) → text_says text ≡ Ok d → HasFitCells d
