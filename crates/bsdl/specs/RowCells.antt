-- The cells of a device by the rows of its description (IEEE Std 1149.1-2001, Annex B.8.14). Pins of a board are found
-- among a device's port bits by name, in any case, and index; the port of a cell is the one that is so found.
use Rattle.std.specs.Prelude.{◌≡◌, ℕ, List, [], ◌∷◌, slice_get, is_some, Option, Some, None, option_and_then}
use Rattle.std.specs.Prelude.{if◌then◌else◌, Result}
use Rattle.std.specs.List.{AllByRecursion}
use Rattle.bsdl_device.specs.Device.{Device, PortBit}
use Rattle.bsdl_device.specs.Driving.{drives}
use Rattle.bsdl_device.specs.Ports.{bit_number}
use Rattle.bsdl_device.specs.declared.Cell.{Cell}
use Rattle.bsdl_values.specs.CellRows.{CellRow, PortName}
use Rattle.bsdl_description.specs.Describing.{Description, Refusal, described, ◌>>?◌}
use Rattle.bsdl_rules.specs.Fits.{rows_numbered}
use Rattle.bsdl.specs.Form.{text_form}

-- what a text describes, before it is judged
abbrev pub text_described : List ℕ → Result Description Refusal
text_described text = text_form text >>? described

-- the number of the port bit that a row names, found as a pin's is
abbrev pub bit_named : List PortBit → Option PortName → Option ℕ
bit_named bits port = option_and_then (λ p. bit_number p.name p.index bits) port

-- the cell of a row
abbrev pub row_cell : List PortBit → CellRow → Cell
row_cell bits r =
    record {
      function = r.function;
      port = bit_named bits r.port;
      control = if drives r.function
          then r.control else None;
    }

-- the port that a row names is there, and its cell stands at its number
pub record HasItsCell (v : Device) (r : CellRow) : Type 0 where
  pub port : is_some (bit_named v.ports r.port) ≡ is_some r.port
  pub cell : slice_get v.cells r.number ≡ Some (row_cell v.ports r)

-- each row has its cell, and each cell has one row
pub record HasRowCells (d : Description) (v : Device) : Type 0 where
  pub rows : AllByRecursion (HasItsCell v) d.cells
  pub cells : (k : ℕ) (c : Cell) → slice_get v.cells k ≡ Some c
      → (r : CellRow) × (rows_numbered d k ≡ r ∷ []) × (c ≡ row_cell v.ports r)
