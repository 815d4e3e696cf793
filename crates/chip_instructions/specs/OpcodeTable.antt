-- The opcodes of a description sorted by their bits, and the row that they name.
use Rattle.std.specs.Prelude.{◌≡◌, ℕ, ◌≤◌, min, Bool, List, [], ◌∷◌, length, Option, Some, None, option_map}
use Rattle.std.specs.BTreeMap.{get}
use Rattle.std.specs.List.{find, position}
use Rattle.bsdl_device.specs.Order.{bits_order}
use Rattle.bsdl_device.specs.Device.{Opcode}
use Rattle.bsdl_device.specs.Opcodes.{matches, names_it}
use Rattle.chip_instructions.specs.declared.opcode_table.OpcodeTable.{OpcodeTable}
use Rattle.chip_instructions.specs.declared.opcode_table.WithX.{WithX}

-- the first of two rows, where there are such
abbrev pub first_of : Option ℕ → Option ℕ → Option ℕ
first_of None b = b
first_of (Some a) None = Some a
first_of (Some a) (Some b) = Some (min a b)

-- the first row with an X whose opcode there matches a code
abbrev pub row_with_x : List WithX → List Bool → Option ℕ
row_with_x opcodes code = option_map (λ o. o.row) (find (λ o. matches o.pattern code) opcodes)

-- the row that the table has for a code
abbrev pub row_in : OpcodeTable → List Bool → Option ℕ
row_in table code = first_of (get bits_order table.by_code code) (row_with_x table.with_x.items code)

-- the opcodes stand in the order of their rows, which are from one to another
abbrev pub IsRising : ℕ → List WithX → ℕ → Type 0
IsRising from [] to = from ≤ to
IsRising from (o ∷ opcodes) to = (from ≤ o.row) × IsRising o.row opcodes to

-- the table of these rows: for each code of this length it has the first row that the code names
pub record IsTable (n : ℕ) (rows : List Opcode) (table : OpcodeTable) : Type 0 where
  pub rising : IsRising 0 table.with_x.items (length rows)
  pub found : (code : List Bool) → length code ≡ n → row_in table code ≡ position (names_it code) rows
