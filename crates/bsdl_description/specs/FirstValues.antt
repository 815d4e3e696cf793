-- What an attribute's first giving says (IEEE Std 1149.1-2001, Annex B.8.9 to B.8.14).
use Rattle.std.specs.Prelude.{ℕ, ◌==◌, Bool, if◌then◌else◌, List, [], ◌∷◌, Option, Some, None}
use Rattle.bsdl_values.specs.declared.Attribute.{Attribute}
use Rattle.bsdl_values.specs.declared.Attribute.TheVariants.{TapScanIn, TapScanOut, TapScanMode, TapScanClock}
use Rattle.bsdl_values.specs.declared.Attribute.TheVariants.{TapScanReset, InstructionLength, BoundaryLength}
use Rattle.bsdl_values.specs.declared.Attribute.TheVariants.{InstructionOpcode, InstructionCapture, BoundaryRegister}
use Rattle.bsdl_values.specs.declared.Attribute.TheVariants.{IdcodeRegister, UsercodeRegister, InstructionPrivate}
use Rattle.bsdl_values.specs.declared.Attribute.TheVariants.{RegisterAccess}
use Rattle.bsdl_values.specs.Device.{Name, Pattern}
use Rattle.bsdl_values.specs.InstructionValues.{OpcodeRow, AccessRow}
use Rattle.bsdl_values.specs.CellRows.{CellRow}
use Rattle.bsdl_values.specs.Values.{Value, port, count, pattern_value, codes_value, names_value}
use Rattle.bsdl_values.specs.Values.{opcodes_value, accesses_value, cells_value}
use Rattle.bsdl_entity.specs.Entity.{Given}

abbrev pub number_of : Attribute → ℕ
number_of TapScanIn = 0
number_of TapScanOut = 1
number_of TapScanMode = 2
number_of TapScanClock = 3
number_of TapScanReset = 4
number_of InstructionLength = 5
number_of BoundaryLength = 6
number_of InstructionOpcode = 7
number_of InstructionCapture = 8
number_of BoundaryRegister = 9
number_of IdcodeRegister = 10
number_of UsercodeRegister = 11
number_of InstructionPrivate = 12
number_of RegisterAccess = 13

abbrev pub is_attribute : Attribute → Attribute → Bool
is_attribute a b = number_of a == number_of b

-- the value of the first giving of an attribute
abbrev pub value_given : Attribute → List Given → Option Value
value_given a [] = None
value_given a (g ∷ gs) = if is_attribute a g.attribute then Some g.value else value_given a gs

abbrev pub as_port : Option Value → Option Name
as_port (Some (port name)) = Some name
as_port _ = None

abbrev pub as_count : Option Value → Option ℕ
as_count (Some (count n)) = Some n
as_count _ = None

abbrev pub as_pattern : Option Value → Option Pattern
as_pattern (Some (pattern_value p)) = Some p
as_pattern _ = None

abbrev pub as_codes : Option Value → List Pattern
as_codes (Some (codes_value ps)) = ps
as_codes _ = []

abbrev pub as_names : Option Value → List Name
as_names (Some (names_value ns)) = ns
as_names _ = []

-- rows, and where their text begins
abbrev pub as_opcodes : Option Value → Option (ℕ × List OpcodeRow)
as_opcodes (Some (opcodes_value start rows)) = Some (start, rows)
as_opcodes _ = None

abbrev pub as_accesses : Option Value → ℕ × List AccessRow
as_accesses (Some (accesses_value start rows)) = (start, rows)
as_accesses _ = (0, [])

abbrev pub as_cells : Option Value → Option (List CellRow)
as_cells (Some (cells_value rows)) = Some rows
as_cells _ = None
