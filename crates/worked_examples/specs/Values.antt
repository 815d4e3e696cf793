-- The values of attributes (IEEE Std 1149.1-2001, Annex B.8.9 to B.8.14).
use Rattle.std.specs.Prelude.{◌≡◌, ℕ, Bool, if◌then◌else◌, List, [], ◌∷◌, ◌++◌}
use Rattle.bsdl_text.specs.Cutting.{Lexeme}
use Rattle.bsdl_text.specs.Marks.{opening, closing}
use Rattle.bsdl_text.specs.Reading.{whole_number}
use Rattle.bsdl_device.specs.Device.{Name, Pattern}
use Rattle.bsdl_values.specs.InstructionValues.{OpcodeRow, AccessRow}
use Rattle.bsdl_values.specs.CellRows.{CellRow}
use Rattle.bsdl_values.specs.declared.Attribute.{Attribute}
use Rattle.bsdl_values.specs.declared.Attribute.TheVariants.{TapScanIn, TapScanOut, TapScanMode, TapScanClock}
use Rattle.bsdl_values.specs.declared.Attribute.TheVariants.{TapScanReset, InstructionLength, BoundaryLength}
use Rattle.bsdl_values.specs.declared.Attribute.TheVariants.{InstructionOpcode, InstructionCapture, BoundaryRegister}
use Rattle.bsdl_values.specs.declared.Attribute.TheVariants.{IdcodeRegister, UsercodeRegister, InstructionPrivate}
use Rattle.bsdl_values.specs.declared.Attribute.TheVariants.{RegisterAccess}
use Rattle.bsdl_values.specs.Keywords.{truth_of}
use Rattle.bsdl_values.specs.Values.{Value, port, absent, count, pattern_value, codes_value, names_value, opcodes_value}
use Rattle.bsdl_values.specs.Values.{accesses_value, cells_value, first_start}
use Rattle.worked_examples.specs.Lists.{IsMark, StandsFor}
use Rattle.worked_examples.specs.Quoted.{IsQuoted, AreRows, IsPattern, IsOpcodeRow, IsPrivateName, IsAccessRow, IsCellRow}

-- ---- brackets

-- every bracket matches another
pub data Matches : List Lexeme → Type 0 where
  none : Matches []
  other : (t : Lexeme) (ts : List Lexeme) → ¬ IsMark opening t → ¬ IsMark closing t → Matches ts → Matches (t ∷ ts)
  pair : (opener closer : Lexeme) (ts us : List Lexeme) → IsMark opening opener → Matches ts → IsMark closing closer
      → Matches us → Matches (opener ∷ (ts ++ closer ∷ us))

-- ( tokens with matching brackets )
abbrev pub IsInBrackets : List Lexeme → Type 0
IsInBrackets ts =
    (opener closer : Lexeme) × (within : List Lexeme) × (ts ≡ opener ∷ (within ++ closer ∷ [])) × IsMark opening opener
    × Matches within × IsMark closing closer

-- ---- values

-- true, or false, which counts as absent
abbrev pub IsTruth : Name → Value → List Lexeme → Type 0
IsTruth name v ts =
    (word : Lexeme) × (said : Bool) × (ts ≡ word ∷ []) × StandsFor truth_of said word
    × (v ≡ (if said then port name else absent))

abbrev pub IsCount : Value → List Lexeme → Type 0
IsCount v ts = (number : Lexeme) × (n : ℕ) × (ts ≡ number ∷ []) × StandsFor whole_number n number × (v ≡ count n)

abbrev pub AreCodes : Value → List Lexeme → Type 0
AreCodes v ts = (patterns : List Pattern) × IsQuoted (AreRows IsPattern) patterns ts × (v ≡ codes_value patterns)

-- the value of this attribute, of a port of this name; lists of names keep where their text begins
abbrev pub IsValue : Attribute → Name → Value → List Lexeme → Type 0
IsValue TapScanIn name v ts = IsTruth name v ts
IsValue TapScanOut name v ts = IsTruth name v ts
IsValue TapScanMode name v ts = IsTruth name v ts
IsValue TapScanReset name v ts = IsTruth name v ts
IsValue TapScanClock name v ts = IsInBrackets ts × (v ≡ port name)
IsValue InstructionLength name v ts = IsCount v ts
IsValue BoundaryLength name v ts = IsCount v ts
IsValue InstructionOpcode name v ts =
    (rows : List OpcodeRow) × IsQuoted (AreRows IsOpcodeRow) rows ts × (v ≡ opcodes_value (first_start ts) rows)
IsValue InstructionCapture name v ts = (p : Pattern) × IsQuoted IsPattern p ts × (v ≡ pattern_value p)
IsValue BoundaryRegister name v ts =
    (rows : List CellRow) × IsQuoted (AreRows IsCellRow) rows ts × (v ≡ cells_value rows)
IsValue IdcodeRegister name v ts = AreCodes v ts
IsValue UsercodeRegister name v ts = AreCodes v ts
IsValue InstructionPrivate name v ts =
    (names : List Name) × IsQuoted (AreRows IsPrivateName) names ts × (v ≡ names_value names)
IsValue RegisterAccess name v ts =
    (rows : List AccessRow) × IsQuoted (AreRows IsAccessRow) rows ts × (v ≡ accesses_value (first_start ts) rows)
