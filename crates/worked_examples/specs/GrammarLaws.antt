-- Laws over all lists of tokens and all texts, which public functions ensure.
use Rattle.std.specs.Prelude.{◌≡◌, ℕ, ◌<◌, ◌↔◌, ◌⊎◌, List, [], length, Some, Ok, Err}
use Rattle.std.specs.List.{AllByRecursion}
use Rattle.bsdl_text.specs.Cutting.{Lexeme}
use Rattle.bsdl_text.specs.Reading.{Read, fits, quoted_value}
use Rattle.bsdl_device.specs.Device.{Name, Device}
use Rattle.bsdl_values.specs.InstructionValues.{rows, pattern, opcode_row, private_name, access_row}
use Rattle.bsdl_values.specs.CellRows.{cell_row}
use Rattle.bsdl_entity.specs.Ports.{ports}
use Rattle.bsdl_values.specs.declared.Attribute.{Attribute}
use Rattle.bsdl_values.specs.Values.{value_of}
use Rattle.bsdl_entity.specs.Entity.{File, file}
use Rattle.bsdl_description.specs.Describing.{bad_token, bad_form, too_large}
use Rattle.bsdl.specs.Form.{text_limit, text_form}
use Rattle.bsdl.specs.Judging.{text_says}
use Rattle.worked_examples.specs.Lists.{IsToken}
use Rattle.worked_examples.specs.Ports.{IsPorts}
use Rattle.worked_examples.specs.Quoted.{SpellsWithin, AreRows, IsPattern, IsOpcodeRow, IsPrivateName, IsAccessRow}
use Rattle.worked_examples.specs.Quoted.{IsCellRow}
use Rattle.worked_examples.specs.Values.{IsValue}
use Rattle.worked_examples.specs.Entity.{IsFile}
use Rattle.worked_examples.specs.SpelledTexts.{SpellsEntity, Describes, HasBadByte, SpellsNothing}

-- ---- tokens

-- tokens are read as this exactly where all of them are so by the grammar
abbrev pub IsReadBy : {A : Type 0} → (List Lexeme → Read A) → (A → List Lexeme → Type 0) → Type 0
IsReadBy {A} reader Is = (ts : List Lexeme) (x : A) → AllByRecursion IsToken ts → Is x ts ↔ (reader ts ≡ fits x [])

abbrev pub PortsAreRead : Type 0
PortsAreRead = IsReadBy ports IsPorts

abbrev pub ValuesAreRead : Type 0
ValuesAreRead = (a : Attribute) (name : Name) → IsReadBy (value_of a name) (IsValue a name)

abbrev pub EntitiesAreRead : Type 0
EntitiesAreRead = IsReadBy file IsFile

-- ---- texts within quotes

-- a text within quotes is read as this exactly where it says so by the grammar
abbrev pub IsReadWithin : {A : Type 0} → (List Lexeme → Read A) → (A → List Lexeme → Type 0) → Type 0
IsReadWithin {A} item Says = (text : List ℕ) (x : A) → SpellsWithin Says x text ↔ (quoted_value item text ≡ Some x)

abbrev pub OpcodesAreRead : Type 0
OpcodesAreRead = IsReadWithin (rows opcode_row) (AreRows IsOpcodeRow)

abbrev pub PatternsAreRead : Type 0
PatternsAreRead = IsReadWithin pattern IsPattern

abbrev pub CodesAreRead : Type 0
CodesAreRead = IsReadWithin (rows pattern) (AreRows IsPattern)

abbrev pub PrivateNamesAreRead : Type 0
PrivateNamesAreRead = IsReadWithin (rows private_name) (AreRows IsPrivateName)

abbrev pub AccessesAreRead : Type 0
AccessesAreRead = IsReadWithin (rows access_row) (AreRows IsAccessRow)

abbrev pub CellsAreRead : Type 0
CellsAreRead = IsReadWithin (rows cell_row) (AreRows IsCellRow)

-- ---- texts

-- a text is read as an entity exactly where it spells that entity by the grammar
abbrev pub TextsAreRead : Type 0
TextsAreRead = (text : List ℕ) (f : File) → SpellsEntity text f ↔ (text_form text ≡ Ok f)

-- a text says a device exactly where it describes that device
abbrev pub DevicesAreRead : Type 0
DevicesAreRead = (text : List ℕ) (d : Device) → Describes text d ↔ (text_says text ≡ Ok d)

-- a text spells one entity
abbrev pub EntitiesAreOne : Type 0
EntitiesAreOne = (text : List ℕ) (f g : File) → SpellsEntity text f → SpellsEntity text g → f ≡ g

-- a text describes one device
abbrev pub DevicesAreOne : Type 0
DevicesAreOne = (text : List ℕ) (d e : Device) → Describes text d → Describes text e → d ≡ e

-- ---- refusals

-- a text is refused as too large exactly where it has more than 4 MiB
abbrev pub LargeIsRefused : Type 0
LargeIsRefused = (text : List ℕ) → (text_limit < length text) ↔ (text_form text ≡ Err too_large)

-- and for a token exactly where a byte begins none
abbrev pub BadByteIsRefused : Type 0
BadByteIsRefused =
    (text : List ℕ) (place : ℕ) → HasBadByte text place ↔ (text_form text ≡ Err (bad_token place))

-- and for its form exactly where its tokens are no file
abbrev pub NothingIsRefused : Type 0
NothingIsRefused =
    (text : List ℕ) → SpellsNothing text ↔ ((place : ℕ) × (text_form text ≡ Err (bad_form place)))

-- each text is one of these, or spells an entity
abbrev pub EachIsTold : Type 0
EachIsTold =
    (text : List ℕ) → (text_limit < length text) ⊎
    (((place : ℕ) × HasBadByte text place) ⊎ (SpellsNothing text ⊎ ((f : File) × SpellsEntity text f)))
