-- The second line of a refusal: where in which text it lies, or the name that it speaks of.
use Rattle.std.specs.Prelude.{ℕ, true, List, [], ◌∷◌, ◌++◌, codes, decimal, drop, string_bytes, Option, Some, None}
use Rattle.std.specs.Prelude.{option_map, unwrap_or}
use Rattle.svf_words.specs.declared.fault.Code.{Code}
use Rattle.svf_words.specs.declared.fault.Code.TheVariants as code
use Rattle.svf_words.specs.declared.fault.SvfFault.{SvfFault}
use Rattle.bsdl_text.specs.Cutting.{tokens, cuts_of}
use Rattle.bsdl_values.specs.declared.Attribute.{Attribute}
use Rattle.bsdl_values.specs.declared.Attribute.TheVariants as attribute
use Rattle.bsdl.specs.declared.fault.BsdlFault.{BsdlFault}
use Rattle.bsdl.specs.declared.fault.BsdlFault.TheVariants as bsdl
use Rattle.bsdl_sizes.specs.declared.sizes.Refused.{Refused}
use Rattle.bsdl_sizes.specs.declared.sizes.Refused.TheVariants as refused
use Rattle.bsdl_sizes.specs.Sizes.{spot_at_fault}
use Rattle.board_tables.specs.declared.fields.BoardTable.{BoardTable}
use Rattle.board_tables.specs.declared.fields.BoardTable.TheVariants as tables
use Rattle.board_tables.specs.declared.fault.BoardFault.{BoardFault}
use Rattle.board_tables.specs.declared.fault.BoardFault.TheVariants as board
use Rattle.output_words.specs.declared.lines.Position.{Position}
use Rattle.output_words.specs.Lines.{position_line, position_words}
use Rattle.output_words.specs.Names.{shown}
use Rattle.output_words.specs.Texts.{texts}
use Rattle.refusal_places.specs.Positions.{position_of}
use Rattle.refusal_places.specs.QuotedPlaces.{unfit_place, first_text, spot_place}
use Rattle.refusal_places.specs.Starts.{statement_position}
use Rattle.refusal_places.specs.TokenFaults.{token_at_fault}

-- where a refusal of SVF text lies: at its byte, else at the token at fault, else where its statement starts, if it has
-- one
abbrev pub svf_position : List ℕ → SvfFault → Option Position
svf_position text f = by f.code
  where
    at_token : Option ℕ → Option Position
    at_token (Some start) = Some (position_of text start)
    at_token None = statement_position text f.statement

    by : Code → Option Position
    by (code.BadByte place) = Some (position_of text place)
    by (code.Unclosed place) = Some (position_of text place)
    by _ = at_token (token_at_fault text f)

-- the line of that, none where a text is too long or memory ran out
abbrev pub svf_line : List ℕ → SvfFault → List ℕ
svf_line text f = unwrap_or (option_map position_line (svf_position text f)) []

-- an attribute as descriptions name it
abbrev pub attribute_word : Attribute → List ℕ
attribute_word attribute.TapScanIn = codes "TAP_SCAN_IN"
attribute_word attribute.TapScanOut = codes "TAP_SCAN_OUT"
attribute_word attribute.TapScanMode = codes "TAP_SCAN_MODE"
attribute_word attribute.TapScanClock = codes "TAP_SCAN_CLOCK"
attribute_word attribute.TapScanReset = codes "TAP_SCAN_RESET"
attribute_word attribute.InstructionLength = codes "INSTRUCTION_LENGTH"
attribute_word attribute.BoundaryLength = codes "BOUNDARY_LENGTH"
attribute_word attribute.InstructionOpcode = codes "INSTRUCTION_OPCODE"
attribute_word attribute.InstructionCapture = codes "INSTRUCTION_CAPTURE"
attribute_word attribute.BoundaryRegister = codes "BOUNDARY_REGISTER"
attribute_word attribute.IdcodeRegister = codes "IDCODE_REGISTER"
attribute_word attribute.UsercodeRegister = codes "USERCODE_REGISTER"
attribute_word attribute.InstructionPrivate = codes "INSTRUCTION_PRIVATE"
attribute_word attribute.RegisterAccess = codes "REGISTER_ACCESS"

abbrev pub name_words : List ℕ → List ℕ
name_words name = codes "name " ++ name

-- the place of the word that tells what is too long or too short
abbrev pub size_place : Refused → List ℕ → Option ℕ
size_place r text = option_map (spot_place text) (spot_at_fault r text)

-- where in a description its refusal lies: at a bad byte, at the token at fault, within quotes too, or at the word that
-- tells what is too long or too short
abbrev pub bsdl_place : List ℕ → BsdlFault → Option ℕ
bsdl_place text (bsdl.BadToken place) = Some place
bsdl_place text (bsdl.BadForm place) = Some (unfit_place text place)
bsdl_place text bsdl.BadLength = size_place refused.BadLength text
bsdl_place text bsdl.TooLarge = size_place refused.TooLarge text
bsdl_place text _ = None

-- what it names: an attribute, a name, or a cell
abbrev pub bsdl_named : BsdlFault → List ℕ
bsdl_named (bsdl.Missing a) = codes " " ++ name_words (attribute_word a)
bsdl_named (bsdl.Twice name) = codes " " ++ name_words (shown (string_bytes name))
bsdl_named (bsdl.BadCell number) = codes " cell " ++ decimal number
bsdl_named _ = []

-- the word that stands at a place, within quotes or not
abbrev pub word_at : List ℕ → ℕ → List ℕ
word_at text place = first_text (tokens (cuts_of true (drop place text)))

-- what is too long or too short is named, too
abbrev pub word_told : List ℕ → ℕ → BsdlFault → List ℕ
word_told text place bsdl.BadLength = codes " " ++ name_words (word_at text place)
word_told text place bsdl.TooLarge = codes " " ++ name_words (word_at text place)
word_told text place _ = []

-- what a refusal of a description says beside its number: a place of the text, or what it names
abbrev pub bsdl_words : List ℕ → BsdlFault → List ℕ
bsdl_words text f = by (bsdl_place text f)
  where
    by : Option ℕ → List ℕ
    by (Some place) = (codes " " ++ position_words (position_of text place)) ++ word_told text place f
    by None = bsdl_named f

-- the line of a refused description, by its file and its text
abbrev pub bsdl_line : List ℕ → List ℕ → BsdlFault → List ℕ
bsdl_line file text f = texts (codes "in " ∷ shown file ∷ bsdl_words text f ∷ codes "\n" ∷ [])

abbrev pub name_line : List ℕ → List ℕ
name_line name = texts (codes "name " ∷ shown name ∷ codes "\n" ∷ [])

-- The line of a refused board file: the name that it speaks of, if there is one. Of a refused description (C4) it is
-- told by file and text.
abbrev pub board_line : BoardFault BsdlFault → List ℕ
board_line (board.BadField key) = name_line (string_bytes key)
board_line (board.UnknownFile name) = name_line (string_bytes name)
board_line (board.UnknownPin text) = name_line (string_bytes text)
board_line (board.PinTwice text) = name_line (string_bytes text)
board_line (board.CoreLoop text) = name_line (string_bytes text)
board_line _ = []

-- a table of a board file, and a blank: none for the file's own
abbrev pub table_words : BoardTable → List ℕ
table_words tables.File = []
table_words (tables.Device n) = texts (codes "device " ∷ decimal n ∷ codes " " ∷ [])
table_words (tables.Net n) = texts (codes "net " ∷ decimal n ∷ codes " " ∷ [])

-- the line of a key at fault (C2), by the table in which it stands
abbrev pub key_line : BoardTable → List ℕ → List ℕ
key_line table key = texts (table_words table ∷ codes "key " ∷ shown key ∷ codes "\n" ∷ [])

-- the line of a text that stops being TOML at a place (C1)
abbrev pub toml_line : List ℕ → ℕ → List ℕ
toml_line text place = position_line (position_of text place)
