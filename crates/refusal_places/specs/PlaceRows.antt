-- Refusals with their second lines.
use Rattle.std.specs.Prelude.{◌≡◌, ℕ, List, [], codes, Some, None}
use Rattle.svf_words.specs.declared.fault.Code.{Code}
use Rattle.svf_words.specs.declared.fault.Code.TheVariants as code
use Rattle.svf_words.specs.declared.fault.SvfFault.{SvfFault}
use Rattle.bsdl_values.specs.declared.Attribute.TheVariants as attribute
use Rattle.bsdl.specs.declared.fault.BsdlFault.TheVariants as bsdl
use Rattle.board_tables.specs.declared.fault.BoardFault.TheVariants as board
use Rattle.board_tables.specs.declared.fields.BoardTable.TheVariants as tables
use Rattle.output_words.specs.declared.lines.Position.{Position}
use Rattle.refusal_places.specs.Places.{svf_position, svf_line, bsdl_line, board_line, key_line, toml_line}

abbrev pub at : (line column : ℕ) → Position
at line column = record { line = line; column = column }

abbrev pub fault : ℕ → Code → SvfFault
fault statement c = record { statement = statement; code = c }

abbrev pub text : List ℕ
text = codes "STATE IDLE;\r\n! a comment\r\n  FOO;"

pub record PlaceRows : Type 0 where
  pub by_statement : svf_position text (fault 2 code.UnknownCommand) ≡ Some (at 3 3)
  pub by_byte : svf_position (codes "SDR 4 # ;") (fault 1 (code.BadByte 6)) ≡ Some (at 1 7)
  pub unclosed : svf_position (codes "SDR 4 TDI (F);  STATE") (fault 2 (code.Unclosed 16)) ≡ Some (at 1 17)
  pub too_long : svf_position text (fault 0 code.TooLarge) ≡ None
  pub no_memory : svf_line text (fault 0 code.NoMemory) ≡ []
  pub of_a_token : svf_position (codes "STATE IDLE;\nSDR 4\n TDI (1F);") (fault 2 code.TooWide) ≡ Some (at 3 7)
  pub of_no_token : svf_position (codes "STATE IDLE; SDR 4;") (fault 2 code.MissingTdi) ≡ Some (at 1 13)
  pub missing : bsdl_line (codes "k.bsd") [] (bsdl.Missing attribute.BoundaryLength)
      ≡ codes "in k.bsd name BOUNDARY_LENGTH\n"
  pub bad_cell : bsdl_line (codes "k.bsd") [] (bsdl.BadCell 3) ≡ codes "in k.bsd cell 3\n"
  pub of_the_file : bsdl_line (codes "k.bsd") [] bsdl.BadCapture ≡ codes "in k.bsd\n"
  pub no_name : board_line board.BadToml ≡ []
  pub key_of_the_file : key_line tables.File (codes "speed") ≡ codes "key speed\n"
  pub key_of_a_device : key_line (tables.Device 3) (codes "name") ≡ codes "device 3 key name\n"
  pub key_of_a_net : key_line (tables.Net 1) (codes "pull") ≡ codes "net 1 key pull\n"
  pub no_toml : toml_line (codes "a = 1\nb = \n") 10 ≡ codes "at line 2 column 5\n"
