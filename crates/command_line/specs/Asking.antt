-- What the words of a command line ask for. What a command with these arguments takes of its words is clap's own
-- specification.
use Rattle.std.specs.Prelude.{ℕ, ◌-◌, ◌^◌, Bool, true, false, List, [], ◌∷◌, Option, Some, None, codes, bytes_eq}
use Rattle.std.specs.Prelude.{not, ◌&&◌, if◌then◌else◌, option_and_then, option_map, unwrap_or}
use Rattle.std.specs.Option.{option_map_or}
use Rattle.std.specs.Str.Parse.{digits_value, without_leading_plus}
use Rattle.clap.specs.Simple.{new_shape, on_top}
use Rattle.clap.specs.ValueTests.{is_unsigned_in}
use Rattle.clap.specs.Words.{App, Row, Rule, Shape, Text, first_of, new_app, new_rule, one_of, subcommand_of}
use Rattle.clap.specs.Words.{with_subcommand}
use Rattle.clap.specs.declared.builder.value_parser.ValueParser.{ValueParser}
use Rattle.clap.specs.declared.builder.value_parser.ValueParser.TheVariants as vp
use Rattle.clap.specs.declared.builder.action.ArgAction.TheVariants.{Set, SetTrue}
use Rattle.command_line.specs.declared.request.Serving.{Serving}

-- `[FILE]`
abbrev pub svf : Rule
svf = record (new_rule (codes "svf")) { action = Some Set }

-- `[--board BOARD]`
abbrev pub board : Rule
board = record (new_rule (codes "board")) { long = Some (codes "board"); action = Some Set }

-- `[--bytes]`
abbrev pub bytes : Rule
bytes = record (new_rule (codes "bytes")) { long = Some (codes "bytes"); action = Some SetTrue }

-- `[--all]`
abbrev pub all : Rule
all = record (new_rule (codes "all")) { long = Some (codes "all"); action = Some SetTrue }

-- `[--explain]`
abbrev pub explain : Rule
explain = record (new_rule (codes "explain")) { long = Some (codes "explain"); action = Some SetTrue }

-- `[--vcd FILE]`
abbrev pub vcd : Rule
vcd = record (new_rule (codes "vcd")) { long = Some (codes "vcd"); action = Some Set }

-- `[--NAME]`, which says how waves are drawn
abbrev pub waves_flag : Text → Rule
waves_flag name = record (new_rule name) { long = Some name; action = Some SetTrue }

abbrev pub vcd_fails : Rule
vcd_fails = waves_flag (codes "vcd-fails")

abbrev pub vcd_names : Rule
vcd_names = waves_flag (codes "vcd-names")

abbrev pub vcd_tdo : Rule
vcd_tdo = waves_flag (codes "vcd-tdo")

abbrev pub vcd_drives : Rule
vcd_drives = waves_flag (codes "vcd-drives")

abbrev pub vcd_plain : Rule
vcd_plain = waves_flag (codes "vcd-plain")

-- `play [FILE] [--board BOARD] [--bytes] [--all] [--explain] [--vcd FILE] [--vcd-fails] [--vcd-names] [--vcd-tdo]
-- [--vcd-drives] [--vcd-plain]`
abbrev pub play : Shape
play = record (new_shape (codes "play")) {
  rules =
      svf ∷ board ∷ bytes ∷ all ∷ explain ∷ vcd ∷ vcd_fails ∷ vcd_names ∷ vcd_tdo ∷ vcd_drives ∷ vcd_plain
      ∷ [];
}

-- `check [FILE] [--board BOARD] [--explain]`
abbrev pub check : Shape
check = record (new_shape (codes "check")) { rules = svf ∷ board ∷ explain ∷ [] }

-- `loop [FILE] [--board BOARD] [--all] [--explain]`
abbrev pub loop : Shape
loop = record (new_shape (codes "loop")) { rules = svf ∷ board ∷ all ∷ explain ∷ [] }

-- the numbers that are taken: ports, bytes of a connection, connections, and seconds of waiting
abbrev pub ports : ValueParser
ports = vp.Unsigned 1 65535

abbrev pub byte_counts : ValueParser
byte_counts = vp.Unsigned 0 1000000000000

abbrev pub connection_counts : ValueParser
connection_counts = vp.Unsigned 1 1000000

abbrev pub waits : ValueParser
waits = vp.Unsigned 1 86400

-- `--board BOARD`, which must be named where a board is served or described, or its faults are judged
abbrev pub served_board : Rule
served_board = record board { required = true }

-- `--port PORT`, which must be named
abbrev pub port : Rule
port = record (new_rule (codes "port")) {
  long = Some (codes "port");
  action = Some Set;
  required = true;
  parser = Some ports;
}

-- `[--at-most BYTES]`
abbrev pub at_most : Rule
at_most = record (new_rule (codes "at-most")) {
  long = Some (codes "at-most");
  action = Some Set;
  parser = Some byte_counts;
}

-- `[--connections COUNT]`
abbrev pub connections : Rule
connections = record (new_rule (codes "connections")) {
  long = Some (codes "connections");
  action = Some Set;
  parser = Some connection_counts;
}

-- `[--timeout SECONDS]`
abbrev pub timeout : Rule
timeout = record (new_rule (codes "timeout")) {
  long = Some (codes "timeout");
  action = Some Set;
  parser = Some waits;
}

-- `[--host HOST]`
abbrev pub host : Rule
host = record (new_rule (codes "host")) { long = Some (codes "host"); action = Some Set }

-- `serve --board BOARD --port PORT [--at-most BYTES] [--connections COUNT] [--timeout SECONDS] [--explain]`
abbrev pub serve : Shape
serve = record (new_shape (codes "serve")) {
  rules = served_board ∷ port ∷ at_most ∷ connections ∷ timeout ∷ explain ∷ [];
}

-- `connect [FILE] --port PORT [--host HOST] [--timeout SECONDS] [--all] [--explain]`
abbrev pub connect : Shape
connect = record (new_shape (codes "connect")) { rules = svf ∷ port ∷ host ∷ timeout ∷ all ∷ explain ∷ [] }

-- `describe --board BOARD [--explain]`
abbrev pub describe : Shape
describe = record (new_shape (codes "describe")) { rules = served_board ∷ explain ∷ [] }

-- `[--list]`
abbrev pub list : Rule
list = record (new_rule (codes "list")) { long = Some (codes "list"); action = Some SetTrue }

-- `cover [FILE] --board BOARD [--list] [--explain]`
abbrev pub cover : Shape
cover = record (new_shape (codes "cover")) { rules = svf ∷ served_board ∷ list ∷ explain ∷ [] }

-- `FILE`, which must be named where standard input is the log
abbrev pub named_svf : Rule
named_svf = record svf { required = true }

-- `[--log LOG]`
abbrev pub log : Rule
log = record (new_rule (codes "log")) { long = Some (codes "log"); action = Some Set }

-- `diagnose FILE --board BOARD [--log LOG] [--explain]`
abbrev pub diagnose : Shape
diagnose = record (new_shape (codes "diagnose")) { rules = named_svf ∷ served_board ∷ log ∷ explain ∷ [] }

-- a command that tells its version where it is asked for it
abbrev pub with_version : App → App
with_version a = on_top (λ s. record s { has_version = true }) a

-- the program's command line
abbrev pub jt_tool : App
jt_tool =
    with_subcommand (with_subcommand (with_subcommand (with_subcommand (with_subcommand (with_subcommand
    (with_subcommand (with_subcommand (with_version (new_app (codes "jt_tool"))) play) check) loop) serve) connect)
    describe) cover) diagnose

-- a server that is played on
pub record Host : Type 0 where
  pub host : Text
  pub port : ℕ
  pub timeout : Option ℕ

-- the file that waves are drawn into; whether they show which bits are wanted and which of them fail, the names of
-- instructions, each device's TDO, and what each pin drives; and whether they are without strings
pub record Drawn : Type 0 where
  pub file : Text
  pub fails : Bool
  pub names : Bool
  pub tdos : Bool
  pub drives : Bool
  pub plain : Bool

-- what is done with a text or a board: whether the bytes are told, whether all failures are, and whether it is told why
-- a bit fails and where a refusal lies; the waves of a play, where their file is named; whether every way of every
-- fault is listed; and the log of a play, where its file is named
pub data Action : Type 0 where
  plays : (bytes all explain : Bool) → (vcd : Option Drawn) → Action
  checks : (explain : Bool) → Action
  loops : (all explain : Bool) → Action
  serves : Serving → (explain : Bool) → Action
  connects : Host → (all explain : Bool) → Action
  describes : (explain : Bool) → Action
  covers : (listed explain : Bool) → Action
  diagnoses : (log : Option Text) → (explain : Bool) → Action

-- what is asked for: the file of the program and the board file, where they are named, and what is done
pub record Asked : Type 0 where
  pub svf : Option Text
  pub board : Option Text
  pub task : Action

-- whether a flag stands among the arguments
abbrev pub is_given : Text → List Row → Bool
is_given flag rows = option_map_or (λ t. bytes_eq t (codes "true")) (first_of flag rows) false

-- the number that a text writes, if it is one of so many bits
abbrev pub number : (bits : ℕ) → Text → Option ℕ
number bits text =
    if is_unsigned_in 0 (2 ^ bits - 1) text then Some (digits_value 10 (without_leading_plus text)) else None

-- the number that is given by this name
abbrev pub number_of : (bits : ℕ) → Text → List Row → Option ℕ
number_of bits name rows = option_and_then (number bits) (one_of name rows)

abbrev pub port_of : List Row → ℕ
port_of rows = unwrap_or (number_of 16 (codes "port") rows) 0

-- what holds where an argument is not given: a billion bytes, one connection, this machine
abbrev pub at_most_of : List Row → ℕ
at_most_of rows = unwrap_or (number_of 64 (codes "at-most") rows) 1000000000

abbrev pub connections_of : List Row → ℕ
connections_of rows = unwrap_or (number_of 32 (codes "connections") rows) 1

abbrev pub host_of : List Row → Text
host_of rows = unwrap_or (first_of (codes "host") rows) (codes "127.0.0.1")

-- nothing is waited for longer than so many seconds, where they are given
abbrev pub timeout_of : List Row → Option ℕ
timeout_of rows = number_of 32 (codes "timeout") rows

abbrev pub serving_of : List Row → Serving
serving_of rows = record {
  port = port_of rows;
  at_most = at_most_of rows;
  connections = connections_of rows;
  timeout = timeout_of rows;
}

abbrev pub server_of : List Row → Host
server_of rows = record { host = host_of rows; port = port_of rows; timeout = timeout_of rows }

-- Names are strings: waves without strings have none.
abbrev pub has_names : List Row → Bool
has_names rows = is_given (codes "vcd-names") rows && not (is_given (codes "vcd-plain") rows)

-- Without the file the flags of waves mean nothing.
abbrev pub waves_of : List Row → Option Drawn
waves_of rows =
    option_map
    (λ name. record {
      file = name;
      fails = is_given (codes "vcd-fails") rows;
      names = has_names rows;
      tdos = is_given (codes "vcd-tdo") rows;
      drives = is_given (codes "vcd-drives") rows;
      plain = is_given (codes "vcd-plain") rows;
    })
    (first_of (codes "vcd") rows)

abbrev pub log_of : List Row → Option Text
log_of rows = first_of (codes "log") rows

-- what is done by this subcommand with these arguments
abbrev pub task_of : Text → List Row → Action
task_of name rows =
    if bytes_eq name (codes "check") then checks (is_given (codes "explain") rows)
    else if bytes_eq name (codes "loop") then loops (is_given (codes "all") rows) (is_given (codes "explain") rows)
    else if bytes_eq name (codes "serve") then serves (serving_of rows) (is_given (codes "explain") rows)
    else if bytes_eq name (codes "connect")
    then connects (server_of rows) (is_given (codes "all") rows) (is_given (codes "explain") rows)
    else if bytes_eq name (codes "describe") then describes (is_given (codes "explain") rows)
    else if bytes_eq name (codes "cover")
    then covers (is_given (codes "list") rows) (is_given (codes "explain") rows)
    else if bytes_eq name (codes "diagnose") then diagnoses (log_of rows) (is_given (codes "explain") rows)
    else plays (is_given (codes "bytes") rows) (is_given (codes "all") rows) (is_given (codes "explain") rows)
    (waves_of rows)

-- what a subcommand and its arguments ask for; without any the bytes are told too
abbrev pub asked_by : Option (Text × List Row) → Asked
asked_by None = record { svf = None; board = None; task = plays true false false None }
asked_by (Some found) = record {
  svf = first_of (codes "svf") found.1;
  board = first_of (codes "board") found.1;
  task = task_of found.0 found.1;
}

-- what the words ask for, of which the first is the program's name
abbrev pub asked : List Text → Asked
asked words = asked_by (subcommand_of jt_tool words)
