-- Command lines, and what each asks for or by which kinds it is refused.
use Rattle.std.specs.Prelude.{◌≡◌, Bool, true, false, List, [], ◌∷◌, Option, Some, None, codes}
use Rattle.clap.specs.Words.{Kinds, Text, fault_of}
use Rattle.clap.specs.declared.error.kind.ErrorKind.TheVariants as kind
use Rattle.command_line.specs.Asking.{Action, Asked, Drawn, asked, checks, connects, covers, describes}
use Rattle.command_line.specs.Asking.{diagnoses, jt_tool, loops, plays, serves}

-- the command line is taken, and asks for this
abbrev pub Asks : List Text → Asked → Type 0
Asks words what = (fault_of jt_tool (codes "jt_tool" ∷ words) ≡ []) × (asked (codes "jt_tool" ∷ words) ≡ what)

-- the command line is refused, by these kinds
abbrev pub IsRefused : List Text → Kinds → Type 0
IsRefused words kinds = fault_of jt_tool (codes "jt_tool" ∷ words) ≡ kinds

-- a file, a board file, and what is done
abbrev pub request : Option Text → Option Text → Action → Asked
request svf board what = record { svf = svf; board = board; task = what }

abbrev pub file : Text
file = codes "a.svf"

abbrev pub board : Text
board = codes "b.toml"

abbrev pub waves : (fails plain : Bool) → Drawn
waves fails plain = record {
  file = codes "a.vcd";
  fails = fails;
  names = false;
  tdos = false;
  drives = false;
  plain = plain;
}

pub record UsageRows : Type 0 where
  pub no_words : Asks [] (request None None (plays true false false None))
  pub play : Asks (codes "play" ∷ []) (request None None (plays false false false None))
  pub play_file : Asks (codes "play" ∷ file ∷ []) (request (Some file) None (plays false false false None))
  pub play_bytes : Asks (codes "play" ∷ file ∷ codes "--bytes" ∷ [])
      (request (Some file) None (plays true false false None))
  pub play_board : Asks (codes "play" ∷ file ∷ codes "--board" ∷ board ∷ [])
      (request (Some file) (Some board) (plays false false false None))
  pub board_first : Asks (codes "play" ∷ codes "--board=b.toml" ∷ file ∷ [])
      (request (Some file) (Some board) (plays false false false None))
  pub dashed_file : Asks (codes "play" ∷ codes "--" ∷ codes "-a.svf" ∷ [])
      (request (Some (codes "-a.svf")) None (plays false false false None))
  pub check : Asks (codes "check" ∷ []) (request None None (checks false))
  pub check_file : Asks (codes "check" ∷ file ∷ codes "--board" ∷ board ∷ [])
      (request (Some file) (Some board) (checks false))
  pub check_explain : Asks (codes "check" ∷ codes "--explain" ∷ file ∷ [])
      (request (Some file) None (checks true))
  pub play_all : Asks (codes "play" ∷ codes "--all" ∷ file ∷ codes "--bytes" ∷ [])
      (request (Some file) None (plays true true false None))
  pub loop_all : Asks (codes "loop" ∷ file ∷ codes "--all" ∷ []) (request (Some file) None (loops true false))
  pub connect_all : Asks (codes "connect" ∷ file ∷ codes "--all" ∷ codes "--port=1" ∷ [])
      (request (Some file) None (connects (record { host = codes "127.0.0.1"; port = 1; timeout = None }) true false))
  pub play_explain : Asks (codes "play" ∷ codes "--explain" ∷ file ∷ [])
      (request (Some file) None (plays false false true None))
  pub play_all_explain : Asks (codes "play" ∷ file ∷ codes "--explain" ∷ codes "--all" ∷ [])
      (request (Some file) None (plays false true true None))
  pub play_vcd : Asks (codes "play" ∷ file ∷ codes "--vcd" ∷ codes "a.vcd" ∷ [])
      (request (Some file) None (plays false false false (Some (waves false false))))
  pub play_vcd_fails : Asks (codes "play" ∷ file ∷ codes "--vcd-fails" ∷ codes "--vcd=a.vcd" ∷ [])
      (request (Some file) None (plays false false false (Some (waves true false))))
  pub play_vcd_plain : Asks (codes "play" ∷ codes "--vcd" ∷ codes "a.vcd" ∷ codes "--vcd-plain" ∷ file ∷ [])
      (request (Some file) None (plays false false false (Some (waves false true))))
  pub play_vcd_both : Asks
      (codes "play" ∷ codes "--vcd-plain" ∷ codes "--all" ∷ codes "--vcd=a.vcd" ∷ codes "--vcd-fails" ∷ [])
      (request None None (plays false true false (Some (waves true true))))
  pub play_vcd_names : Asks (codes "play" ∷ codes "--vcd-names" ∷ file ∷ codes "--vcd" ∷ codes "a.vcd" ∷ [])
      (request (Some file) None (plays false false false (Some (record (waves false false) { names = true }))))
  pub play_vcd_tdo : Asks (codes "play" ∷ file ∷ codes "--vcd=a.vcd" ∷ codes "--vcd-tdo" ∷ [])
      (request (Some file) None (plays false false false (Some (record (waves false false) { tdos = true }))))
  pub play_vcd_drives : Asks (codes "play" ∷ codes "--vcd-drives" ∷ codes "--vcd=a.vcd" ∷ file ∷ [])
      (request (Some file) None (plays false false false (Some (record (waves false false) { drives = true }))))
  pub play_vcd_every_flag : Asks
      (codes "play" ∷ codes "--vcd-tdo" ∷ codes "--vcd-plain" ∷ codes "--vcd-names" ∷ codes "--vcd=a.vcd"
      ∷ codes "--vcd-drives" ∷ codes "--vcd-fails" ∷ [])
      (request None None
      (plays false false false (Some (record (waves true true) { tdos = true; drives = true }))))
  pub names_of_no_waves : Asks (codes "play" ∷ codes "--vcd-names" ∷ codes "--vcd-tdo" ∷ [])
      (request None None (plays false false false None))
  pub check_draws_no_names : IsRefused (codes "check" ∷ codes "--vcd-names" ∷ []) (kind.UnknownArgument ∷ [])
  pub check_draws_no_drives : IsRefused (codes "check" ∷ codes "--vcd-drives" ∷ []) (kind.UnknownArgument ∷ [])
  pub loop_draws_no_tdo : IsRefused (codes "loop" ∷ codes "--vcd-tdo" ∷ []) (kind.UnknownArgument ∷ [])
  pub fails_of_no_waves : Asks (codes "play" ∷ codes "--vcd-fails" ∷ codes "--vcd-plain" ∷ [])
      (request None None (plays false false false None))
  pub check_draws_no_fails : IsRefused (codes "check" ∷ codes "--vcd-fails" ∷ []) (kind.UnknownArgument ∷ [])
  pub vcd_of_no_name : IsRefused (codes "play" ∷ codes "--vcd" ∷ []) (kind.InvalidValue ∷ [])
  pub check_draws_nothing : IsRefused (codes "check" ∷ codes "--vcd=a.vcd" ∷ []) (kind.UnknownArgument ∷ [])
  pub loop_draws_nothing : IsRefused (codes "loop" ∷ codes "--vcd=a.vcd" ∷ []) (kind.UnknownArgument ∷ [])
  pub loop_explain : Asks (codes "loop" ∷ file ∷ codes "--explain" ∷ []) (request (Some file) None (loops false true))
  pub connect_explain : Asks (codes "connect" ∷ file ∷ codes "--explain" ∷ codes "--port=1" ∷ [])
      (request (Some file) None (connects (record { host = codes "127.0.0.1"; port = 1; timeout = None }) false true))
  pub serve_explain : Asks (codes "serve" ∷ codes "--explain" ∷ codes "--board=b.toml" ∷ codes "--port=1" ∷ [])
      (request None (Some board)
      (serves (record { port = 1; at_most = 1000000000; connections = 1; timeout = None }) true))
  pub describe_explain : Asks (codes "describe" ∷ codes "--board" ∷ board ∷ codes "--explain" ∷ [])
      (request None (Some board) (describes true))
  pub cover_explain : Asks (codes "cover" ∷ codes "--board=b.toml" ∷ codes "--explain" ∷ [])
      (request None (Some board) (covers false true))
  pub check_plays_nothing : IsRefused (codes "check" ∷ codes "--all" ∷ []) (kind.UnknownArgument ∷ [])
  pub no_subcommand : IsRefused (file ∷ []) (kind.UnknownArgument ∷ kind.InvalidSubcommand ∷ [])
  pub check_tells_no_bytes : IsRefused (codes "check" ∷ codes "--bytes" ∷ []) (kind.UnknownArgument ∷ [])
  pub board_of_no_name : IsRefused (codes "play" ∷ codes "--board" ∷ []) (kind.InvalidValue ∷ [])
  pub board_twice : IsRefused (codes "play" ∷ codes "--board=b" ∷ codes "--board=b" ∷ []) (kind.ArgumentConflict ∷ [])
  pub two_files : IsRefused (codes "play" ∷ file ∷ file ∷ []) (kind.UnknownArgument ∷ [])
  pub asks_for_help : IsRefused (codes "--help" ∷ []) (kind.DisplayHelp ∷ [])
  pub asks_for_a_commands_help : IsRefused (codes "cover" ∷ codes "-h" ∷ []) (kind.DisplayHelp ∷ [])
  pub asks_for_the_version : IsRefused (codes "--version" ∷ []) (kind.DisplayVersion ∷ [])
  pub asks_for_the_version_in_short : IsRefused (codes "-V" ∷ []) (kind.DisplayVersion ∷ [])
  pub a_command_has_no_version : IsRefused (codes "play" ∷ codes "--version" ∷ []) (kind.UnknownArgument ∷ [])
  pub loop_file : Asks (codes "loop" ∷ file ∷ codes "--board=b.toml" ∷ [])
      (request (Some file) (Some board) (loops false false))
  pub serve : Asks (codes "serve" ∷ codes "--board=b.toml" ∷ codes "--port" ∷ codes "5555" ∷ [])
      (request None (Some board)
      (serves (record { port = 5555; at_most = 1000000000; connections = 1; timeout = None }) false))
  pub serve_bounds : Asks
      (codes "serve" ∷ codes "--port=1" ∷ codes "--at-most=0" ∷ codes "--connections=1000" ∷ codes "--timeout=86400"
      ∷ codes "--board=b.toml" ∷ [])
      (request None (Some board)
      (serves (record { port = 1; at_most = 0; connections = 1000; timeout = Some 86400 }) false))
  pub connect : Asks (codes "connect" ∷ file ∷ codes "--port=65535" ∷ [])
      (request (Some file) None
      (connects (record { host = codes "127.0.0.1"; port = 65535; timeout = None }) false false))
  pub connect_host : Asks (codes "connect" ∷ codes "--port=5555" ∷ codes "--host=bench" ∷ codes "--timeout=1" ∷ [])
      (request None None (connects (record { host = codes "bench"; port = 5555; timeout = Some 1 }) false false))
  pub loop_tells_no_bytes : IsRefused (codes "loop" ∷ codes "--bytes" ∷ []) (kind.UnknownArgument ∷ [])
  pub describe : Asks (codes "describe" ∷ codes "--board" ∷ board ∷ []) (request None (Some board) (describes false))
  pub describe_without_board : IsRefused (codes "describe" ∷ []) (kind.MissingRequiredArgument ∷ [])
  pub describe_plays_nothing : IsRefused (codes "describe" ∷ file ∷ codes "--board=b.toml" ∷ [])
      (kind.UnknownArgument ∷ [])
  pub cover : Asks (codes "cover" ∷ file ∷ codes "--board" ∷ board ∷ [])
      (request (Some file) (Some board) (covers false false))
  pub cover_list : Asks (codes "cover" ∷ codes "--list" ∷ codes "--board=b.toml" ∷ [])
      (request None (Some board) (covers true false))
  pub cover_without_board : IsRefused (codes "cover" ∷ file ∷ []) (kind.MissingRequiredArgument ∷ [])
  pub diagnose : Asks (codes "diagnose" ∷ file ∷ codes "--board" ∷ board ∷ [])
      (request (Some file) (Some board) (diagnoses None false))
  pub diagnose_log : Asks
      (codes "diagnose" ∷ codes "--log=a.log" ∷ file ∷ codes "--explain" ∷ codes "--board=b.toml" ∷ [])
      (request (Some file) (Some board) (diagnoses (Some (codes "a.log")) true))
  pub diagnose_without_file : IsRefused (codes "diagnose" ∷ codes "--board=b.toml" ∷ codes "--log=a.log" ∷ [])
      (kind.MissingRequiredArgument ∷ [])
  pub diagnose_without_board : IsRefused (codes "diagnose" ∷ file ∷ []) (kind.MissingRequiredArgument ∷ [])
  pub play_reads_no_log : IsRefused (codes "play" ∷ file ∷ codes "--log=a.log" ∷ []) (kind.UnknownArgument ∷ [])
  pub play_lists_nothing : IsRefused (codes "play" ∷ codes "--list" ∷ []) (kind.UnknownArgument ∷ [])
  pub serve_without_board : IsRefused (codes "serve" ∷ codes "--port=5555" ∷ []) (kind.MissingRequiredArgument ∷ [])
  pub connect_without_port : IsRefused (codes "connect" ∷ file ∷ []) (kind.MissingRequiredArgument ∷ [])
  pub no_port : IsRefused (codes "connect" ∷ codes "--port=0" ∷ []) (kind.ValueValidation ∷ [])
  pub no_such_port : IsRefused (codes "connect" ∷ codes "--port=65536" ∷ []) (kind.ValueValidation ∷ [])
  pub a_word_for_a_port : IsRefused (codes "connect" ∷ codes "--port=x" ∷ []) (kind.ValueValidation ∷ [])
  pub too_many_bytes : IsRefused
      (codes "serve" ∷ codes "--board=b.toml" ∷ codes "--port=1" ∷ codes "--at-most=1000000000001" ∷ [])
      (kind.ValueValidation ∷ [])
