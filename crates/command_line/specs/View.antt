-- A request of the code, as what it asks for.
use Rattle.std.specs.Prelude.{option_map}
use Rattle.command_line.specs.Asking as asking
use Rattle.command_line.specs.Asking.{Action, Asked, Drawn, Host}
use Rattle.command_line.specs.declared.request.Request.{Request}
use Rattle.command_line.specs.declared.request.Server.{Server}
use Rattle.command_line.specs.declared.request.Task.{Task}
use Rattle.command_line.specs.declared.request.Task.TheVariants.{Play, Check, Loop, Serve, Connect, Describe, Cover}
use Rattle.command_line.specs.declared.request.Task.TheVariants.{Diagnose}
use Rattle.command_line.specs.declared.request.Waves.{Waves}

abbrev pub server_view : Server → Host
server_view s = record { host = s.host.now; port = s.port; timeout = s.timeout }

abbrev pub waves_view : Waves → Drawn
waves_view w = record {
  file = w.file.now;
  fails = w.fails;
  names = w.names;
  tdos = w.tdos;
  drives = w.drives;
  plain = w.plain;
}

abbrev pub action_of : Task → Action
action_of (Play bytes all explain vcd) = asking.plays bytes all explain (option_map waves_view vcd)
action_of (Check explain) = asking.checks explain
action_of (Loop all explain) = asking.loops all explain
action_of (Serve how explain) = asking.serves how explain
action_of (Connect server all explain) = asking.connects (server_view server) all explain
action_of (Describe explain) = asking.describes explain
action_of (Cover listed explain) = asking.covers listed explain
action_of (Diagnose log explain) = asking.diagnoses (option_map (λ s. s.now) log) explain

abbrev pub asked_of : Request → Asked
asked_of r = record {
  svf = option_map (λ s. s.now) r.svf;
  board = option_map (λ s. s.now) r.board;
  task = action_of r.task;
}
