use Rattle.std.proofs.Common.{◌≡◌, take}
use Rattle.std.specs.Prelude.{fold}
use Rattle.clap.specs.Words.{app_of}
use Rattle.command_line.specs.Tables.{with_command}
use Rattle.command_line.proofs.commands.with_commands.Given as goal

abbrev pub invariant-loop-usage : goal.invariant-loop-usage
invariant-loop-usage l = app_of l.command ≡ fold with_command (app_of l.initial.command) (take l.usage-index l.usages)
