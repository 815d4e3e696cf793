use Rattle.std.proofs.Common.{◌≡◌, false, take}
use Rattle.std.specs.Prelude.{fold}
use Rattle.clap.specs.Words.{app_of}
use Rattle.clap.specs.declared.builder.command.Command.TheViews.{out-Command}
use Rattle.command_line.specs.Tables.{with_argument}
use Rattle.command_line.proofs.commands.with_arguments.Given as goal

abbrev pub invariant-loop-argument : goal.invariant-loop-argument
invariant-loop-argument l = (app_of l.command ≡ fold with_argument (app_of l.initial.command) (take l.argument-index l.arguments)) × ((out-Command l.command).has_globals ≡ false)
