use Rattle.clap.specs.Words.{app_of}
use Rattle.command_line.proofs.CommandLaws.{no_globals, one_argument_more}
use Rattle.command_line.proofs.commands.with_arguments.Goals as goal

pub loop-argument-preserved : goal.loop-argument-preserved
loop-argument-preserved c =
    let at = c.loop-argument in (
      one_argument_more (app_of c.args.command) c.args.arguments.now at.argument-index _ at.command c.in_ok-command.command c.arg_of.result c.loop-argument-test.true at.invariant.0
          c.in_ok-command.ensures c.arg_of.ensures.local c.arg_of.ensures.rule,
      no_globals at.command c.in_ok-command.command c.arg_of.result c.in_ok-command.ensures c.arg_of.ensures.local at.invariant.1,
    )
