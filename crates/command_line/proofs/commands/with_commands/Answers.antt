use Rattle.clap.specs.Words.{app_of}
use Rattle.command_line.proofs.CommandLaws.{one_command_more}
use Rattle.command_line.proofs.commands.with_commands.Goals as goal

pub loop-usage-preserved : goal.loop-usage-preserved
loop-usage-preserved c =
    let at = c.loop-usage in
    one_command_more (app_of c.args.command) c.args.usages.now at.usage-index _ at.command c.in_ok-command_of.field-0 c.in_ok-command.command c.loop-usage-test.true at.invariant c.in_ok-command.ensures
    c.in_ok-command_of.ensures.local c.in_ok-command_of.ensures.shape
