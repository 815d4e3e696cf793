use Rattle.command_line.proofs.UsageRows.{usage}
use Rattle.command_line.proofs.usage.usage_is_read.Goals as goal

pub returns : goal.returns
returns c = usage
