use Rattle.std.proofs.Common.{rules}
use Rattle.command_line.proofs.request.task_of.Goals as goal

pub returns-in_default : goal.returns-in_default
returns-in_default c = search (rules, c.waves_of.ensures)
