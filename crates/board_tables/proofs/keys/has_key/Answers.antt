use Rattle.std.proofs.Common.{◌∙◌}
use Rattle.board_tables.proofs.ValueLaws.{has_member}
use Rattle.board_tables.proofs.keys.has_key.Goals as goal

pub returns : goal.returns
returns c = c.contains_key.ensures ∙ has_member c.args.key.now c.args.table.now.entries
