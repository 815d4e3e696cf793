use Rattle.std.proofs.Common.{◌∙◌, ap, is_some}
use Rattle.board_tables.specs.WordView.{follow}
use Rattle.board_tables.proofs.ValueLaws.{same_some}
use Rattle.board_tables.proofs.values.spells_string.Goals as goal

pub returns : goal.returns
returns c = c.is_some.ensures ∙ same_some follow c.follow_of.result ∙ ap is_some c.follow_of.ensures.string
