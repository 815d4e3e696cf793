use Rattle.std.proofs.Common.{◌∙◌, ap, is_some}
use Rattle.board_parts.proofs.StringLaws.{cell_there}
use Rattle.board_parts.proofs.strings.has_cell.Goals as goal

pub returns : goal.returns
returns c = c.is_some.ensures ∙ ap is_some c.place.ensures ∙ cell_there c.args.cell c.args.cells.now
