use Rattle.std.proofs.Common.{◌∙◌, ap, Some}
use Rattle.board_parts.proofs.IndexLaws.{read_index, no_index}
use Rattle.board_parts.proofs.pins.index_of.Goals as goal

-- src/pins.rt:82:1
pub returns-in-Ok : goal.returns-in-Ok
returns-in-Ok c = ap Some c.from.ensures ∙ read_index c.args.digits.now c.parse.result c.in-Ok.index c.requires c.parse.ensures.value.0 c.in-Ok.is

-- src/pins.rt:82:1
pub returns-in-Err : goal.returns-in-Err
returns-in-Err c = no_index c.args.digits.now c.parse.result c.in-Err.field-0 c.requires c.parse.ensures.value.0 c.in-Err.is
