use Rattle.std.proofs.Common.{sym, ◌∙◌}
use Rattle.play_diagnosis.proofs.NumberLaws.{number_parts}
use Rattle.play_diagnosis.proofs.lines.number.Goals as goal

pub value-requires-clause-digits : goal.value-requires-clause-digits
value-requires-clause-digits c = (number_parts c.args.word.now (sym c.is_number.ensures ∙ c.if-is_number.true)).0

pub value-requires-clause-few : goal.value-requires-clause-few
value-requires-clause-few c = (number_parts c.args.word.now (sym c.is_number.ensures ∙ c.if-is_number.true)).1
