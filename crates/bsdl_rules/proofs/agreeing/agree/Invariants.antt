use Rattle.std.proofs.Common.{map, take}
use Rattle.std.specs.Prelude.{option_map}
use Rattle.std.specs.BTreeMap.{get_by_text}
use Rattle.bsdl_text.specs.NumberView.{value}
use Rattle.bsdl_values.specs.InstructionView.{access_row}
use Rattle.bsdl_rules.proofs.AgreeLaws.{Known}
use Rattle.bsdl_rules.proofs.agreeing.agree.Given as goal

abbrev pub invariant-loop-row : goal.invariant-loop-row
invariant-loop-row l = Known (λ q. option_map value (get_by_text l.lengths q)) (map access_row (take l.row-index l.rows))
