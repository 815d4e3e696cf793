use Rattle.std.proofs.Common.{ap, map, ◌∙◌, rules}
use Rattle.std.proofs.lemmas.Fn.{filter_same}
use Rattle.bsdl_values.specs.InstructionView.{access_row}
use Rattle.bsdl_opcodes.specs.NameSets.{has_some}
use Rattle.bsdl_opcodes.proofs.OwnLaws.{filter_seen}
use Rattle.bsdl_opcodes.proofs.own.drop_empty.Goals as goal

pub returns : goal.returns
returns c = ap (map access_row) (filter_same _ _ _ (λ x b f' k. search rules) _ _ c.retain.ensures.filtered) ∙ filter_seen access_row has_some c.args.rows.now.items
