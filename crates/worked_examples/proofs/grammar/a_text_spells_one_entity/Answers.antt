use Rattle.worked_examples.proofs.ReadLaws.{entities_are_one, devices_are_one}
use Rattle.worked_examples.proofs.grammar.a_text_spells_one_entity.Goals as goal

pub returns : goal.returns
returns c = record { entity = entities_are_one; device = devices_are_one }
