use Rattle.worked_examples.proofs.ReadLaws.{ports_are_read, values_are_read, entities_are_read}
use Rattle.worked_examples.proofs.grammar.tokens_are_read.Goals as goal

pub returns : goal.returns
returns c = record { ports = ports_are_read; values = values_are_read; entities = entities_are_read }
