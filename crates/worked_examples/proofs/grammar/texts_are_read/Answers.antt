use Rattle.worked_examples.proofs.ReadLaws.{texts_are_read, devices_are_read}
use Rattle.worked_examples.proofs.grammar.texts_are_read.Goals as goal

pub returns : goal.returns
returns c = record { entities = texts_are_read; devices = devices_are_read }
