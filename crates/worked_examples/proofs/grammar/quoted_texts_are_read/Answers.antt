use Rattle.worked_examples.proofs.ReadLaws.{opcodes_are_read, patterns_are_read, codes_are_read, private_names_are_read, accesses_are_read, cells_are_read}
use Rattle.worked_examples.proofs.grammar.quoted_texts_are_read.Goals as goal

pub returns : goal.returns
returns c = record { opcodes = opcodes_are_read; patterns = patterns_are_read; codes = codes_are_read; private_names = private_names_are_read; accesses = accesses_are_read; cells = cells_are_read }
