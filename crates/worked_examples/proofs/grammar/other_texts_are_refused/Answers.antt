use Rattle.worked_examples.proofs.RefusalLaws.{large_is_refused, bad_byte_is_refused, nothing_is_refused, each_is_told}
use Rattle.worked_examples.proofs.grammar.other_texts_are_refused.Goals as goal

pub returns : goal.returns
returns c = record { size = large_is_refused; byte = bad_byte_is_refused; form = nothing_is_refused; each = each_is_told }
