use Rattle.svf_words.proofs.WrittenLaws.{reads_what_is_written}
use Rattle.svf_words.proofs.number_laws.numbers_are_read_as_they_are_written.Goals as goal

pub returns : goal.returns
returns c = reads_what_is_written
