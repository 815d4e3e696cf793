use Rattle.board_tables.proofs.SpellLaws.{read_as_spelt}
use Rattle.board_tables.proofs.word_laws.pins_are_read_as_spelt.Goals as goal

pub returns : goal.returns
returns c = read_as_spelt
