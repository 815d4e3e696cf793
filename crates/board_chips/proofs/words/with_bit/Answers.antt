use Rattle.jt_bits.proofs.PackedWords.{sets}
use Rattle.board_chips.proofs.words.with_bit.Goals as goal

pub returns-clause-here : goal.returns-clause-here
returns-clause-here c = (sets c.args.word c.args.j c.requires).here

pub returns-clause-others : goal.returns-clause-others
returns-clause-others c = λ k h apart. (sets c.args.word c.args.j c.requires).others k h apart
