use Rattle.jt_bits.proofs.PackedWords.{bit_read}
use Rattle.player.proofs.word_ahead.has_one.Goals as goal

pub returns : goal.returns
returns c = bit_read c.args.word c.args.j
