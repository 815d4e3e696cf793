use Rattle.jt_bits.proofs.PackedWords.{bit_read}
use Rattle.play_drawing.proofs.drawing.shifting.bit.Goals as goal

pub returns : goal.returns
returns c = bit_read c.args.word c.args.j
