use Rattle.boundary.proofs.ResetLaws.{word_bit}
use Rattle.boundary.proofs.resets.reset_word.Goals as goal

pub returns : goal.returns
returns c = λ j h. word_bit c.args.marked c.args.disabling c.args.update j c.ranges.marked.fits h
