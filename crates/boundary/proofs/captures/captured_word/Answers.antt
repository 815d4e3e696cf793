use Rattle.boundary.proofs.CaptureLaws.{word_bit}
use Rattle.boundary.proofs.captures.captured_word.Goals as goal

pub returns : goal.returns
returns c = λ j h.
    word_bit c.args.sighted c.args.inner c.args.seen c.args.held c.args.core j c.ranges.sighted.fits c.ranges.inner.fits h
