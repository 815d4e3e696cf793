use Rattle.std.proofs.Common.{sym, ◌∙◌}
use Rattle.board_faults.proofs.WordBits.{set_here, set_others}
use Rattle.fault_serving.proofs.planing.with_bit.Goals as goal

pub returns-then-bit-clause-here : goal.returns-then-bit-clause-here
returns-then-bit-clause-here c = set_here c.args.word c.args.k c.requires.below ∙ sym c.if-bit.true

pub returns-then-bit-clause-others : goal.returns-then-bit-clause-others
returns-then-bit-clause-others c = λ j h apart. set_others c.args.word c.args.k j c.requires.below apart
