use Rattle.std.proofs.Common.{sym, ◌∙◌}
use Rattle.jt_bits.proofs.PackedWords.{clears, sets}
use Rattle.board_description.proofs.blocks.with_bit.Goals as goal

pub returns-then-bit-clause-here : goal.returns-then-bit-clause-here
returns-then-bit-clause-here c = (sets c.args.word c.args.k c.requires).here ∙ sym c.if-bit.true

pub returns-then-bit-clause-others : goal.returns-then-bit-clause-others
returns-then-bit-clause-others c = (sets c.args.word c.args.k c.requires).others

pub returns-else-bit-clause-here : goal.returns-else-bit-clause-here
returns-else-bit-clause-here c = (clears c.args.word c.args.k c.requires).here ∙ sym c.if-bit.false

pub returns-else-bit-clause-others : goal.returns-else-bit-clause-others
returns-else-bit-clause-others c = (clears c.args.word c.args.k c.requires).others
