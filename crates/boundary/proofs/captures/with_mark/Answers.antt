use Rattle.std.proofs.Common.{sym, ◌∙◌}
use Rattle.jt_bits.proofs.PackedWords.{sets}
use Rattle.boundary.proofs.captures.with_mark.Goals as goal

pub returns-then-is_marked-clause-here : goal.returns-then-is_marked-clause-here
returns-then-is_marked-clause-here c none = (sets c.args.word c.args.j c.requires).here ∙ sym c.if-is_marked.true

pub returns-then-is_marked-clause-others : goal.returns-then-is_marked-clause-others
returns-then-is_marked-clause-others c = λ k h apart. (sets c.args.word c.args.j c.requires).others k h apart
