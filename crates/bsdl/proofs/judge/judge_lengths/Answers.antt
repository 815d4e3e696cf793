use Rattle.std.proofs.Common.{ap, sym, ◌∙◌}
use Rattle.bsdl.specs.Judging.{unless}
use Rattle.bsdl_description.specs.Describing.{bad_length}
use Rattle.bsdl.proofs.judge.judge_lengths.Goals as goal

pub returns : goal.returns
returns c = ap (λ ok. unless ok bad_length) (sym (c.in_ok-lengths_fit.ensures c.args.outline.now) ∙ c.if-not-branch.false)

pub returns-then-not-branch : goal.returns-then-not-branch
returns-then-not-branch c = ap (λ ok. unless ok bad_length) (sym (c.in_ok-lengths_fit.ensures c.args.outline.now) ∙ c.if-not-branch.true)
