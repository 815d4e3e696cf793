use Rattle.std.proofs.Common.{◌∙◌}
use Rattle.std.proofs.lemmas.List.{take_rest}
use Rattle.bsdl_text.proofs.SpellingLaws.{behind_zeros}
use Rattle.bsdl_text.proofs.digits.behind_zeros.Goals as goal

pub returns : goal.returns
returns c = take_rest c.args.digits.now c.zeros.result ∙ rw c.zeros.ensures.value (behind_zeros c.args.digits.now)
