use Rattle.std.proofs.Common.{refl, sym, ◌∙◌}
use Rattle.bsdl_text.proofs.PlainFronts.{within_quotes, outside_quotes, is_other}
use Rattle.bsdl_text.proofs.tokens.plain.clear_len.Goals as goal
use Rattle.bsdl_text.proofs.tokens.plain.clear_len.Goals.{then-quoted, else-quoted}

pub returns-else-eq-clause-same : goal.returns-else-eq-clause-same
returns-else-eq-clause-same c =
    let text = c.args.text.now in
    let len = c.plain_len-len.result in
    let stop = is_other c.get.result _ text len (sym c.eq.ensures ∙ c.if-eq.false) refl c.get.ensures.lookup.1 c.get.ensures.lookup.3 in
    elim c.if-quoted.branch [
      | then-quoted w ↦ within_quotes c.args.quoted c.if-quoted.ending len text w.if-quoted.true w.ending-is c.plain_len-len.ensures.value stop
      | else-quoted w ↦ outside_quotes c.args.quoted c.if-quoted.ending len text w.ending-is c.plain_len-len.ensures.value stop
    ]
