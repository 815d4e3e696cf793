use Rattle.std.proofs.Common.{◌≡◌, ◌+◌, drop}
use Rattle.bsdl_text.specs.Plain.{plain_len}
use Rattle.bsdl_text.proofs.tokens.plain.plain_end_len.Given as goal

abbrev pub invariant-loop-at : goal.invariant-loop-at
invariant-loop-at l = plain_len l.ending l.before l.text ≡ l.at + plain_len l.ending l.last (drop l.at l.text)
