use Rattle.svf_words.proofs.Digits.{digits_taken}
use Rattle.svf_words.proofs.numbers.split_digits.Goals as goal

pub returns-clause-digits : goal.returns-clause-digits
returns-clause-digits c = rw (c.split_at.ensures.front, c.digits_len.ensures.value) (digits_taken c.args.text.now)
