use Rattle.std.proofs.Common.{arith}
use Rattle.svf_words.specs.Numbers.{number_value}
use Rattle.svf_words.proofs.NumberLaws.{long_time}
use Rattle.svf_words.proofs.numbers.time.Goals as goal

pub returns-then-number-gt42 : goal.returns-then-number-gt42
returns-then-number-gt42 c =
    long_time (number_value c.args.word.now) c.in_ok-number.number.mantissa c.in_ok-number.number.zeros c.in_ok-number.ensures.value (omega (arith, c.if-number-eq0.false)) c.if-number-gt42.true
