use Rattle.std.proofs.Common.{◌≡◌, ◌^◌, ◌-◌, refl, ◌∙◌, arith}
use Rattle.std.specs.Int.{div_ceil}
use Rattle.svf_words.specs.Numbers.{number_value}
use Rattle.svf_words.proofs.NumberLaws.{pow_small, least_period, too_long, middle_large, middle_fits}
use Rattle.svf_words.proofs.numbers.period.Goals as goal

pub returns-then-number-ge48 : goal.returns-then-number-ge48
returns-then-number-ge48 c =
    least_period (number_value c.args.word.now) c.in_ok-number.number.mantissa c.in_ok-number.number.zeros c.in_ok-number.ensures.value (omega (arith, c.if-number-eq0.false)) c.if-number-ge48.true

pub returns-then-number-le11 : goal.returns-then-number-le11
returns-then-number-le11 c =
    too_long (number_value c.args.word.now) c.in_ok-number.number.mantissa c.in_ok-number.number.zeros c.in_ok-number.ensures.value (omega (arith, c.if-number-eq0.false)) c.in_ok-number.ensures.small.0 c.if-number-le11.true

pub pow-dividend-requires : goal.pow-dividend-requires
pow-dividend-requires c = pow_small _ (omega (arith, c.if-number-le11.false))

pub returns-then-period-gt-PICOSECONDS_LIMIT : goal.returns-then-period-gt-PICOSECONDS_LIMIT
returns-then-period-gt-PICOSECONDS_LIMIT c =
    let rounds : c.div_ceil-period.result ≡ div_ceil (10 ^ (48 - c.in_ok-number.number.zeros)) c.in_ok-number.number.mantissa = c.div_ceil-period.ensures ∙ rw (c.pow-dividend.ensures, c.from.ensures) refl in
    middle_large (number_value c.args.word.now) c.in_ok-number.number.mantissa c.in_ok-number.number.zeros c.in_ok-number.ensures.value c.div_ceil-period.result (omega (arith, c.if-number-eq0.false)) (omega (arith, c.if-number-ge48.false)) rounds c.if-period-gt-PICOSECONDS_LIMIT.true

pub returns-else-period-gt-PICOSECONDS_LIMIT : goal.returns-else-period-gt-PICOSECONDS_LIMIT
returns-else-period-gt-PICOSECONDS_LIMIT c =
    let rounds : c.div_ceil-period.result ≡ div_ceil (10 ^ (48 - c.in_ok-number.number.zeros)) c.in_ok-number.number.mantissa = c.div_ceil-period.ensures ∙ rw (c.pow-dividend.ensures, c.from.ensures) refl in
    middle_fits (number_value c.args.word.now) c.in_ok-number.number.mantissa c.in_ok-number.number.zeros c.in_ok-number.ensures.value c.div_ceil-period.result (omega (arith, c.if-number-eq0.false)) (omega (arith, c.if-number-ge48.false)) rounds c.if-period-gt-PICOSECONDS_LIMIT.false
