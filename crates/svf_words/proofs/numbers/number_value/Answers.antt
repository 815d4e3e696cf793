use Rattle.std.proofs.Common.{◌*◌, ◌+◌, ◌-◌, ◌^◌, Bool, if◌then◌else◌, Ok, length, ap, ◌∙◌, arith}
use Rattle.svf_words.proofs.Digits.{room_at_start}
use Rattle.svf_words.proofs.NumberLaws.{number_is, room_after}
use Rattle.svf_words.proofs.numbers.number_value.Goals as goal

pub digits_after-whole-requires-clause-room : goal.digits_after-whole-requires-clause-room
digits_after-whole-requires-clause-room c = room_at_start (length c.in-Some.spelt.whole.now) (omega arith)

pub digits_after-mantissa-requires-clause-room : goal.digits_after-mantissa-requires-clause-room
digits_after-mantissa-requires-clause-room c =
    room_after c.digits_after-whole.result (length c.in-Some.spelt.whole.now) (length c.in-Some.spelt.fraction.now) c.digits_after-whole.ensures.bound c.if-spelt-gt-DIGITS_LIMIT.false

pub returns-then-spelt-clause-value : goal.returns-then-spelt-clause-value
returns-then-spelt-clause-value c =
    number_is c.args.word.now _ c.digits_after-whole.result c.capped_value-exponent.result c.digits_after-mantissa.result c.in-Some.ensures.value c.if-spelt-gt-DIGITS_LIMIT.false
    c.capped_value-exponent.ensures c.if-exponent-gt-EXPONENT_LIMIT.false c.digits_after-whole.ensures.value c.digits_after-mantissa.ensures.value
    ∙ ap (λ (b : Bool). Ok (c.digits_after-mantissa.result * 10 ^ (if b then 36 - length c.in-Some.spelt.fraction.now - c.capped_value-exponent.result else 36 - length c.in-Some.spelt.fraction.now + c.capped_value-exponent.result))) c.if-spelt.true

pub returns-else-spelt-clause-value : goal.returns-else-spelt-clause-value
returns-else-spelt-clause-value c =
    number_is c.args.word.now _ c.digits_after-whole.result c.capped_value-exponent.result c.digits_after-mantissa.result c.in-Some.ensures.value c.if-spelt-gt-DIGITS_LIMIT.false
    c.capped_value-exponent.ensures c.if-exponent-gt-EXPONENT_LIMIT.false c.digits_after-whole.ensures.value c.digits_after-mantissa.ensures.value
    ∙ ap (λ (b : Bool). Ok (c.digits_after-mantissa.result * 10 ^ (if b then 36 - length c.in-Some.spelt.fraction.now - c.capped_value-exponent.result else 36 - length c.in-Some.spelt.fraction.now + c.capped_value-exponent.result))) c.if-spelt.false
