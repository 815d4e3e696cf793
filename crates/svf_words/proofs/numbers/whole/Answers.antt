use Rattle.std.proofs.Common.{◌≡◌, ◌%◌, ap, sym, ◌∙◌, arith}
use Rattle.svf_words.proofs.NumberLaws.{pow_small, power_positive, whole_up, whole_down, broken_down}
use Rattle.svf_words.proofs.numbers.whole.Goals as goal

pub returns-then-zeros-ge36 : goal.returns-then-zeros-ge36
returns-then-zeros-ge36 c = rw (c.from-mantissa.ensures, c.pow.ensures) (whole_up c.args.mantissa c.args.zeros c.if-zeros-ge36.true)

pub pow-divisor-requires : goal.pow-divisor-requires
pow-divisor-requires c = pow_small _ (omega arith)

pub nonzero_rem-mantissa : goal.nonzero_rem-mantissa
nonzero_rem-mantissa c = rw c.pow-divisor.ensures (power_positive _)

pub nonzero_div-result : goal.nonzero_div-result
nonzero_div-result c = rw c.pow-divisor.ensures (power_positive _)

pub returns-then-mantissa-divisor-eq0 : goal.returns-then-mantissa-divisor-eq0
returns-then-mantissa-divisor-eq0 c =
    let none : c.args.mantissa % c.pow-divisor.result ≡ 0 = ap (λ m. m % c.pow-divisor.result) (sym c.from-mantissa.ensures) ∙ c.if-mantissa-divisor-eq0.true in
    rw c.from-mantissa.ensures (whole_down c.args.mantissa c.args.zeros c.pow-divisor.result c.if-zeros-ge36.false c.pow-divisor.ensures none)

pub returns-else-mantissa-divisor-eq0 : goal.returns-else-mantissa-divisor-eq0
returns-else-mantissa-divisor-eq0 c =
    broken_down c.args.mantissa c.args.zeros c.pow-divisor.result c.if-zeros-ge36.false c.pow-divisor.ensures
    (λ none. c.if-mantissa-divisor-eq0.false (ap (λ m. m % c.pow-divisor.result) c.from-mantissa.ensures ∙ none))
