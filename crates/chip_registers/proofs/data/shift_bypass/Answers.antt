use Rattle.std.proofs.Common.{◌≡◌, ◌∷◌, ℕ, drop, sym, ap, arith}
use Rattle.jt_bits.specs.Words.{word_bits}
use Rattle.chip_registers.proofs.DataLaws.{bypass_out, bypass_holds}
use Rattle.chip_registers.proofs.data.shift_bypass.Goals as goal

pub returns-then-n-gt0-clause-out : goal.returns-then-n-gt0-clause-out
returns-then-n-gt0-clause-out c =
    bypass_out c.args.bypass.now c.args.bits c.from.result c.args.n c.requires c.from.ensures

pub returns-then-n-gt0-clause-bit : goal.returns-then-n-gt0-clause-bit
returns-then-n-gt0-clause-bit c = bypass_holds c.args.bypass.now c.args.bits c.args.n c.if-n-gt0.true

pub returns-else-n-gt0-clause-out : goal.returns-else-n-gt0-clause-out
returns-else-n-gt0-clause-out c =
    bypass_out c.args.bypass.now c.args.bits c.from.result c.args.n c.requires c.from.ensures

pub returns-else-n-gt0-clause-bit : goal.returns-else-n-gt0-clause-bit
unfolding word_bits
returns-else-n-gt0-clause-bit c =
    let none : c.args.n ≡ 0 = omega (arith, c.if-n-gt0.false) in
    sym (ap (λ (k : ℕ). drop k (c.args.bypass.now ∷ word_bits c.args.bits k)) none)
