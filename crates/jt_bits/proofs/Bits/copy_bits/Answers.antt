use Rattle.std.proofs.Common.{◌≡◌, ℕ, subst, arith}
use Rattle.jt_bits.proofs.Runs.{Copied, copied_none, copied_more, copied_is}
use Rattle.jt_bits.proofs.Bits.copy_bits.Goals as goal

pub loop-done-init : goal.loop-done-init
loop-done-init c = record {
  few = omega arith;
  so_far = copied_none c.args.self.now c.args.from.now c.args.at c.args.from_at;
}

pub loop-done-preserved : goal.loop-done-preserved
loop-done-preserved c = record {
  few = omega arith;
  so_far = copied_more c.args.self.now c.loop-done.self c.put_run.new.self c.args.from.now c.args.at c.args.from_at c.loop-done.done c.min-count.result c.run-bits.result
      (omega arith) (omega (arith, c.requires.to)) (omega (arith, c.requires.from)) c.run-bits.ensures c.put_run.ensures c.loop-done.invariant.so_far;
}

pub returns : goal.returns
returns c =
    let all : c.loop-done.done ≡ c.args.n = omega (arith, c.loop-done.invariant.few) in
    copied_is c.args.self.now c.loop-done.self c.args.from.now c.args.at c.args.from_at c.args.n c.requires.to c.requires.from
    (subst (λ (n : ℕ). Copied c.args.self.now c.loop-done.self c.args.from.now c.args.at c.args.from_at n) all c.loop-done.invariant.so_far)
