use Rattle.std.proofs.Common.{◌+◌, ℕ, Bool, ◌∙◌, arith, if◌then◌else◌}
use Rattle.jt_bits.specs.Words.{bit_of}
use Rattle.boundary.proofs.CaptureLaws.{run_more}
use Rattle.boundary.proofs.resets.reset_all.Goals as goal

pub loop-at-preserved : goal.loop-at-preserved
loop-at-preserved c =
    let meant : ℕ → Bool = λ i. if bit_of c.args.marked.now i then bit_of c.args.disabling.now i else bit_of c.args.update.now i in
    record {
      within = omega arith;
      long = c.put_run.ensures.long ∙ c.loop-at.invariant.long;
      each = run_more meant c.loop-at.update c.put_run.new.self c.loop-at.at c.reset_word-word.result c.min-n.result
          c.put_run.ensures
          (λ j h. c.reset_word-word.ensures j (omega (arith, h))
          ∙ (λ k. if c.word_at.ensures.bits j (omega (arith, h)) k
          then c.word_at-in-loop-at.ensures.bits j (omega (arith, h)) k
          else (c.word_at-in-loop-at-2.ensures.bits j (omega (arith, h))
          ∙ c.loop-at.invariant.rest (c.loop-at.at + j) (omega (arith, h)) (omega arith)) k))
          c.loop-at.invariant.each;
      rest = λ i h more. c.put_run.ensures.above i (omega (arith, h)) (omega (arith, more))
          ∙ c.loop-at.invariant.rest i h (omega (arith, more));
    }
