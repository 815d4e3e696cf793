use Rattle.std.proofs.Common.{ℕ, Bool, ◌∙◌, arith}
use Rattle.jt_bits.specs.Words.{bit_of}
use Rattle.boundary.specs.Masks.{chosen}
use Rattle.boundary.proofs.CaptureLaws.{run_more}
use Rattle.boundary.proofs.captures.capture_all.Goals as goal

pub loop-at-preserved : goal.loop-at-preserved
loop-at-preserved c =
    let masks = c.args.masks.now in
    let meant : ℕ → Bool = λ i. chosen (bit_of masks.sighted i) (bit_of masks.inner i) (bit_of c.args.seen.now i)
    (bit_of c.args.held.now i) (bit_of c.args.core.now i) in
    record {
      within = omega arith;
      long = c.put_run.ensures.long ∙ c.loop-at.invariant.long;
      each = run_more meant c.loop-at.stage c.put_run.new.self c.loop-at.at c.captured_word-word.result c.min-n.result
          c.put_run.ensures
          (λ j h. c.captured_word-word.ensures j (omega (arith, h))
          ∙ (λ k. chosen (c.word_at.ensures.bits j (omega (arith, h)) k)
          (c.word_at-in-loop-at.ensures.bits j (omega (arith, h)) k)
          (c.word_at-in-loop-at-2.ensures j (omega (arith, h)) k)
          (c.word_at-in-loop-at-3.ensures.bits j (omega (arith, h)) k)
          (c.word_at-in-loop-at-4.ensures.bits j (omega (arith, h)) k)))
          c.loop-at.invariant.each;
    }
