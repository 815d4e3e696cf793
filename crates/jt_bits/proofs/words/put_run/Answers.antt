use Rattle.std.proofs.Common.{◌≡◌, length, inl, inr, arith}
use Rattle.jt_bits.proofs.Runs.{run_even, run_odd, marks_of}
use Rattle.jt_bits.proofs.words.put_run.Goals as goal
use Rattle.jt_bits.proofs.words.put_run.Goals.{then-k-words, else-k-words}

pub returns-after-k-words : goal.returns-after-k-words
returns-after-k-words c =
    let kept : length c.put_masked.new.words ≡ length c.args.words.now = c.put_masked.auto.words in
    run_odd c.args.words.now c.put_masked.new.words c.put_masked-then-below-gt0.new.words c.args.place c.args.bits c.args.n c.lowest_bits-mask.result c.requires.inside c.requires.few
    c.lowest_bits-mask.type_inv (marks_of c.lowest_bits-mask.result c.args.n c.lowest_bits-mask.ensures) c.put_masked.ensures
    c.if-k-words.next (omega arith)
    (elim c.if-k-words.branch [
      | then-k-words w ↦ inl (omega (arith, kept, w.if-k-words.true), w.next-is)
      | else-k-words w ↦ inr (λ e. w.if-k-words.false (omega arith), w.next-is)
    ])
    c.put_masked-then-below-gt0.ensures

pub returns-else-below-gt0 : goal.returns-else-below-gt0
returns-else-below-gt0 c =
    run_even c.args.words.now c.put_masked.new.words c.put_masked.new.words c.args.place c.args.bits c.args.n c.lowest_bits-mask.result c.requires.inside c.requires.few
    c.lowest_bits-mask.type_inv (marks_of c.lowest_bits-mask.result c.args.n c.lowest_bits-mask.ensures) c.put_masked.ensures (omega arith)
