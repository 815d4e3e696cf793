use Rattle.std.proofs.Common.{◌-◌, ◌++◌, ℕ, List, take, drop, length, ap, ◌∙◌, arith, length-drop}
use Rattle.std.proofs.lemmas.List.{drop-drop}
use Rattle.bitbang.specs.Left.{left}
use Rattle.bitbang.proofs.BufferFills.{filled-more}
use Rattle.bitbang.proofs.step_bytes.StepBytes.fill.Goals as goal

pub loop-count-preserved : goal.loop-count-preserved
loop-count-preserved c =
    let i = c.loop-count.invariant in
    let e = c.fill_some-more.ensures.fills in
    let all = left c.args.self.now in
    let n = c.loop-count.count in
    let m = c.fill_some-more.result in
    let piece = e.filled ∙ ap (λ (l : List ℕ). take m l ++ drop m (take (length c.loop-count.buffer - n) (drop n c.loop-count.buffer))) i.rest in
    record {
      room = omega (arith, i.room, e.room, c.loop-count.auto.buffer);
      some = omega (arith, i.some, e.some, ap length i.rest, length-drop n all);
      filled = filled-more n m all c.loop-count.buffer c.args.buffer.now c.fill_some-more.new.buffer i.some i.room i.filled piece;
      rest = e.left ∙ ap (drop m) i.rest ∙ drop-drop m n all;
      whole = c.fill_some-more.ensures.whole ∙ i.whole;
    }
