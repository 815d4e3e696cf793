use Rattle.std.proofs.Common.{◌+◌, length, take, refl, ap, ◌∙◌}
use Rattle.std.proofs.Math.ListN.{length-set}
use Rattle.board_plan.proofs.BitLaws.{bit_more}
use Rattle.board_plan.proofs.words.written_bits.Goals as goal

pub loop-i-preserved : goal.loop-i-preserved
loop-i-preserved c =
    let cs = c.args.text.now in
    let i = c.loop-i.i in
    record {
      len = ap length c.set.ensures ∙ simp length-set c.loop-i.invariant.len;
      front = ap (λ bs. take (i + 1) bs) c.set.ensures ∙ bit_more cs c.loop-i.bits i _ _ c.loop-i.invariant.len c.loop-i-test.true refl c.loop-i.invariant.front;
    }
