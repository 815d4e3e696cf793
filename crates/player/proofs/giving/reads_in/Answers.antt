use Rattle.std.proofs.Common.{◌≡◌, ◌+◌, suc, drop, slice_index_or, sym, ap, ◌∙◌, arith}
use Rattle.std.proofs.lemmas.Bool.Decides.{nat_tests}
use Rattle.player.proofs.BytesGivenOut.{is_read, one-read, reads-more}
use Rattle.player.proofs.Pieced.{drop-index}
use Rattle.player.proofs.giving.reads_in.Goals as goal
use Rattle.player.proofs.giving.reads_in.Goals.{then-byte-eq82, else-byte-eq82}

pub loop-byte-preserved : goal.loop-byte-preserved
loop-byte-preserved c =
    let i = c.loop-byte.invariant in
    let l = c.args.bytes.now in
    let n = c.loop-byte.byte-index in
    let b = slice_index_or l n 0 in
    let more = reads-more n l b (drop (suc n) l) (drop-index n l c.loop-byte-test.true) in
    let counted : c.if-byte-eq82.asked ≡ c.loop-byte.asked + is_read b =
    elim c.if-byte-eq82.branch [
      | then-byte-eq82 w ↦ w.asked-is ∙ ap (λ x. c.loop-byte.asked + is_read x) (sym w.if-byte-eq82.true)
      | else-byte-eq82 w ↦ grind (arith, nat_tests, w.asked-is, w.if-byte-eq82.false)
    ] in
    record {
      asked = omega (arith, more, i.asked, counted);
      most = omega (arith, i.most, counted, one-read b);
    }
