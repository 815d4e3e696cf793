use Rattle.std.proofs.Common.{◌<◌, ℕ, List, length, ap, subst, sym, slice_index, ◌+◌, arith}
use Rattle.std.proofs.lemmas.List.{length_push}
use Rattle.board_loops.specs.Marks.{IsCount}
use Rattle.board_loops.proofs.NumberLaws.{count_push, counts_lowered}
use Rattle.board_loops.proofs.net_loops.numbers.independent_counts.Goals as goal

pub loop-net-preserved : goal.loop-net-preserved
loop-net-preserved c =
    let counts = c.loop-net.counts.items in
    let count = c.in_ok-independent_count.field-0 in
    let net = c.loop-net.net in
    record {
      long = omega (arith, ap length c.in_ok-push.ensures.items, length_push counts count, c.loop-net.invariant.long);
      counts = subst (λ (l : List ℕ). (k : ℕ) → k < net + 1 → IsCount c.args.strings.now c.args.nets k (slice_index l k)) (sym {A = List ℕ} c.in_ok-push.ensures.items)
          (count_push (IsCount c.args.strings.now c.args.nets) counts net count c.loop-net.invariant.long c.loop-net.invariant.counts c.in_ok-independent_count.ensures);
    }

pub returns-clause-lowered : goal.returns-clause-lowered
returns-clause-lowered c = λ free. counts_lowered c.args.strings.now c.args.nets c.loop-net.counts.items c.requires free (λ net low. c.loop-net.invariant.counts net (omega (arith, low)))
