use Rattle.std.proofs.Common.{ℕ, List, ◌++◌, drop, length, replicate, ap, ◌∙◌, sym, arith, length-append}
use Rattle.std.proofs.lemmas.List.{length-replicate}
use Rattle.bitbang.specs.Left.{bytes_of, bytes_of_cycle}
use Rattle.bitbang.proofs.BufferFills.{most-bytes, once-more, put-more}
use Rattle.bitbang.proofs.putting.put_cycles.Goals as goal

pub put_cycle-count-requires : goal.put_cycle-count-requires
put_cycle-count-requires c =
    let i = c.loop-i.invariant in
    let cycles = replicate c.loop-i._i c.args.cycle in
    omega (arith, i.count, c.loop-i.auto.buffer, most-bytes cycles, length-replicate c.loop-i._i c.args.cycle)

pub loop-i-preserved : goal.loop-i-preserved
loop-i-preserved c =
    let i = c.loop-i.invariant in
    let cycle = c.args.cycle in
    let front = bytes_of (replicate c.loop-i._i cycle) in
    let more = once-more c.loop-i._i cycle in
    let m = c.put_cycle-count.result in
    record {
      count = omega (arith, c.put_cycle-count.ensures.count, i.count, ap length more, length-append front (bytes_of_cycle cycle));
      filled = put-more front (bytes_of_cycle cycle) c.loop-i.buffer c.args.buffer.now c.put_cycle-count.new.buffer c.loop-i.count m
          i.count c.put_cycle-count.ensures.count i.filled c.put_cycle-count.ensures.filled
          ∙ ap (λ (l : List ℕ). l ++ drop m c.args.buffer.now) (sym more);
    }
