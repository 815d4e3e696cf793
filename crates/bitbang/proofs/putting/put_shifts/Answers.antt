use Rattle.std.proofs.Common.{ℕ, List, ◌++◌, drop, length, map, ap, ◌∙◌, sym, arith, length-append}
use Rattle.std.specs.List.{range_with_len}
use Rattle.std.proofs.lemmas.List.FromFn.{length-map-range_with_len}
use Rattle.tck_cycles.specs.Shifts.{shift_cycle}
use Rattle.bitbang.specs.Left.{bytes_of, bytes_of_cycle}
use Rattle.bitbang.proofs.BufferFills.{most-bytes, next-shift, put-more}
use Rattle.bitbang.proofs.putting.put_shifts.Goals as goal

pub put_cycle-count-requires : goal.put_cycle-count-requires
put_cycle-count-requires c =
    let f = shift_cycle c.args.shifts in
    omega (arith, c.loop-j.invariant.count, c.loop-j.auto.buffer, most-bytes (map f (range_with_len 0 c.loop-j.j)), length-map-range_with_len f 0 c.loop-j.j)

pub loop-j-preserved : goal.loop-j-preserved
loop-j-preserved c =
    let i = c.loop-j.invariant in
    let f = shift_cycle c.args.shifts in
    let front = bytes_of (map f (range_with_len 0 c.loop-j.j)) in
    let cycle = c.cycle.result in
    let more = next-shift f c.loop-j.j ∙ ap (λ x. front ++ bytes_of_cycle x) (sym c.cycle.ensures) in
    let m = c.put_cycle-count.result in
    record {
      count = omega (arith, c.put_cycle-count.ensures.count, i.count, ap length more, length-append front (bytes_of_cycle cycle));
      filled = put-more front (bytes_of_cycle cycle) c.loop-j.buffer c.args.buffer.now c.put_cycle-count.new.buffer c.loop-j.count m
          i.count c.put_cycle-count.ensures.count i.filled c.put_cycle-count.ensures.filled
          ∙ ap (λ (l : List ℕ). l ++ drop m c.args.buffer.now) (sym more);
    }
