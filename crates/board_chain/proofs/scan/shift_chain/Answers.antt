use Rattle.std.proofs.Common.{◌+◌, ◌<◌, Bool, List, [], length, map, refl, sym, ap, ◌∙◌, arith}
use Rattle.std.proofs.lemmas.List.{length-map, length-set, get_or-map}
use Rattle.scan_vectors.specs.Held.{bits}
use Rattle.board_chain.specs.Rows.{before, left}
use Rattle.board_chain.proofs.Rows.{before_more, before_all, same_len, inside}
use Rattle.board_chain.proofs.ShiftInPlace.{moved_none, moved_next, moved_at, moved_all, next_bits, in_vector, all_none, all_more, all_put}
use Rattle.board_chain.proofs.scan.shift_chain.Goals as goal

pub loop-i-init : goal.loop-i-init
loop-i-init g c =
    let olds = c.args.chain.now in
    let r = c.spot_in_its_link-from in
    let many = length-map olds (λ x. g.L.Link.register x c.args.column) in
    record {
      moved = moved_none (map (λ x. g.L.Link.register x c.args.column) olds) (bits c.args.vector.now) r.result.link r.result.bit (omega (arith, r.ensures.within, many))
          (omega (arith, r.ensures.same, c.len.ensures)) (λ h. r.ensures.stands (omega (arith, h, many)));
      puts = all_none (λ x. g.L.Link.register x c.args.column) (λ x stage y. g.L.Link.is_put x c.args.column stage y) (λ x. g.met.L.Link.put_none x c.args.column) olds;
      count = refl;
      inside = omega arith;
    }

pub loop-done-init : goal.loop-done-init
loop-done-init g c =
    let l = c.loop-i in
    let olds = c.args.chain.now in
    let i = l.i in
    let h : i < length l.chain = omega (arith, c.loop-i-test.true, l.invariant.count) in
    let row = get_or-map (λ x. g.L.Link.register x c.args.column) l.chain i c.index-chain-i.result [] h in
    let same = same_len (map (λ x. g.L.Link.register x c.args.column) l.chain) (map (λ x. g.L.Link.register x c.args.column) olds) i l.invariant.moved.shape in
    record {
      moved = moved_at (map (λ x. g.L.Link.register x c.args.column) olds) (map (λ x. g.L.Link.register x c.args.column) l.chain) (bits c.args.vector.now)
          (before (map (λ x. g.L.Link.register x c.args.column) olds) i) (before (map (λ x. g.L.Link.register x c.args.column) olds) i + 0) l.from.link l.from.bit (omega arith) l.invariant.moved;
      puts = l.invariant.puts;
      count = l.invariant.count;
      inside = omega (arith, h, l.invariant.count);
      done = omega arith;
      len = c.register_len-len.ensures ∙ ap (λ (r : List Bool). length r) (sym row) ∙ same;
    }

pub run_at-run-requires-clause-stands : goal.run_at-run-requires-clause-stands
run_at-run-requires-clause-stands g c =
    let l = c.loop-done in
    let m = l.invariant.moved in
    let many = length-map c.args.chain.now (λ x. g.L.Link.register x c.args.column) in
    let same = same_len (map (λ x. g.L.Link.register x c.args.column) l.chain) (map (λ x. g.L.Link.register x c.args.column) c.args.chain.now) l.from.link m.shape in
    λ h. omega (arith, m.stands (omega (arith, h, many, l.invariant.count)), same)

pub run_at-run-requires-clause-behind : goal.run_at-run-requires-clause-behind
run_at-run-requires-clause-behind g c =
    let l = c.loop-done in
    let olds = map (λ x. g.L.Link.register x c.args.column) c.args.chain.now in
    let many = length-map c.args.chain.now (λ x. g.L.Link.register x c.args.column) in
    let now_many = length-map l.chain (λ x. g.L.Link.register x c.args.column) in
    λ h. in_vector olds (map (λ x. g.L.Link.register x c.args.column) l.chain) (bits c.args.vector.now) (before olds c.loop-i.i + l.done) l.from.link l.from.bit l.invariant.moved
    (inside olds c.loop-i.i l.done (omega (arith, l.invariant.inside, many)) (omega (arith, c.loop-done-test.true, l.invariant.len))) (omega (arith, h, now_many))

pub put_register-requires-clause-inside : goal.put_register-requires-clause-inside
put_register-requires-clause-inside g c =
    let l = c.loop-done in
    let i = c.loop-i.i in
    let row = get_or-map (λ x. g.L.Link.register x c.args.column) l.chain i c.index-chain-i-in-loop-done.result [] (omega (arith, l.invariant.inside, l.invariant.count)) in
    let same = same_len (map (λ x. g.L.Link.register x c.args.column) l.chain) (map (λ x. g.L.Link.register x c.args.column) c.args.chain.now) i l.invariant.moved.shape in
    omega (arith, ap (λ (r : List Bool). length r) row, same, l.invariant.len, c.min-count.ensures, c.loop-done-test.true)

pub loop-done-preserved : goal.loop-done-preserved
loop-done-preserved g c =
    let l = c.loop-done in
    let i = c.loop-i.i in
    let r = c.run_at-run in
    let olds = c.args.chain.now in
    let x = c.index-chain-i-in-loop-done.result in
    let n = c.put_register.new.self in
    let h : i < length l.chain = omega (arith, l.invariant.inside, l.invariant.count) in
    let now_many = length-map l.chain (λ y. g.L.Link.register y c.args.column) in
    let to = c.spot_in_its_link-from-in-loop-done in
    record {
      moved = moved_next (λ y. g.L.Link.register y c.args.column) olds l.chain x n (bits c.args.vector.now) i l.done l.from.link l.from.bit to.result.link to.result.bit r.result.bits c.min-count.result
          h l.invariant.count (omega (arith, l.invariant.len, c.min-count.ensures, c.loop-done-test.true)) l.invariant.moved c.put_register.ensures.run
          (next_bits (map (λ y. g.L.Link.register y c.args.column) olds) (map (λ y. g.L.Link.register y c.args.column) l.chain) (bits c.args.vector.now)
          (before (map (λ y. g.L.Link.register y c.args.column) olds) i + l.done) l.from.link l.from.bit r.result.bits r.result.len c.min-count.result (omega (arith, c.min-count.ensures))
          l.invariant.moved (λ has. r.ensures.inside (omega (arith, has, now_many))) (λ has. r.ensures.register (omega (arith, has, now_many))) (λ past. r.ensures.vector (omega (arith, past, now_many))))
          to.ensures.within to.ensures.same to.ensures.stands;
      puts = all_more (λ y. g.L.Link.register y c.args.column) (λ y stage z. g.L.Link.is_put y c.args.column stage z)
          (λ a b d s t. g.met.L.Link.put_twice a b d c.args.column s t) olds l.chain i x n h l.invariant.puts c.put_register.ensures.put;
      count = length-set l.chain i n ∙ l.invariant.count;
      inside = l.invariant.inside;
      done = omega (arith, l.invariant.done, c.min-count.ensures, c.loop-done-test.true);
      len = l.invariant.len;
    }

pub loop-i-preserved : goal.loop-i-preserved
loop-i-preserved g c =
    let l = c.loop-done in
    let i = c.loop-i.i in
    let olds = map (λ x. g.L.Link.register x c.args.column) c.args.chain.now in
    let many = length-map c.args.chain.now (λ x. g.L.Link.register x c.args.column) in
    let more = before_more olds i (omega (arith, l.invariant.inside, many)) in
    record {
      moved = moved_at olds (map (λ x. g.L.Link.register x c.args.column) l.chain) (bits c.args.vector.now) (before olds i + l.done) (before olds (i + 1)) l.from.link l.from.bit
          (omega (arith, more, l.invariant.len, l.invariant.done, c.loop-done-test.false)) l.invariant.moved;
      puts = l.invariant.puts;
      count = l.invariant.count;
      inside = omega (arith, l.invariant.inside);
    }

pub returns : goal.returns
returns g c =
    let l = c.loop-i in
    let olds = map (λ x. g.L.Link.register x c.args.column) c.args.chain.now in
    let many = length-map c.args.chain.now (λ x. g.L.Link.register x c.args.column) in
    let all = before_all olds l.i (omega (arith, c.loop-i-test.false, l.invariant.count, many)) in
    all_put (λ x. g.L.Link.register x c.args.column) (λ x stage y. g.L.Link.is_put x c.args.column stage y) c.args.chain.now l.chain (left (bits c.args.vector.now) olds) l.invariant.puts
    (moved_all olds (map (λ x. g.L.Link.register x c.args.column) l.chain) (bits c.args.vector.now) (before olds l.i) l.from.link l.from.bit l.invariant.moved (omega (arith, all)))
