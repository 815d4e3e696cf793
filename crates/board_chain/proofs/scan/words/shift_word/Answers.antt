use Rattle.std.proofs.Common.{◌-◌, length, get_or, refl, arith}
use Rattle.board_chain.proofs.WordThrough.{through_none, through_more, through_all}
use Rattle.board_chain.proofs.scan.words.shift_word.Goals as goal

pub loop-i-init : goal.loop-i-init
loop-i-init g c = record {
  inside = omega arith;
  through = through_none (λ x. g.L.Link.register x c.args.column) (λ x stage y. g.L.Link.is_put x c.args.column stage y) c.args.chain.now (length c.args.chain.now) c.args.bits c.args.n refl;
}

pub loop-i-preserved : goal.loop-i-preserved
loop-i-preserved g c =
    let l = c.loop-i in
    record {
      inside = omega (arith, l.invariant.inside);
      through = through_more (λ x. g.L.Link.register x c.args.column) (λ x stage y. g.L.Link.is_put x c.args.column stage y) c.args.chain.now l.chain l.i (l.i - 1) c.args.bits c.args.n l.entering
          c.shift_register-entering.result c.index-chain-i.result (get_or l.chain (l.i - 1) c.index-chain-i.result) c.shift_register-entering.new.self
          (omega (arith, c.loop-i-test.true)) (omega (arith, c.loop-i-test.true, l.invariant.inside, l.invariant.through.count)) refl l.invariant.through
          c.shift_register-entering.ensures.put c.shift_register-entering.ensures.out;
    }

pub returns : goal.returns
returns g c =
    let l = c.loop-i in
    through_all (λ x. g.L.Link.register x c.args.column) (λ x stage y. g.L.Link.is_put x c.args.column stage y) c.args.chain.now l.chain l.i c.args.bits c.args.n l.entering
    (omega (arith, c.loop-i-test.false)) l.invariant.through
