use Rattle.std.proofs.Common.{◌+◌, ◌<◌, ◌*◌, ◌^◌, ◌%◌, length, map, sym, subst, arith}
use Rattle.std.specs.Int.Bits.{bit_or}
use Rattle.std.proofs.lemmas.List.{length-map}
use Rattle.board_chain.specs.Words.{word_bits}
use Rattle.board_chain.proofs.Rows.{row_at}
use Rattle.board_chain.proofs.WordLaws.{Out, out_none, out_more, out_full, out_past}
use Rattle.board_chain.proofs.scan.words.word_out.Goals as goal

pub loop-link-init : goal.loop-link-init
loop-link-init g c = record { less = omega arith; so = out_none (map (λ x. g.L.Link.register x c.args.column) c.args.chain.now) }

pub returns-then-len-at : goal.returns-then-len-at
returns-then-len-at g c =
    let l = c.loop-link in
    let rows = map (λ x. g.L.Link.register x c.args.column) c.args.chain.now in
    let h : l.link-index < length c.args.chain.now = c.loop-link-test.true in
    let row = row_at (λ x. g.L.Link.register x c.args.column) c.args.chain.now l.link-index c.link-item.result h c.link-item.is in
    λ n few. out_full rows (l.link-index + 1) (l.at + length (g.L.Link.register c.link-item.result c.args.column)) _ (word_bits c.args.bits n)
    (omega (arith, c.if-len-at.true, c.register_len-len.ensures, l.invariant.less))
    (out_more rows l.link-index l.at l.out c.register_word.result (g.L.Link.register c.link-item.result c.args.column)
    (omega (arith, h, length-map c.args.chain.now (λ x. g.L.Link.register x c.args.column))) row l.invariant.less l.invariant.so c.register_word.ensures) n few

pub loop-link-preserved : goal.loop-link-preserved
loop-link-preserved g c =
    let l = c.loop-link in
    let rows = map (λ x. g.L.Link.register x c.args.column) c.args.chain.now in
    let h : l.link-index < length c.args.chain.now = c.loop-link-test.true in
    let row = row_at (λ x. g.L.Link.register x c.args.column) c.args.chain.now l.link-index c.link-item.result h c.link-item.is in
    record {
      less = omega (arith, c.if-len-at.false);
      so = subst (λ k. Out rows (l.link-index + 1) (l.at + k) (bit_or l.out (c.register_word.result * 2 ^ l.at % 2 ^ 64))) (sym c.register_len-len.ensures)
          (out_more rows l.link-index l.at l.out c.register_word.result (g.L.Link.register c.link-item.result c.args.column)
          (omega (arith, h, length-map c.args.chain.now (λ x. g.L.Link.register x c.args.column))) row l.invariant.less l.invariant.so c.register_word.ensures);
    }

pub returns : goal.returns
returns g c =
    let l = c.loop-link in
    let rows = map (λ x. g.L.Link.register x c.args.column) c.args.chain.now in
    out_past rows l.link-index l.at l.out c.args.bits
    (omega (arith, c.loop-link-test.false, length-map c.args.chain.now (λ x. g.L.Link.register x c.args.column))) l.invariant.less l.invariant.so
