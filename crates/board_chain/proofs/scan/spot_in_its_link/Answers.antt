use Rattle.std.proofs.Common.{◌<◌, ap, List, Bool, length, map, arith}
use Rattle.std.proofs.lemmas.List.{length-map}
use Rattle.board_chain.proofs.Rows.{before_more, row_at}
use Rattle.board_chain.proofs.scan.spot_in_its_link.Goals as goal

pub loop-link-preserved : goal.loop-link-preserved
loop-link-preserved g c =
    let k = c.loop-link.link in
    let h : k < length c.args.chain.now = c.loop-link-test.true in
    let row = row_at (λ x. g.L.Link.register x c.args.column) c.args.chain.now k c.index-chain-link.result h c.index-chain-link.is in
    let more = before_more (map (λ x. g.L.Link.register x c.args.column) c.args.chain.now) k (rw length-map h) in
    (omega (arith, h), omega (arith, ap (λ (r : List Bool). length r) row, more, c.register_len-len.ensures, c.if-bit-len.false, c.loop-link.invariant.1))
