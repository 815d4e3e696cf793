use Rattle.std.proofs.Common.{◌++◌, ap, sym, drop, map, arith}
use Rattle.std.proofs.lemmas.List.{length-drop}
use Rattle.scan_vectors.specs.Failures.{Found, differing, found, with_found}
use Rattle.scan_vectors.specs.Vector.{tdis}
use Rattle.scan_vectors.specs.Held.{bits}
use Rattle.board_chain.proofs.Differing.{differing-take, few-out}
use Rattle.board_chain.specs.Rows.{joined_registers, out}
use Rattle.board_chain.proofs.ChainNoting.{note_more, note_over}
use Rattle.board_chain.proofs.scan.note_chain.Goals as goal

pub loop-link-init : goal.loop-link-init
loop-link-init g c =
    let vs = bits c.args.vector.now in
    record {
      within = omega arith;
      room = omega (arith, c.requires);
      noted = ap (λ l. with_found l (found c.args.failures.now)) (sym (differing-take c.args.command vs (joined_registers (map (λ x. g.L.Link.register x c.args.column) c.args.chain.now) ++ tdis vs)));
    }

pub returns-then-len-at : goal.returns-then-len-at
returns-then-len-at g c =
    let l = c.loop-link in
    let vs = bits c.args.vector.now in
    let long = length-drop l.at vs in
    note_over (λ x. g.L.Link.register x c.args.column) c.args.command vs c.args.chain.now l.at l.link-index c.link-item.result
    (with_found (differing c.args.command vs (out vs (map (λ x. g.L.Link.register x c.args.column) c.args.chain.now))) (found c.args.failures.now)) (found l.failures) (found c.note_link.new.failures)
    c.loop-link-test.true c.link-item.is l.invariant.noted c.note_link.ensures
    (omega (arith, long, c.if-len-at.true, c.len.ensures, c.register_len-len.ensures, l.invariant.within))

pub loop-link-preserved : goal.loop-link-preserved
loop-link-preserved g c =
    let l = c.loop-link in
    let vs = bits c.args.vector.now in
    record {
      within = omega (arith, c.if-len-at.false, c.len.ensures, l.invariant.within);
      room = omega (
        arith,
        l.invariant.room,
        ap (λ (f : Found). f.total) c.note_link.ensures,
        c.register_len-len.ensures,
        c.if-len-at.false,
        c.len.ensures,
        few-out c.args.command (drop l.at vs) (g.L.Link.register c.link-item.result c.args.column),
      );
      noted = note_more (λ x. g.L.Link.register x c.args.column) c.args.command vs c.args.chain.now l.at l.link-index c.link-item.result
          (with_found (differing c.args.command vs (out vs (map (λ x. g.L.Link.register x c.args.column) c.args.chain.now))) (found c.args.failures.now)) (found l.failures) (found c.note_link.new.failures)
          c.loop-link-test.true c.link-item.is l.invariant.noted c.note_link.ensures c.register_len-len.result c.register_len-len.ensures;
    }
