use Rattle.std.proofs.Common.{◌≡◌, ℕ, ◌+◌, ◌++◌, List, length, refl, sym, drop, take, ap, ◌∙◌, ◌≤◌, subst, arith, drop_of_length-le}
use Rattle.std.proofs.Math.Seq.{take-length}
use Rattle.std.specs.Prelude.{flat_map, map, true, false}
use Rattle.std.specs.Io.KnownBytes.{Appends}
use Rattle.std.proofs.KnownBytes.{Appends-trans}
use Rattle.byte_streams.proofs.Fronts.{WritesAll-lost, WritesAll-done}
use Rattle.byte_streams.specs.Writes.{PutsEach, no_piece, piece_lost, piece_put}
use Rattle.byte_streams.proofs.Pieces.{flat_map-more, flat_map-split, map-left, err-is-not-ok}
use Rattle.byte_streams.proofs.counting.put_pieces.Goals as goal

pub loop-piece-preserved : goal.loop-piece-preserved
loop-piece-preserved g c =
    let pieces = c.args.pieces.now in
    let i = c.loop-piece.piece-index in
    record {
      none_lost = c.in_ok-put_all.ensures.writes.ok.0 refl;
      at_end = c.in_ok-put_all.ensures.at_end ∙ c.loop-piece.invariant.at_end;
      sent = subst (λ (l : List ℕ). Appends (g.W.Write.contents c.args.out.now.inner) (g.W.Write.contents c.put_all.new.out.inner) l)
          (flat_map-more (λ piece. piece.now) pieces i _ c.loop-piece-test.true)
          (Appends-trans _ _ _ _ _ c.loop-piece.invariant.sent c.in_ok-put_all.ensures.writes.whole);
      calls = λ whole u others. c.loop-piece.invariant.calls whole u
          (subst (λ ps. PutsEach g.W.Sink.puts c.loop-piece.out.inner ps whole u) (sym (map-left (λ piece. piece.now) pieces i _ c.loop-piece-test.true))
          (piece_put _ _ _ _ whole u c.in_ok-put_all.ensures.calls others));
    }

pub returns-in_err-put_all-clause-writes : goal.returns-in_err-put_all-clause-writes
returns-in_err-put_all-clause-writes g c =
    let pieces = c.args.pieces.now in
    let i = c.loop-piece.piece-index in
    WritesAll-lost _ (flat_map (λ piece. piece.now) (take i pieces)) (flat_map (λ piece. piece.now) (drop (i + 1) pieces))
    (flat_map-split (λ piece. piece.now) pieces (i + 1)
    ∙ ap (λ l. l ++ flat_map (λ piece. piece.now) (drop (i + 1) pieces)) (sym (flat_map-more (λ piece. piece.now) pieces i _ c.loop-piece-test.true)))
    c.loop-piece.invariant.sent c.in_err-put_all.ensures.writes refl c.from_residual.ensures.0

pub returns-clause-writes : goal.returns-clause-writes
returns-clause-writes g c =
    let pieces = c.args.pieces.now in
    let i = c.loop-piece.piece-index in
    let all : i ≡ length pieces = omega (arith, c.loop-piece-test.false, c.loop-piece.auto.piece-index-end) in
    WritesAll-done tt c.loop-piece.invariant.none_lost
    (subst (λ l. Appends (g.W.Write.contents c.args.out.now.inner) (g.W.Write.contents c.loop-piece.out.inner) (flat_map (λ piece. piece.now) l))
    (ap (λ n. take n pieces) all ∙ take-length pieces) c.loop-piece.invariant.sent)

pub returns-in_err-put_all-clause-calls : goal.returns-in_err-put_all-clause-calls
returns-in_err-put_all-clause-calls g c =
    let pieces = c.args.pieces.now in
    let i = c.loop-piece.piece-index in
    let lost : PutsEach g.W.Sink.puts c.loop-piece.out.inner (map (λ piece. piece.now) (drop i pieces)) false c.put_all.new.out.inner =
    subst (λ ps. PutsEach g.W.Sink.puts c.loop-piece.out.inner ps false c.put_all.new.out.inner)
    (sym (map-left (λ piece. piece.now) pieces i _ c.loop-piece-test.true)) (piece_lost _ _ _ _ c.in_err-put_all.ensures.calls) in
    subst (λ b. PutsEach g.W.Sink.puts c.args.out.now.inner (map (λ piece. piece.now) pieces) b c.put_all.new.out.inner)
    (sym (err-is-not-ok c.from_residual.result c.from_residual.ensures.0)) (c.loop-piece.invariant.calls false c.put_all.new.out.inner lost)

pub returns-clause-calls : goal.returns-clause-calls
returns-clause-calls g c =
    let pieces = c.args.pieces.now in
    let i = c.loop-piece.piece-index in
    let all : length pieces ≤ i = omega (arith, c.loop-piece-test.false, c.loop-piece.auto.piece-index-end) in
    c.loop-piece.invariant.calls true c.loop-piece.out.inner
    (subst (λ ps. PutsEach g.W.Sink.puts c.loop-piece.out.inner ps true c.loop-piece.out.inner) (sym (ap (map (λ piece. piece.now)) (drop_of_length-le pieces all)))
    (no_piece _))
