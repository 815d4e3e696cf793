use Rattle.std.proofs.Common.{◌+◌, ◌++◌, List, ℕ, refl, sym, drop, take, ap, ◌∙◌, subst, arith}
use Rattle.std.proofs.lemmas.List.{take_all}
use Rattle.std.specs.Prelude.{flat_map}
use Rattle.std.specs.Io.KnownBytes.{Appends}
use Rattle.std.proofs.KnownBytes.{Appends-trans}
use Rattle.byte_streams.proofs.Fronts.{WritesAll-lost, WritesAll-done}
use Rattle.byte_streams.proofs.Pieces.{flat_map-more, flat_map-split}
use Rattle.play_model.specs.PlayingOn.{Mismatch}
use Rattle.jt_player.specs.Showing.{mismatch_line}
use Rattle.jt_player.proofs.showing.write_mismatches.Goals as goal

pub loop-mismatch-preserved : goal.loop-mismatch-preserved
loop-mismatch-preserved g c =
    let rows = c.args.list.now in
    let i = c.loop-mismatch.mismatch-index in
    record {
      none_lost = c.in_ok-write_mismatch.ensures.ok.0 refl;
      sent = subst (λ (l : List ℕ). Appends (g.W.Write.contents c.args.out.now.inner) (g.W.Write.contents c.write_mismatch.new.out.inner) l)
          (flat_map-more mismatch_line rows i _ (omega (arith, c.loop-mismatch-test.true)))
          (Appends-trans _ _ _ _ _ c.loop-mismatch.invariant.sent c.in_ok-write_mismatch.ensures.whole);
    }

pub returns-in_err-write_mismatch : goal.returns-in_err-write_mismatch
returns-in_err-write_mismatch g c =
    let rows = c.args.list.now in
    let i = c.loop-mismatch.mismatch-index in
    let rest = flat_map mismatch_line (drop (i + 1) rows) in
    WritesAll-lost (flat_map mismatch_line rows) (flat_map mismatch_line (take i rows)) rest
    (flat_map-split mismatch_line rows (i + 1)
    ∙ ap (λ l. l ++ rest) (sym (flat_map-more mismatch_line rows i _ (omega (arith, c.loop-mismatch-test.true)))))
    c.loop-mismatch.invariant.sent c.in_err-write_mismatch.ensures refl c.from_residual.ensures.0

pub returns : goal.returns
returns g c =
    let rows = c.args.list.now in
    WritesAll-done tt c.loop-mismatch.invariant.none_lost
    (subst (λ (l : List Mismatch). Appends (g.W.Write.contents c.args.out.now.inner) (g.W.Write.contents c.loop-mismatch.out.inner) (flat_map mismatch_line l))
    (take_all c.loop-mismatch.mismatch-index rows (omega (arith, c.loop-mismatch-test.false))) c.loop-mismatch.invariant.sent)
