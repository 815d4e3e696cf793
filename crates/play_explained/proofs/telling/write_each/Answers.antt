use Rattle.std.proofs.Common.{◌+◌, ◌++◌, List, ℕ, refl, sym, drop, take, ap, ◌∙◌, subst, arith}
use Rattle.std.proofs.lemmas.List.{take_all}
use Rattle.std.specs.Prelude.{flat_map}
use Rattle.std.specs.Io.KnownBytes.{Appends}
use Rattle.std.proofs.KnownBytes.{Appends-trans}
use Rattle.byte_streams.proofs.Fronts.{WritesAll-lost, WritesAll-done}
use Rattle.byte_streams.proofs.Pieces.{flat_map-more, flat_map-split}
use Rattle.scan_vectors.specs.declared.failures.Mismatch.{Mismatch}
use Rattle.play_explained.specs.Lines.{failure_lines, lines_known}
use Rattle.play_explained.proofs.telling.write_each.Goals as goal

pub loop-failure-preserved : goal.loop-failure-preserved
loop-failure-preserved g c =
    let rows = c.args.list.now in
    let i = c.loop-failure.failure-index in
    let line = failure_lines c.args.text.now (lines_known c.args.known) in
    record {
      at = c.in_ok-passed.ensures.at;
      none_lost = c.in_ok-passed.ensures.writes.ok.0 refl;
      sent = subst (λ (l : List ℕ). Appends (g.W.Write.contents c.args.out.now.inner) (g.W.Write.contents c.write_next.new.out.inner) l)
          (flat_map-more line rows i _ (omega (arith, c.loop-failure-test.true)))
          (Appends-trans _ _ _ _ _ c.loop-failure.invariant.sent c.in_ok-passed.ensures.writes.whole);
    }

pub returns-in_err-passed : goal.returns-in_err-passed
returns-in_err-passed g c =
    let rows = c.args.list.now in
    let i = c.loop-failure.failure-index in
    let line = failure_lines c.args.text.now (lines_known c.args.known) in
    let rest = flat_map line (drop (i + 1) rows) in
    WritesAll-lost (flat_map line rows) (flat_map line (take i rows)) rest
    (flat_map-split line rows (i + 1)
    ∙ ap (λ l. l ++ rest) (sym (flat_map-more line rows i _ (omega (arith, c.loop-failure-test.true)))))
    c.loop-failure.invariant.sent c.in_err-passed.ensures.writes refl c.from_residual.ensures.0

pub returns : goal.returns
returns g c =
    let rows = c.args.list.now in
    let line = failure_lines c.args.text.now (lines_known c.args.known) in
    WritesAll-done tt c.loop-failure.invariant.none_lost
    (subst (λ (l : List Mismatch). Appends (g.W.Write.contents c.args.out.now.inner) (g.W.Write.contents c.loop-failure.out.inner) (flat_map line l))
    (take_all c.loop-failure.failure-index rows (omega (arith, c.loop-failure-test.false))) c.loop-failure.invariant.sent)
