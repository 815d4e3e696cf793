use Rattle.std.proofs.Common.{List, ℕ, subst, ◌∙◌}
use Rattle.std.specs.Io.KnownBytes.{Appends}
use Rattle.std.proofs.KnownBytes.{Appends-trans}
use Rattle.play_waves.proofs.PlainLaws.{next_line, next_text}
use Rattle.play_waves.proofs.plain.WithoutStrings.pass.Goals as goal

pub loop-byte-preserved : goal.loop-byte-preserved
loop-byte-preserved g c =
    let xs = c.args.piece.now in
    let line = c.args.self.now.line in
    let i = c.loop-byte.byte-index in
    record {
      handed = subst (λ (l : List ℕ). Appends (g.W.Write.contents c.args.self.now.inner) (g.W.Write.contents c.take.new.self.inner) l)
          (next_text line xs i _ c.loop-byte.self.line c.loop-byte-test.true c.loop-byte.invariant.line)
          (Appends-trans _ _ _ _ _ c.loop-byte.invariant.handed c.in_ok-take.ensures.handed);
      line = c.in_ok-take.ensures.line ∙ next_line line xs i _ c.loop-byte.self.line c.loop-byte-test.true c.loop-byte.invariant.line;
    }
