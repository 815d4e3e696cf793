use Rattle.std.proofs.Common.{refl, ap}
use Rattle.std.specs.Prelude.{Option}
use Rattle.byte_streams.proofs.Fronts.{WritesAll-is}
use Rattle.jt_player.proofs.RunLaws.{WritesAll-like, not-ok}
use Rattle.output_words.specs.declared.lines.Position.{Position}
use Rattle.play_explained.specs.Lines.{lines_known, lines_of_failure}
use Rattle.play_explained.proofs.telling.write_next.Goals as goal

pub returns-in_err-write_failure-clause-writes : goal.returns-in_err-write_failure-clause-writes
returns-in_err-write_failure-clause-writes g c =
    WritesAll-like _ _ (not-ok _ c.from_residual.ensures.0)
    (WritesAll-is (ap (λ (p : Option Position). lines_of_failure (lines_known c.args.known) p c.args.failure) c.position_from-position.ensures.position)
    c.in_err-write_failure.ensures)

pub returns-clause-writes : goal.returns-clause-writes
returns-clause-writes g c =
    WritesAll-like _ _ refl
    (WritesAll-is (ap (λ (p : Option Position). lines_of_failure (lines_known c.args.known) p c.args.failure) c.position_from-position.ensures.position)
    c.in_ok-write_failure.ensures)
