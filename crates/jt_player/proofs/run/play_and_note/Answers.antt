use Rattle.std.proofs.Common.{refl, sym, ap}
use Rattle.std.proofs.KnownBytes.{Appends-nil}
use Rattle.std.specs.Prelude.{codes, is_ok, is_err}
use Rattle.byte_streams.specs.Writes.{flagged}
use Rattle.byte_streams.proofs.Fronts.{WritesAll-is, WritesAll-then, WritesAll-stopped, WritesAll-done}
use Rattle.svf_programs.specs.Sizes.{program_of}
use Rattle.play_model.specs.ScheduleLaws.{bytes_of_full_play}
use Rattle.jt_player.specs.Running.{note}
use Rattle.jt_player.proofs.RunLaws.{WritesAll-like, not-ok}
use Rattle.jt_player.proofs.run.play_and_note.Goals as goal

pub returns-then-not-bytes-clause-writes : goal.returns-then-not-bytes-clause-writes
returns-then-not-bytes-clause-writes g c =
    WritesAll-is (ap (λ b. note c.args.kind b (program_of c.args.program.now) c.args.board.now) (sym c.if-not-bytes.true))
    (WritesAll-done c.play_kind.result c.requires.none_lost (Appends-nil _))

pub returns-in_err-put_all-clause-writes : goal.returns-in_err-put_all-clause-writes
returns-in_err-put_all-clause-writes g c =
    let so = c.from_residual.ensures.0 in
    WritesAll-is (ap (λ b. note c.args.kind b (program_of c.args.program.now) c.args.board.now) (sym c.if-not-bytes.false))
    (WritesAll-stopped (codes "\n") (WritesAll-stopped (bytes_of_full_play c.args.kind c.args.program.now.steps c.args.board.now) c.in_err-put_all.ensures.writes refl so) so so)

pub returns-then-not-noted-clause-writes : goal.returns-then-not-noted-clause-writes
returns-then-not-noted-clause-writes g c =
    WritesAll-is (ap (λ b. note c.args.kind b (program_of c.args.program.now) c.args.board.now) (sym c.if-not-bytes.false))
    (WritesAll-stopped (codes "\n") (WritesAll-then c.in_ok-put_all.ensures.writes refl c.play_kind_noted-ending.ensures.writes)
    (ap (λ b. is_err (flagged b)) c.if-not-noted.true) refl)

pub returns-in_err-put_all-2-clause-writes : goal.returns-in_err-put_all-2-clause-writes
returns-in_err-put_all-2-clause-writes g c =
    let so = c.from_residual-in_err-put_all-2.ensures.0 in
    WritesAll-is (ap (λ b. note c.args.kind b (program_of c.args.program.now) c.args.board.now) (sym c.if-not-bytes.false))
    (WritesAll-like _ _ (not-ok _ so)
    (WritesAll-then (WritesAll-then c.in_ok-put_all.ensures.writes refl c.play_kind_noted-ending.ensures.writes)
    (ap (λ b. is_ok (flagged b)) c.if-not-noted.false) c.in_err-put_all-2.ensures.writes))

pub returns-clause-writes : goal.returns-clause-writes
returns-clause-writes g c =
    WritesAll-is (ap (λ b. note c.args.kind b (program_of c.args.program.now) c.args.board.now) (sym c.if-not-bytes.false))
    (WritesAll-like _ _ refl
    (WritesAll-then (WritesAll-then c.in_ok-put_all.ensures.writes refl c.play_kind_noted-ending.ensures.writes)
    (ap (λ b. is_ok (flagged b)) c.if-not-noted.false) c.in_ok-put_all-2.ensures.writes))
