use Rattle.std.proofs.Common.{◌≡◌, ◌++◌, List, ℕ, [], refl, sym, ap, subst, ◌∙◌, append_assoc}
use Rattle.std.proofs.lemmas.List.{append-nil}
use Rattle.std.proofs.KnownBytes.{Appends-trans}
use Rattle.std.specs.Io.KnownBytes.{Appends}
use Rattle.board_description.specs.Kept.{Told}
use Rattle.board_description.proofs.TextLaws.{Told-lost}
use Rattle.board_plan.specs.View.{wiring}
use Rattle.jt_board.specs.Made.{board_of}
use Rattle.jt_board.specs.Report.{report}
use Rattle.play_model.specs.ScheduleLaws.{full}
use Rattle.scan_vectors.specs.Failures.{found}
use Rattle.svf_programs.specs.Sizes.{program_of}
use Rattle.jt_player.specs.Kinds.{ending_in, found_in}
use Rattle.jt_player.specs.Running.{note}
use Rattle.play_explained.specs.Lines.{explained_lines}
use Rattle.play_explained.specs.Runs.{why_on}
use Rattle.play_explained.proofs.ToldLaws.{told-broken, told-front}
use Rattle.play_explained.proofs.runs.play_and_explain.Goals as goal

pub write_by_other-requires : goal.write_by_other-requires
write_by_other-requires g c = record { whole = c.in_ok-ending.ensures.writes.ok.0 refl; other = c.in_ok-other.ensures }

pub returns-in_err-ending-clause-writes : goal.returns-in_err-ending-clause-writes
returns-in_err-ending-clause-writes g c =
    let program = program_of c.args.program.now in
    let sent = note c.args.kind c.args.bytes program c.args.board.now in
    let why = why_on c.args.kind program (board_of (wiring c.args.plan.now)) in
    let lines = explained_lines c.args.text.now why c.args.kind (ending_in c.args.kind program c.args.board.now) (found_in c.args.kind program c.args.board.now) in
    let last = report (full c.args.kind c.args.program.now.steps c.args.board.now).board in
    subst (λ (l : List ℕ). Told g.W.Write.contents c.args.out.now c.play_and_note.new.out l c.from_residual.result) (sym (append_assoc sent lines last))
    (told-broken g.W.Write.contents c.args.out.now c.play_and_note.new.out sent (lines ++ last) _ c.from_residual.result c.in_err-ending.ensures.writes refl c.from_residual.ensures.1)

pub returns-in_err-other-clause-writes : goal.returns-in_err-other-clause-writes
returns-in_err-other-clause-writes g c =
    let program = program_of c.args.program.now in
    let sent = note c.args.kind c.args.bytes program c.args.board.now in
    let why = why_on c.args.kind program (board_of (wiring c.args.plan.now)) in
    let lines = explained_lines c.args.text.now why c.args.kind (ending_in c.args.kind program c.args.board.now) (found_in c.args.kind program c.args.board.now) in
    let last = report (full c.args.kind c.args.program.now.steps c.args.board.now).board in
    subst (λ (l : List ℕ). Told g.W.Write.contents c.args.out.now c.play_and_note.new.out l c.from_residual-in_err-other.result) (sym (append_assoc sent lines last))
    (told-front g.W.Write.contents c.args.out.now c.play_and_note.new.out sent (lines ++ last) c.from_residual-in_err-other.result (c.in_ok-ending.ensures.writes.ok.0 refl)
    c.in_ok-ending.ensures.writes.whole c.from_residual-in_err-other.ensures.1)

pub returns-in_err-write_by_other-clause-writes : goal.returns-in_err-write_by_other-clause-writes
returns-in_err-write_by_other-clause-writes g c =
    let program = program_of c.args.program.now in
    let sent = note c.args.kind c.args.bytes program c.args.board.now in
    let why = why_on c.args.kind program (board_of (wiring c.args.plan.now)) in
    let lines = explained_lines c.args.text.now why c.args.kind (ending_in c.args.kind program c.args.board.now) (found_in c.args.kind program c.args.board.now) in
    let last = report (full c.args.kind c.args.program.now.steps c.args.board.now).board in
    let told = explained_lines c.args.text.now why c.args.kind c.in_ok-ending.ending (found c.in_ok-ending.failures) ++ report c.play_and_note.new.board in
    Told-lost g.W.Write.contents c.args.out.now c.play_and_note.new.out c.write_by_other.new.out ((sent ++ lines) ++ last) sent told [] _ c.from_residual-in_err-write_by_other.result
    (ap (λ (l : List ℕ). sent ++ l) (append-nil told)
    ∙ (λ k. sent ++ (explained_lines c.args.text.now why c.args.kind (c.in_ok-ending.ensures.ending k) (c.in_ok-ending.ensures.found k) ++ report (c.in_ok-ending.ensures.left k)))
    ∙ sym (append_assoc sent lines last))
    c.in_ok-ending.ensures.writes.whole c.in_err-write_by_other.ensures refl c.from_residual-in_err-write_by_other.ensures.1

pub returns-clause-writes : goal.returns-clause-writes
returns-clause-writes g c =
    let program = program_of c.args.program.now in
    let sent = note c.args.kind c.args.bytes program c.args.board.now in
    let why = why_on c.args.kind program (board_of (wiring c.args.plan.now)) in
    let lines = explained_lines c.args.text.now why c.args.kind (ending_in c.args.kind program c.args.board.now) (found_in c.args.kind program c.args.board.now) in
    let last = report (full c.args.kind c.args.program.now.steps c.args.board.now).board in
    let writes = c.in_ok-write_by_other.ensures in (
      writes.ok.0 refl,
      subst (λ (l : List ℕ). Appends (g.W.Write.contents c.args.out.now.inner) (g.W.Write.contents c.write_by_other.new.out.inner) l)
          ((λ k. sent ++ (explained_lines c.args.text.now why c.args.kind (c.in_ok-ending.ensures.ending k) (c.in_ok-ending.ensures.found k) ++ report (c.in_ok-ending.ensures.left k)))
          ∙ sym (append_assoc sent lines last))
          (Appends-trans _ _ _ _ _ c.in_ok-ending.ensures.writes.whole writes.whole),
    )
