use Rattle.std.proofs.Common.{◌≡◌, ◌++◌, ℕ, List, ap, ◌∙◌}
use Rattle.std.specs.Prelude.{flat_map}
use Rattle.output_words.specs.Statuses.{number}
use Rattle.svf_programs.specs.Sizes.{program_of}
use Rattle.board_plan.specs.View.{wiring}
use Rattle.board_faults.specs.Made.{board_of}
use Rattle.play_coverage.specs.declared.contending.Contention.{Contention}
use Rattle.play_coverage.specs.Contending as spec
use Rattle.play_coverage.specs.Lines.{contention_line, cover_lines, cover_status}
use Rattle.play_coverage.proofs.Tallying.{lines_of, status_of}
use Rattle.play_coverage.proofs.covering.cover_of.Goals as goal

pub returns : goal.returns
returns c =
    let w = wiring c.args.plan.now in
    let t = c.in_ok-tally.ensures in
    let listed = c.args.listed in
    let before = c.put_contentions.new.text.items in
    let tally = c.in_ok-tally.tally in
    let new = c.put_totals.new.tally.text.items in
    let contending : c.in_ok-contending.contending.items ≡ spec.contentions (program_of c.args.program.now) (board_of w) = c.in_ok-contending.ensures in
    record {
      judged = t.judged;
      judges = t.judges;
      lines = lines_of listed w c.deref.result.now t.judged before tally.text.items new
          (c.in_ok-put_contentions.ensures ∙ ap (λ (l : List ℕ). l ++ flat_map (contention_line w) c.deref.result.now) c.new-before.ensures.items)
          t.tells.text (c.in_ok-put_totals.ensures before listed w t.judged t.tells)
          ∙ ap (λ (cs : List Contention). cover_lines listed w cs t.judged) (c.deref.ensures.value ∙ contending);
      is_status = ap number
          (c.status_of-status.ensures ∙ status_of c.deref-2.result.now t.judged tally.told t.tells.told
          ∙ ap (λ (cs : List Contention). cover_status cs t.judged) (c.deref-2.ensures.value ∙ contending));
    }
