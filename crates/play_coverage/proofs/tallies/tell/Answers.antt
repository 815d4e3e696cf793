use Rattle.std.proofs.Common.{◌+◌, Bool, ap, ◌∙◌}
use Rattle.board_plan.specs.View.{wiring}
use Rattle.play_coverage.specs.Tallies.{one_if}
use Rattle.play_coverage.proofs.Tallying.{tally_more}
use Rattle.play_coverage.proofs.tallies.tell.Goals as goal

pub returns : goal.returns
returns c = λ before js is.
    tally_more before c.args.listed (wiring c.args.plan.now) js c.args.judged.now c.args.tally.now _ is c.in_ok-put_line.ensures c.told_with-tally.ensures
    c.in_ok-tally.ensures c.in_ok-tally-2.ensures c.in_ok-tally-3.ensures c.in_ok-tally-4.ensures
    (c.in_ok-tally-5.ensures ∙ ap (λ (b : Bool). c.args.tally.now.loops + one_if b) c.is_loop.ensures)
