use Rattle.std.proofs.Common.{◌<◌, length, arith}
use Rattle.board_plan.specs.View.{wiring}
use Rattle.board_description.proofs.TextLaws.{line_more}
use Rattle.play_coverage.specs.Lines.{contention_line}
use Rattle.play_coverage.proofs.covering.put_contentions.Goals as goal

pub loop-contention-preserved : goal.loop-contention-preserved
loop-contention-preserved c =
    let all = c.args.contending.now in
    let k = c.loop-contention.contention-index in
    let inside : k < length all = omega (arith, c.loop-contention-test.true) in
    line_more (contention_line (wiring c.args.plan.now)) all k _ c.args.text.now.items c.loop-contention.text.items c.put_contention.new.text.items inside c.loop-contention.invariant
    c.in_ok-put_contention.ensures
