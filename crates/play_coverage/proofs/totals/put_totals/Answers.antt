use Rattle.std.proofs.Common.{◌++◌}
use Rattle.board_description.proofs.TextLaws.{OnOk-behind}
use Rattle.play_coverage.specs.declared.outcomes.FaultKind.TheVariants as kind
use Rattle.play_coverage.specs.Lines.{loops_line}
use Rattle.play_coverage.specs.Tallies.{counts_line}
use Rattle.play_coverage.proofs.Tallying.{totals_told}
use Rattle.play_coverage.proofs.totals.put_totals.Goals as goal

pub returns : goal.returns
returns c =
    let t = c.args.tally.now in
    let text = t.text.items in
    let new = c.put_loops.new.text.items in
    let r = c.put_loops.result in
    let opens = counts_line kind.Opens t.opens in
    let pulls = counts_line kind.Pulls t.pulls in
    let stuck = counts_line kind.Stuck t.stuck in
    let shorts = counts_line kind.Shorts t.shorts in
    let loops = loops_line t.loops in
    let s3 = OnOk-behind c.put_counts-3.new.text.items shorts loops c.put_counts-4.new.text.items new r c.in_ok-put_counts-4.ensures c.put_loops.ensures in
    let s2 = OnOk-behind c.put_counts-2.new.text.items stuck (shorts ++ loops) c.put_counts-3.new.text.items new r c.in_ok-put_counts-3.ensures s3 in
    let s1 = OnOk-behind c.put_counts.new.text.items pulls (stuck ++ (shorts ++ loops)) c.put_counts-2.new.text.items new r c.in_ok-put_counts-2.ensures s2 in
    let s0 = OnOk-behind text opens (pulls ++ (stuck ++ (shorts ++ loops))) c.put_counts.new.text.items new r c.in_ok-put_counts.ensures s1 in
    totals_told t new r s0
