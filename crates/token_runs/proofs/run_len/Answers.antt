use Rattle.std.proofs.Common.{◌≡◌, ◌+◌, ◌≤◌, ℕ, List, length, take, drop, ap, ◌∙◌, arith, length-drop}
use Rattle.std.specs.List.{prefix_len}
use Rattle.std.proofs.lemmas.List.{drop-drop, length-take-le}
use Rattle.std.proofs.lemmas.List.Sums.{prefix_len-le-length}
use Rattle.token_runs.proofs.RunsAtOnce.{ends_here, goes_on}
use Rattle.token_runs.proofs.run_len.Goals as goal

pub returns-then-run-lt-LANES-clause-value : goal.returns-then-run-lt-LANES-clause-value
returns-then-run-lt-LANES-clause-value g c =
    let belongs = g.R.RunOf.belongs in
    let at = c.loop-at.at in
    let text = c.args.text.now in
    let room : 16 ≤ length (drop at text) = omega (arith, length-drop at text, c.loop-at-test.true) in
    let run : c.run_in-run.result ≡ prefix_len belongs (take 16 (drop at text)) = c.run_in-run.ensures in
    omega (arith, run, c.loop-at.invariant.passed, ends_here belongs 16 (drop at text) room (omega (arith, run, c.if-run-lt-LANES.true)))

pub loop-at-preserved : goal.loop-at-preserved
loop-at-preserved g c =
    let belongs = g.R.RunOf.belongs in
    let at = c.loop-at.at in
    let text = c.args.text.now in
    let rest = drop at text in
    let i = c.loop-at.invariant in
    let room : 16 ≤ length rest = omega (arith, length-drop at text, c.loop-at-test.true) in
    let run : c.run_in-run.result ≡ prefix_len belongs (take 16 rest) = c.run_in-run.ensures in
    let bound : prefix_len belongs (take 16 rest) ≤ length (take 16 rest) = prefix_len-le-length belongs (take 16 rest) in
    let long : length (take 16 rest) ≡ 16 = length-take-le 16 rest room in
    let whole : prefix_len belongs (take 16 rest) ≡ 16 = omega (arith, run, bound, long, c.if-run-lt-LANES.false) in
    let behind : prefix_len belongs rest ≡ 16 + prefix_len belongs (drop (at + 16) text) =
    goes_on belongs 16 rest room whole ∙ ap (λ (l : List ℕ). 16 + prefix_len belongs l) (drop-drop 16 at text) in
    record { within = omega (arith, i.within, c.loop-at-test.true); passed = omega (arith, i.passed, behind) }
