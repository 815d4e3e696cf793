use Rattle.std.proofs.Common.{◌≡◌, ◌-◌, ◌≤◌, length, take, drop, get_or, sym, ◌∙◌, arith}
use Rattle.std.proofs.lemmas.List.{length-take-le, length-drop}
use Rattle.bsdl_text.specs.Plain.{plain_len}
use Rattle.bsdl_text.proofs.PlainRuns.{ends_at, passes_on, passes_word, plain_le}
use Rattle.bsdl_text.proofs.tokens.plain.plain_len.Goals as goal

pub loop-at-preserved-then-run_in-eq-LANES : goal.loop-at-preserved-then-run_in-eq-LANES
loop-at-preserved-then-run_in-eq-LANES c =
    let i = c.loop-at.invariant in
    record {
      behind = omega arith;
      within = omega (arith, c.loop-at-test.true, i.within);
      passed = passes_word c.args.ending c.loop-at.at c.args.text.now i.passed 14 c.requires i.behind (omega (arith, c.loop-at-test.true, i.within)) (sym c.run_in.ensures ∙ c.if-run_in-eq-LANES.true);
    }

pub loop-at-preserved : goal.loop-at-preserved
loop-at-preserved c =
    let i = c.loop-at.invariant in
    let text = c.args.text.now in
    let rest = drop c.loop-at.at text in
    let room : 16 ≤ length rest = omega (arith, length-drop c.loop-at.at text, c.loop-at-test.true) in
    let run : c.plain_in-plain.result ≡ plain_len c.args.ending (get_or text (c.loop-at.at - 1) 0) (take 16 rest) = c.plain_in-plain.ensures in
    let all : plain_len c.args.ending (get_or text (c.loop-at.at - 1) 0) (take 16 rest) ≡ 16 =
    omega (arith, run, plain_le c.args.ending (get_or text (c.loop-at.at - 1) 0) (take 16 rest), length-take-le 16 rest room, c.if-plain-lt-LANES.false) in
    record {
      behind = omega arith;
      within = omega (arith, c.loop-at-test.true, i.within);
      passed = passes_on c.args.ending c.loop-at.at text i.passed 15 all;
    }

pub returns-then-plain-lt-LANES-clause-value : goal.returns-then-plain-lt-LANES-clause-value
returns-then-plain-lt-LANES-clause-value c =
    let text = c.args.text.now in
    let rest = drop c.loop-at.at text in
    let run : c.plain_in-plain.result ≡ plain_len c.args.ending (get_or text (c.loop-at.at - 1) 0) (take 16 rest) = c.plain_in-plain.ensures in
    omega (arith, run, ends_at c.args.ending c.loop-at.at text c.loop-at.invariant.passed 16 (omega (arith, run, c.if-plain-lt-LANES.true)))
