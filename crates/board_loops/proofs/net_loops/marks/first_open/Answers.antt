use Rattle.std.proofs.Common.{◌≡◌, false, sym, arith}
use Rattle.board_loops.specs.Marks.{is_open}
use Rattle.board_loops.specs.declared.net_loops.Dependency.{Dependency}
use Rattle.board_loops.proofs.LoopLaws.{all_more, string_there}
use Rattle.board_loops.proofs.net_loops.marks.first_open.Goals as goal

pub returns-then-is_open : goal.returns-then-is_open
returns-then-is_open c =
    let i = c.loop-string.string-index in
    let nothing : Dependency = record { target = 0; source = 0 } in
    record {
      there = string_there c.args.strings.now i nothing c.loop-string-test.true;
      inside = c.requires i nothing c.loop-string-test.true;
      alone = sym c.if-is_open.ensures;
    }

pub loop-string-preserved : goal.loop-string-preserved
loop-string-preserved c =
    let nothing : Dependency = record { target = 0; source = 0 } in
    all_more (λ (string : Dependency). is_open c.args.marks.now string ≡ false) c.args.strings.now c.loop-string.string-index nothing c.loop-string-test.true c.loop-string.invariant
    (sym c.if-is_open.ensures)

pub returns : goal.returns
returns c = λ k d inside. c.loop-string.invariant k (omega (arith, inside, c.loop-string-test.false)) d
