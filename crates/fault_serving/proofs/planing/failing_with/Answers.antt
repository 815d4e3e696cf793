use Rattle.board_faults.specs.declared.kinds.Winner.{Winner}
use Rattle.board_faults.specs.declared.kinds.Winner.TheVariants.{Zeros, Ones, First, Second}
use Rattle.fault_serving.specs.declared.planing.Failing.{Failing}
use Rattle.fault_serving.specs.Planes.{IsToldOn, failing_at}
use Rattle.fault_serving.proofs.Changing.{still_on, told_on, untold_parts}
use Rattle.fault_serving.proofs.SiftingLaws.{each_winner}
use Rattle.fault_serving.proofs.planing.failing_with.Goals as goal

pub returns-then-is_untold : goal.returns-then-is_untold
returns-then-is_untold c =
    let p = c.args.pulls in
    let one = c.args.one in
    let two = c.args.two in
    let f = c.args.before in
    let zeros = c.changes_of-zeros in
    let ones = c.changes_of-ones in
    let first = c.changes_of-first in
    let second = c.changes_of-second in
    let all = untold_parts c.or-2.result second.result c.or-3.result c.or-3.ensures.wanted c.or-3.ensures.stays (c.is_untold.ensures c.if-is_untold.true) in
    let three = untold_parts c.or.result first.result c.or-2.result c.or-2.ensures.wanted c.or-2.ensures.stays all.0 in
    let both = untold_parts zeros.result ones.result c.or.result c.or.ensures.wanted c.or.ensures.stays three.0 in
    each_winner (λ (winner : Winner). IsToldOn (failing_at f winner) (failing_at f winner) winner p one two)
    (still_on Zeros p one two zeros.result zeros.ensures.wanted zeros.ensures.stays both.0 f.zeros)
    (still_on Ones p one two ones.result ones.ensures.wanted ones.ensures.stays both.1 f.ones)
    (still_on First p one two first.result first.ensures.wanted first.ensures.stays three.1 f.first)
    (still_on Second p one two second.result second.ensures.wanted second.ensures.stays all.1 f.second)

pub returns : goal.returns
returns c =
    let p = c.args.pulls in
    let one = c.args.one in
    let two = c.args.two in
    let zeros = c.changes_of-zeros in
    let ones = c.changes_of-ones in
    let first = c.changes_of-first in
    let second = c.changes_of-second in
    let b = c.args.before in
    let f : Failing = record {
      zeros = c.in_ok-fails_with.field-0;
      ones = c.in_ok-fails_with-2.field-0;
      first = c.in_ok-fails_with-3.field-0;
      second = c.in_ok-fails_with-4.field-0;
    } in
    each_winner (λ (winner : Winner). IsToldOn (failing_at b winner) (failing_at f winner) winner p one two)
    (told_on Zeros p one two zeros.result zeros.ensures.wanted zeros.ensures.stays b.zeros f.zeros c.in_ok-fails_with.ensures)
    (told_on Ones p one two ones.result ones.ensures.wanted ones.ensures.stays b.ones f.ones c.in_ok-fails_with-2.ensures)
    (told_on First p one two first.result first.ensures.wanted first.ensures.stays b.first f.first c.in_ok-fails_with-3.ensures)
    (told_on Second p one two second.result second.ensures.wanted second.ensures.stays b.second f.second c.in_ok-fails_with-4.ensures)
