use Rattle.std.proofs.Common.{◌∙◌, ◌++◌, sym, ap, map, take}
use Rattle.board_plan.specs.View.{net}
use Rattle.board_plan.specs.Planned.{all_pins}
use Rattle.board_parts.specs.Twice.{is_some_twice}
use Rattle.board_parts.proofs.TwiceLaws.{more_pins, net_found, net_passed}
use Rattle.board_parts.proofs.twice.is_found_twice.Goals as goal

pub returns-then-branch : goal.returns-then-branch
returns-then-branch c =
    let i = c.loop-net.net-index in
    let pins = c.net-item.result.pins.items in
    let twice = ap (λ b. is_some_twice b pins) (sym c.loop-net.invariant.added) ∙ ap (is_some_twice c.loop-net.used) (sym c.deref.ensures.value)
    ∙ sym c.in_ok-add_pins.ensures.judged ∙ c.if-branch.true in
    sym (net_found c.args.nets.now i c.net-item.result c.loop-net-test.true c.net-item.is twice) ∙ c.loop-net.invariant.judged

pub loop-net-preserved : goal.loop-net-preserved
loop-net-preserved c =
    let i = c.loop-net.net-index in
    let pins = c.net-item.result.pins.items in
    let none = ap (λ b. is_some_twice b pins) (sym c.loop-net.invariant.added) ∙ ap (is_some_twice c.loop-net.used) (sym c.deref.ensures.value)
    ∙ sym c.in_ok-add_pins.ensures.judged ∙ c.if-branch.false in
    record {
      judged = net_passed c.args.nets.now i c.net-item.result c.loop-net-test.true c.net-item.is none ∙ c.loop-net.invariant.judged;
      added =
          c.in_ok-add_pins.ensures.added c.if-branch.false ∙ ap (λ ps. ps ++ c.deref.result.now) c.loop-net.invariant.added
          ∙ ap (λ ps. all_pins (map net (take i c.args.nets.now)) ++ ps) c.deref.ensures.value
          ∙ sym (more_pins c.args.nets.now i c.net-item.result c.loop-net-test.true c.net-item.is);
    }
