use Rattle.std.proofs.Common.{◌∙◌, ◌++◌, sym, ap, subst, length, map, take}
use Rattle.board_plan.specs.View.{net}
use Rattle.board_plan.specs.Planned.{all_pins}
use Rattle.board_parts.specs.Twice.{Marks, is_some_twice}
use Rattle.board_parts.proofs.TwiceLaws.{inside_net, inside_rest, more_pins, net_found, net_passed}
use Rattle.board_parts.proofs.twice.mark_nets.Goals as goal

pub mark_pins-requires : goal.mark_pins-requires
mark_pins-requires c =
    inside_net c.args.ports (length c.args.seen.now) c.args.nets.now c.loop-net.net-index c.net-item.result c.loop-net-test.true c.net-item.is c.loop-net.invariant.inside
    (length c.loop-net.seen) c.deref.result.now c.loop-net.invariant.long c.deref.ensures.value

pub returns-then-mark_pins : goal.returns-then-mark_pins
returns-then-mark_pins c =
    let i = c.loop-net.net-index in
    let so_far = all_pins (map net (take i c.args.nets.now)) in
    let twice = ap (is_some_twice so_far) (sym c.deref.ensures.value) ∙ sym (c.if-mark_pins.ensures.judged so_far c.loop-net.invariant.added) in
    sym (net_found c.args.nets.now i c.net-item.result c.loop-net-test.true c.net-item.is twice) ∙ c.loop-net.invariant.judged

pub loop-net-preserved : goal.loop-net-preserved
loop-net-preserved c =
    let i = c.loop-net.net-index in
    let so_far = all_pins (map net (take i c.args.nets.now)) in
    let none = ap (is_some_twice so_far) (sym c.deref.ensures.value) ∙ sym (c.if-mark_pins.ensures.judged so_far c.loop-net.invariant.added) in
    record {
      long = c.mark_pins.auto.seen ∙ c.loop-net.invariant.long;
      inside = inside_rest c.args.ports (length c.args.seen.now) c.args.nets.now i c.net-item.result c.loop-net-test.true c.net-item.is c.loop-net.invariant.inside;
      judged = net_passed c.args.nets.now i c.net-item.result c.loop-net-test.true c.net-item.is none ∙ c.loop-net.invariant.judged;
      added =
          subst (λ b. Marks c.args.ports b c.mark_pins.new.seen)
          (ap (λ ps. so_far ++ ps) c.deref.ensures.value ∙ sym (more_pins c.args.nets.now i c.net-item.result c.loop-net-test.true c.net-item.is))
          (c.mark_pins.ensures.added c.if-mark_pins.false so_far c.loop-net.invariant.added);
    }
