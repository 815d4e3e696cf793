use Rattle.std.proofs.Common.{◌∙◌}
use Rattle.board_plan.proofs.NumberLaws.{number_more}
use Rattle.board_plan.proofs.numbers.number_pins.Goals as goal

pub loop-pin-preserved : goal.loop-pin-preserved
loop-pin-preserved c = number_more c.args.pins.now.items c.args.more.now c.loop-pin.pin-index c.loop-pin.pins.items c.push-in-loop-pin.new.self.items c.loop-pin.numbers.items c.push.new.self.items c.len.result _
    c.loop-pin-test.true c.loop-pin.invariant.numbers c.loop-pin.invariant.pins (c.len.ensures ∙ c.loop-pin.pins.ok.0) c.in_ok-push.ensures.items c.in_ok-push-2.ensures.items
