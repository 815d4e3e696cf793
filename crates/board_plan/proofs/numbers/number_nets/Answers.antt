use Rattle.std.proofs.Common.{refl, []}
use Rattle.board_plan.proofs.NumberLaws.{number_net}
use Rattle.board_plan.proofs.numbers.number_nets.Goals as goal

pub loop-net-preserved : goal.loop-net-preserved
loop-net-preserved c =
    let x = c.net-item.result in
    number_net [] c.args.nets.now c.loop-net.net-index x c.loop-net.pins.items c.number_pins.new.pins.items c.loop-net.specs.items c.push.new.self.items _
    c.in_ok-numbers.numbers.items c.deref.result.now c.loop-net-test.true c.net-item.is c.loop-net.invariant.nets c.loop-net.invariant.pins
    c.deref.ensures.value c.in_ok-numbers.ensures.numbers c.in_ok-numbers.ensures.pins refl c.in_ok-push.ensures.items
