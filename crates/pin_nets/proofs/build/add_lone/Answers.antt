use Rattle.std.proofs.Common.{ap, ◌∙◌, arith}
use Rattle.pin_nets.proofs.Building.{lone_step, lone_keep}
use Rattle.pin_nets.proofs.build.add_lone.Goals as goal
use Rattle.pin_nets.proofs.build.add_lone.Goals.{then-is_none+in_ok-add_alone, else-is_none}

pub loop-pin-preserved : goal.loop-pin-preserved
loop-pin-preserved c =
    elim c.if-is_none.branch [
      | then-is_none+in_ok-add_alone w ↦
          lone_step c.args.nets.now.items c.loop-pin.pin c.args.net_of.now c.loop-pin.net_of c.if-is_none.net_of c.loop-pin.nets.items c.if-is_none.nets.items w.len.result c.is_none.result
          (omega (arith, c.loop-pin-test.true, c.loop-pin.auto.net_of)) c.is_none.ensures w.if-is_none.true (omega (arith, w.len.ensures, c.loop-pin.nets.ok.0)) w.net_of-is (ap (λ v. v.items) w.nets-is ∙ w.in_ok-add_alone.ensures) c.loop-pin.invariant
      | else-is_none w ↦
          lone_keep c.args.nets.now.items c.loop-pin.pin c.args.net_of.now c.loop-pin.net_of c.if-is_none.net_of c.loop-pin.nets.items c.if-is_none.nets.items c.is_none.result
          (omega (arith, c.loop-pin-test.true, c.loop-pin.auto.net_of)) c.is_none.ensures w.if-is_none.false w.net_of-is (ap (λ v. v.items) w.nets-is) c.loop-pin.invariant
    ]
