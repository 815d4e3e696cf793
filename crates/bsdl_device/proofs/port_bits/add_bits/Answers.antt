use Rattle.std.proofs.Common.{arith}
use Rattle.std.specs.Prelude.{Some}
use Rattle.bsdl_device.proofs.PortLaws.{place_pushed}
use Rattle.bsdl_device.proofs.port_bits.add_bits.Goals as goal

pub loop-index-preserved : goal.loop-index-preserved
loop-index-preserved c = record {
  from = omega arith;
  items = place_pushed _ _ _ _ _ _ c.in_ok-add_bit-in-Some.ensures.places c.loop-index.invariant.items c.loop-index.invariant.from;
  numbers = λ passes here first. c.in_ok-add_bit-in-Some.ensures.numbers passes (here (Some c.loop-index.index)) (c.loop-index.invariant.numbers passes here first);
}
