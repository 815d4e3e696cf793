use Rattle.std.proofs.Common.{arith}
use Rattle.std.proofs.lemmas.Grind.{common_steps}
use Rattle.name_keys.specs.OrderLaws.{key_order_is}
use Rattle.bsdl_device.proofs.port_bits.add_named.Goals as goal

pub returns-clause-named : goal.returns-clause-named
returns-clause-named c = record {
  before = c.or_insert-numbers.result.now;
  now = c.add_bits.new.numbers;
  had = λ i. grind (arith, common_steps, key_order_is c.args.key c.args.key);
  put = λ q. grind (arith, common_steps, key_order_is c.args.key q);
  added = c.in_ok-add_bits.ensures.numbers;
}
