use Rattle.std.proofs.Common.{◌∙◌}
use Rattle.bsdl_device.proofs.FoundLaws.{bit_more}
use Rattle.bsdl_device.proofs.port_bits.add_bit.Goals as goal

pub returns-clause-numbers : goal.returns-clause-numbers
returns-clause-numbers c = λ passes here first.
    bit_more passes c.args.bits.now.items c.push.new.self.items c.args.bit c.args.numbers.now c.add.new.self c.len.result (c.len.ensures ∙ c.args.bits.now.ok.0) c.in_ok-push.ensures.items here
    c.in_ok-add.ensures first
