use Rattle.board_model.specs.Chain.{members, rise_all}
use Rattle.board_model.specs.Nets.{told}
use Rattle.board_chain.specs.Settled.{as_told}
use Rattle.board_chain.proofs.SettledLaws.{chain_becomes}
use Rattle.board_chain.proofs.chain.Chain.rise.Goals as goal

pub invariant_of-self : goal.invariant_of-self
invariant_of-self c = (c.rise.ensures c.self.inside.trst c.self.invariant).told c.self.inside.trst c.self.invariant

pub returns : goal.returns
returns c = chain_becomes as_told (λ v. rise_all v.trst c.args.tms c.args.tdi (told v.nets (members v.chips)) 0) c.self.inside.trst c.self.inside.settled c.rise.new.self _ c.self.view_is (c.rise.ensures c.self.inside.trst c.self.invariant)
