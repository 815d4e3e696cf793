use Rattle.std.proofs.Common.{map, if◌then◌else◌}
use Rattle.board_model.specs.Chain.{assert_trst}
use Rattle.board_chain.proofs.SettledLaws.{chain_becomes}
use Rattle.board_chain.proofs.chain.Chain.tell_trst.Goals as goal

pub invariant_of-self : goal.invariant_of-self
invariant_of-self c = c.tell_trst.ensures.told c.self.inside.trst c.self.invariant

pub returns : goal.returns
returns c = chain_becomes (λ level. c.args.trst) (λ v chips. if c.args.trst then map assert_trst chips else chips) c.self.inside.trst c.self.inside.settled c.tell_trst.new.self _ c.self.view_is c.tell_trst.ensures
