use Rattle.std.proofs.Common.{map}
use Rattle.board_model.specs.Chain as meant
use Rattle.board_chain.specs.Settled.{as_told}
use Rattle.board_chain.proofs.SettledLaws.{chain_becomes}
use Rattle.board_chain.proofs.chain.Chain.fall.Goals as goal

pub invariant_of-self : goal.invariant_of-self
invariant_of-self c = c.fall.ensures.told c.self.inside.trst c.self.invariant

pub returns : goal.returns
returns c = chain_becomes as_told (λ v. map meant.fall) c.self.inside.trst c.self.inside.settled c.fall.new.self _ c.self.view_is c.fall.ensures
