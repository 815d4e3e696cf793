use Rattle.std.proofs.Common.{map}
use Rattle.board_model.specs.Chain.{members}
use Rattle.board_model.specs.Resting.{chip_at_rest}
use Rattle.board_chain.specs.Settled.{as_told}
use Rattle.board_chain.proofs.SettledLaws.{chain_becomes}
use Rattle.board_chain.proofs.chain.Chain.stand.Goals as goal

pub invariant_of-self : goal.invariant_of-self
invariant_of-self c = c.stand.ensures.told c.self.inside.trst c.self.invariant

pub returns : goal.returns
returns c = chain_becomes as_told (λ v chips. map (chip_at_rest c.args.state) (members chips)) c.self.inside.trst c.self.inside.settled c.stand.new.self _ c.self.view_is c.stand.ensures
