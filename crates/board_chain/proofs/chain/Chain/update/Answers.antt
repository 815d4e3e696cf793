use Rattle.std.proofs.Common.{map}
use Rattle.board_model.specs.Whole.{update_member}
use Rattle.board_chain.specs.AtRest.{in_registers}
use Rattle.board_chain.specs.Settled.{as_told}
use Rattle.board_chain.proofs.SettledLaws.{chain_becomes}
use Rattle.board_chain.proofs.chain.Chain.update.Goals as goal

pub invariant_of-self : goal.invariant_of-self
invariant_of-self c = c.update.ensures.told c.self.inside.trst c.self.invariant

pub returns : goal.returns
returns c = chain_becomes as_told (λ v. in_registers (map (update_member c.args.column))) c.self.inside.trst c.self.inside.settled c.update.new.self _ c.self.view_is c.update.ensures
