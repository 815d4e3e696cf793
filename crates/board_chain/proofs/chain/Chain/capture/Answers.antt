use Rattle.board_model.specs.Chain.{members}
use Rattle.board_model.specs.Nets.{told}
use Rattle.board_model.specs.Whole.{capture_all}
use Rattle.board_chain.specs.AtRest.{in_registers}
use Rattle.board_chain.specs.Settled.{as_told}
use Rattle.board_chain.proofs.SettledLaws.{chain_becomes}
use Rattle.board_chain.proofs.chain.Chain.capture.Goals as goal

pub invariant_of-self : goal.invariant_of-self
invariant_of-self c = c.capture.ensures.told c.self.inside.trst c.self.invariant

pub returns : goal.returns
returns c = chain_becomes as_told (λ v. in_registers (capture_all c.args.column (told v.nets (members v.chips)) 0)) c.self.inside.trst c.self.inside.settled c.capture.new.self _ c.self.view_is c.capture.ensures
