use Rattle.scan_vectors.specs.Held.{bits}
use Rattle.scan_vectors.specs.Vector.{tdis}
use Rattle.board_chain.specs.AtRest.{in_registers, shifted_through}
use Rattle.board_chain.specs.Settled.{as_told}
use Rattle.board_chain.proofs.SettledLaws.{chain_becomes}
use Rattle.board_chain.proofs.chain.Chain.shift.Goals as goal

pub invariant_of-self : goal.invariant_of-self
invariant_of-self c = c.shift.ensures.told c.self.inside.trst c.self.invariant

pub returns : goal.returns
returns c = chain_becomes as_told (λ v. in_registers (shifted_through c.args.column (tdis (bits c.args.vector.now)))) c.self.inside.trst c.self.inside.settled c.shift.new.self _ c.self.view_is c.shift.ensures
