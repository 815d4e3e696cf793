use Rattle.board_chain.specs.Words.{word_bits}
use Rattle.board_chain.specs.AtRest.{in_registers, shifted_through}
use Rattle.board_chain.specs.Settled.{as_told}
use Rattle.board_chain.proofs.SettledLaws.{chain_becomes}
use Rattle.board_chain.proofs.chain.Chain.shift_word.Goals as goal

pub invariant_of-self : goal.invariant_of-self
invariant_of-self c = c.shift_word.ensures.told c.self.inside.trst c.self.invariant

pub returns : goal.returns
returns c = chain_becomes as_told (λ v. in_registers (shifted_through c.args.column (word_bits c.args.bits c.args.n))) c.self.inside.trst c.self.inside.settled c.shift_word.new.self _ c.self.view_is c.shift_word.ensures
