use Rattle.std.proofs.Common.{true, map}
use Rattle.jt_tap.specs.declared.State.TheVariants.{Reset}
use Rattle.board_model.specs.Chain.{members}
use Rattle.board_model.specs.Resting.{chip_at_rest}
use Rattle.board_model.specs.Whole.{settled_member, trst_member}
use Rattle.board_chain.proofs.SettledLaws.{chain_becomes}
use Rattle.board_chain.proofs.chain.Chain.assert_trst.Goals as goal

pub invariant_of-self : goal.invariant_of-self
invariant_of-self c = c.assert_trst.ensures.told c.self.inside.trst c.self.invariant

pub returns : goal.returns
returns c = chain_becomes (λ level. true) (λ v chips. map (chip_at_rest Reset) (map (trst_member (settled_member c.args.rests)) (members chips))) c.self.inside.trst c.self.inside.settled c.assert_trst.new.self _ c.self.view_is c.assert_trst.ensures
