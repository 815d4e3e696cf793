use Rattle.std.proofs.Common.{List, ap, map, subst}
use Rattle.board_chips.specs.WiredChips.{WiredChipValue}
use Rattle.board_chain.specs.Settled.{as_told}
use Rattle.board_model.specs.Chain.{members}
use Rattle.board_model.specs.Resting.{chip_at_rest}
use Rattle.board_chain.specs.AtRest.{Stands}
use Rattle.board_chain.specs.Sweeping.{EachFrom}
use Rattle.board_chain.proofs.ChainLaws.{drives_with, each_still}
use Rattle.board_chain.proofs.Changing.{quiet_becomes, quiet_holds, stood}
use Rattle.board_chain.proofs.SettledLaws.{seen_as}
use Rattle.board_chain.proofs.settled.Settled.stand.Goals as goal

pub invariant_of-self : goal.invariant_of-self
invariant_of-self c =
    let s = c.self.inside in
    let old = s.chips.items in
    let mid = c.stand_all.new.chips in
    let each : EachFrom (Stands c.args.state) 0 old mid = subst (λ (l : List WiredChipValue). EachFrom (Stands c.args.state) 0 l mid) c.deref_mut.ensures.value c.stand_all.ensures in
    quiet_holds s.chips mid s.nets.wiring s.nets.driving s.nets.strings.items c.self.invariant (stood c.args.state old mid each).each (each_still (Stands c.args.state) (λ i s t r core p. ap (drives_with core p) r.chip) 0 old mid each)

pub returns : goal.returns
returns c =
    let s = c.self.inside in
    let old = s.chips.items in
    let mid = c.stand_all.new.chips in
    let each : EachFrom (Stands c.args.state) 0 old mid = subst (λ (l : List WiredChipValue). EachFrom (Stands c.args.state) 0 l mid) c.deref_mut.ensures.value c.stand_all.ensures in
    seen_as (λ v chips. map (chip_at_rest c.args.state) (members chips)) c.self.view_is (quiet_becomes as_told _ s.chips mid (stood c.args.state old mid each) s.nets.wiring.nets)
