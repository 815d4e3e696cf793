use Rattle.std.proofs.Common.{List, map, subst, true}
use Rattle.jt_tap.specs.declared.State.TheVariants.{Reset}
use Rattle.board_model.specs.Chain.{members}
use Rattle.board_model.specs.Resting.{chip_at_rest}
use Rattle.board_model.specs.Whole.{settled_member, trst_member}
use Rattle.board_chips.specs.WiredChips.{WiredChipValue}
use Rattle.board_chain.specs.AtRest.{AssertsTrst}
use Rattle.board_chain.specs.Sweeping.{EachFrom}
use Rattle.board_chain.proofs.Changing.{anew_becomes, anew_holds, anew_was, asserted}
use Rattle.board_chain.proofs.SettledLaws.{seen_as}
use Rattle.board_chain.proofs.settled.Settled.assert_trst.Goals as goal

pub put_anew-requires : goal.put_anew-requires
put_anew-requires c =
    let s = c.self.inside in
    let old = s.chips.items in
    let mid = c.assert_trst_all.new.chips in
    let each : EachFrom (AssertsTrst c.args.rests) 0 old mid = subst (λ (l : List WiredChipValue). EachFrom (AssertsTrst c.args.rests) 0 l mid) c.deref_mut.ensures.value c.assert_trst_all.ensures in
    let change = asserted c.args.rests old mid each in
    anew_was (λ level. true) _ s.chips mid change c.deref_mut-2.result.now c.deref_mut-2.ensures.value s.nets.wiring s.nets.driving s.nets.strings.items c.self.invariant

pub invariant_of-self : goal.invariant_of-self
invariant_of-self c =
    let s = c.self.inside in
    let old = s.chips.items in
    let mid = c.assert_trst_all.new.chips in
    let each : EachFrom (AssertsTrst c.args.rests) 0 old mid = subst (λ (l : List WiredChipValue). EachFrom (AssertsTrst c.args.rests) 0 l mid) c.deref_mut.ensures.value c.assert_trst_all.ensures in
    let change = asserted c.args.rests old mid each in
    let after = c.put_anew.new.self in
    anew_holds (λ level. true) _ s.chips mid change c.deref_mut-2.result.now c.deref_mut-2.ensures.value c.put_anew.new.chips c.put_anew.ensures.same
    after.wiring after.driving after.strings.items c.put_anew.ensures.settled

pub returns : goal.returns
returns c =
    let s = c.self.inside in
    let old = s.chips.items in
    let mid = c.assert_trst_all.new.chips in
    let each : EachFrom (AssertsTrst c.args.rests) 0 old mid = subst (λ (l : List WiredChipValue). EachFrom (AssertsTrst c.args.rests) 0 l mid) c.deref_mut.ensures.value c.assert_trst_all.ensures in
    let change = asserted c.args.rests old mid each in
    seen_as (λ v. λ chips. map (chip_at_rest Reset) (map (trst_member (settled_member c.args.rests)) (members chips))) c.self.view_is
    (anew_becomes (λ level. true) _ s.chips mid change c.deref_mut-2.result.now c.deref_mut-2.ensures.value c.put_anew.new.chips c.put_anew.ensures.same
    s.nets.wiring.nets c.put_anew.new.self.wiring.nets c.put_anew.ensures.nets)
