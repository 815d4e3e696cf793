use Rattle.std.proofs.Common.{Bool, List, ap, false, map, subst, if◌then◌else◌}
use Rattle.board_model.specs.Chain.{assert_trst}
use Rattle.board_chips.specs.WiredChips.{WiredChipValue}
use Rattle.board_chain.specs.Sweeping.{EachFrom, TakesTrst}
use Rattle.board_chain.proofs.ChainLaws.{drives_with, each_still}
use Rattle.board_chain.proofs.Changing.{anew_becomes, anew_was, quiet_becomes, quiet_holds, told_trst}
use Rattle.board_chain.proofs.SettledLaws.{seen_as}
use Rattle.board_chain.proofs.settled.Settled.tell_trst.Goals as goal

pub put_anew-requires : goal.put_anew-requires
put_anew-requires c =
    let s = c.self.inside in
    let old = s.chips.items in
    let mid = c.tell_trst_all.new.chips in
    let each : EachFrom (TakesTrst c.args.trst) 0 old mid = subst (λ (l : List WiredChipValue). EachFrom (TakesTrst c.args.trst) 0 l mid) c.deref_mut.ensures.value c.tell_trst_all.ensures in
    let change = told_trst c.args.trst old mid each in
    anew_was (λ level. c.args.trst) _ s.chips mid change c.deref_mut-then-trst.result.now c.deref_mut-then-trst.ensures.value s.nets.wiring s.nets.driving s.nets.strings.items c.self.invariant

pub invariant_of-self-else-trst : goal.invariant_of-self-else-trst
invariant_of-self-else-trst c =
    let s = c.self.inside in
    let old = s.chips.items in
    let mid = c.tell_trst_all.new.chips in
    let each : EachFrom (TakesTrst c.args.trst) 0 old mid = subst (λ (l : List WiredChipValue). EachFrom (TakesTrst c.args.trst) 0 l mid) c.deref_mut.ensures.value c.tell_trst_all.ensures in
    let change = told_trst c.args.trst old mid each in
    quiet_holds s.chips mid s.nets.wiring s.nets.driving s.nets.strings.items c.self.invariant change.each
    (each_still (TakesTrst false) (λ i s t r core p. ap (drives_with core p) r.chip) 0 old mid (subst (λ (b : Bool). EachFrom (TakesTrst b) 0 old mid) c.if-trst.false each))

pub returns-then-trst : goal.returns-then-trst
returns-then-trst c =
    let s = c.self.inside in
    let old = s.chips.items in
    let mid = c.tell_trst_all.new.chips in
    let each : EachFrom (TakesTrst c.args.trst) 0 old mid = subst (λ (l : List WiredChipValue). EachFrom (TakesTrst c.args.trst) 0 l mid) c.deref_mut.ensures.value c.tell_trst_all.ensures in
    let change = told_trst c.args.trst old mid each in
    seen_as (λ v chips. if c.args.trst then map assert_trst chips else chips) c.self.view_is
    (anew_becomes (λ level. c.args.trst) _ s.chips mid change c.deref_mut-then-trst.result.now c.deref_mut-then-trst.ensures.value c.put_anew.new.chips c.put_anew.ensures.same
    s.nets.wiring.nets c.put_anew.new.self.wiring.nets c.put_anew.ensures.nets)

pub returns-else-trst : goal.returns-else-trst
returns-else-trst c =
    let s = c.self.inside in
    let old = s.chips.items in
    let mid = c.tell_trst_all.new.chips in
    let each : EachFrom (TakesTrst c.args.trst) 0 old mid = subst (λ (l : List WiredChipValue). EachFrom (TakesTrst c.args.trst) 0 l mid) c.deref_mut.ensures.value c.tell_trst_all.ensures in
    let change = told_trst c.args.trst old mid each in
    seen_as (λ v chips. if c.args.trst then map assert_trst chips else chips) c.self.view_is (quiet_becomes (λ level. c.args.trst) _ s.chips mid change s.nets.wiring.nets)
