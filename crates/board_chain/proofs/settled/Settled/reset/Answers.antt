use Rattle.std.proofs.Common.{List, map, subst}
use Rattle.board_model.specs.Whole.{reset_member}
use Rattle.board_chips.specs.WiredChips.{WiredChipValue}
use Rattle.board_chain.specs.AtRest.{Changes, in_registers}
use Rattle.board_chain.specs.Settled.{as_told}
use Rattle.board_chain.specs.Sweeping.{EachFrom}
use Rattle.board_chain.proofs.Changing.{anew_becomes, anew_holds, anew_was, changed}
use Rattle.board_chain.proofs.SettledLaws.{seen_as}
use Rattle.board_chain.proofs.settled.Settled.reset.Goals as goal

pub put_anew-requires : goal.put_anew-requires
put_anew-requires c =
    let s = c.self.inside in
    let old = s.chips.items in
    let mid = c.reset_all.new.chips in
    let each : EachFrom (Changes reset_member) 0 old mid = subst (λ (l : List WiredChipValue). EachFrom (Changes reset_member) 0 l mid) c.deref_mut.ensures.value c.reset_all.ensures in
    let change = changed reset_member old mid each in
    anew_was as_told _ s.chips mid change c.deref_mut-2.result.now c.deref_mut-2.ensures.value s.nets.wiring s.nets.driving s.nets.strings.items c.self.invariant

pub invariant_of-self : goal.invariant_of-self
invariant_of-self c =
    let s = c.self.inside in
    let old = s.chips.items in
    let mid = c.reset_all.new.chips in
    let each : EachFrom (Changes reset_member) 0 old mid = subst (λ (l : List WiredChipValue). EachFrom (Changes reset_member) 0 l mid) c.deref_mut.ensures.value c.reset_all.ensures in
    let change = changed reset_member old mid each in
    let after = c.put_anew.new.self in
    anew_holds as_told _ s.chips mid change c.deref_mut-2.result.now c.deref_mut-2.ensures.value c.put_anew.new.chips c.put_anew.ensures.same
    after.wiring after.driving after.strings.items c.put_anew.ensures.settled

pub returns : goal.returns
returns c =
    let s = c.self.inside in
    let old = s.chips.items in
    let mid = c.reset_all.new.chips in
    let each : EachFrom (Changes reset_member) 0 old mid = subst (λ (l : List WiredChipValue). EachFrom (Changes reset_member) 0 l mid) c.deref_mut.ensures.value c.reset_all.ensures in
    let change = changed reset_member old mid each in
    seen_as (λ v. in_registers (map reset_member)) c.self.view_is
    (anew_becomes as_told _ s.chips mid change c.deref_mut-2.result.now c.deref_mut-2.ensures.value c.put_anew.new.chips c.put_anew.ensures.same
    s.nets.wiring.nets c.put_anew.new.self.wiring.nets c.put_anew.ensures.nets)
