use Rattle.std.proofs.Common.{List, map, subst}
use Rattle.board_model.specs.Chain as meant
use Rattle.board_chips.specs.WiredChips.{WiredChipValue}
use Rattle.board_chain.specs.Settled.{as_told}
use Rattle.board_chain.specs.Sweeping.{EachFrom, Falls, Still}
use Rattle.board_chain.proofs.Changing.{anew_becomes, anew_was, quiet_becomes, quiet_holds, fallen}
use Rattle.board_chain.proofs.SettledLaws.{seen_as}
use Rattle.board_chain.proofs.settled.Settled.fall.Goals as goal

pub put_anew-requires : goal.put_anew-requires
put_anew-requires c =
    let s = c.self.inside in
    let old = s.chips.items in
    let mid = c.fall_all.new.chips in
    let each : EachFrom Falls 0 old mid = subst (λ (l : List WiredChipValue). EachFrom Falls 0 l mid) c.deref_mut.ensures.value c.fall_all.ensures.devices in
    let change = fallen old mid each in
    anew_was as_told _ s.chips mid change c.deref_mut-then-fall_all.result.now c.deref_mut-then-fall_all.ensures.value s.nets.wiring s.nets.driving s.nets.strings.items c.self.invariant

pub invariant_of-self-else-fall_all : goal.invariant_of-self-else-fall_all
invariant_of-self-else-fall_all c =
    let s = c.self.inside in
    let old = s.chips.items in
    let mid = c.fall_all.new.chips in
    let each : EachFrom Falls 0 old mid = subst (λ (l : List WiredChipValue). EachFrom Falls 0 l mid) c.deref_mut.ensures.value c.fall_all.ensures.devices in
    let change = fallen old mid each in
    quiet_holds s.chips mid s.nets.wiring s.nets.driving s.nets.strings.items c.self.invariant change.each
    (subst (λ (l : List WiredChipValue). EachFrom Still 0 l mid) c.deref_mut.ensures.value (c.fall_all.ensures.still c.if-fall_all.false))

pub returns-then-fall_all : goal.returns-then-fall_all
returns-then-fall_all c =
    let s = c.self.inside in
    let old = s.chips.items in
    let mid = c.fall_all.new.chips in
    let each : EachFrom Falls 0 old mid = subst (λ (l : List WiredChipValue). EachFrom Falls 0 l mid) c.deref_mut.ensures.value c.fall_all.ensures.devices in
    let change = fallen old mid each in
    seen_as (λ v. map meant.fall) c.self.view_is
    (anew_becomes as_told _ s.chips mid change c.deref_mut-then-fall_all.result.now c.deref_mut-then-fall_all.ensures.value c.put_anew.new.chips c.put_anew.ensures.same
    s.nets.wiring.nets c.put_anew.new.self.wiring.nets c.put_anew.ensures.nets)

pub returns-else-fall_all : goal.returns-else-fall_all
returns-else-fall_all c =
    let s = c.self.inside in
    let old = s.chips.items in
    let mid = c.fall_all.new.chips in
    let each : EachFrom Falls 0 old mid = subst (λ (l : List WiredChipValue). EachFrom Falls 0 l mid) c.deref_mut.ensures.value c.fall_all.ensures.devices in
    let change = fallen old mid each in
    seen_as (λ v. map meant.fall) c.self.view_is (quiet_becomes as_told _ s.chips mid change s.nets.wiring.nets)
