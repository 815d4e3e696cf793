use Rattle.std.proofs.Common.{List, map, subst}
use Rattle.board_model.specs.Whole.{update_member}
use Rattle.board_chips.specs.WiredChips.{WiredChipValue}
use Rattle.board_chain.specs.AtRest.{Changes, in_registers}
use Rattle.board_chain.specs.Settled.{as_told}
use Rattle.board_chain.specs.Sweeping.{EachFrom, Still}
use Rattle.board_chain.proofs.Changing.{anew_becomes, anew_was, quiet_becomes, quiet_holds, changed}
use Rattle.board_chain.proofs.SettledLaws.{seen_as}
use Rattle.board_chain.proofs.settled.Settled.update.Goals as goal

pub put_anew-requires : goal.put_anew-requires
put_anew-requires c =
    let s = c.self.inside in
    let old = s.chips.items in
    let mid = c.update_all.new.chips in
    let each : EachFrom (Changes (update_member c.args.column)) 0 old mid = subst (λ (l : List WiredChipValue). EachFrom (Changes (update_member c.args.column)) 0 l mid) c.deref_mut.ensures.value c.update_all.ensures.devices in
    let change = changed (update_member c.args.column) old mid each in
    anew_was as_told _ s.chips mid change c.deref_mut-then-update_all.result.now c.deref_mut-then-update_all.ensures.value s.nets.wiring s.nets.driving s.nets.strings.items c.self.invariant

pub invariant_of-self-else-update_all : goal.invariant_of-self-else-update_all
invariant_of-self-else-update_all c =
    let s = c.self.inside in
    let old = s.chips.items in
    let mid = c.update_all.new.chips in
    let each : EachFrom (Changes (update_member c.args.column)) 0 old mid = subst (λ (l : List WiredChipValue). EachFrom (Changes (update_member c.args.column)) 0 l mid) c.deref_mut.ensures.value c.update_all.ensures.devices in
    let change = changed (update_member c.args.column) old mid each in
    quiet_holds s.chips mid s.nets.wiring s.nets.driving s.nets.strings.items c.self.invariant change.each
    (subst (λ (l : List WiredChipValue). EachFrom Still 0 l mid) c.deref_mut.ensures.value (c.update_all.ensures.still c.if-update_all.false))

pub returns-then-update_all : goal.returns-then-update_all
returns-then-update_all c =
    let s = c.self.inside in
    let old = s.chips.items in
    let mid = c.update_all.new.chips in
    let each : EachFrom (Changes (update_member c.args.column)) 0 old mid = subst (λ (l : List WiredChipValue). EachFrom (Changes (update_member c.args.column)) 0 l mid) c.deref_mut.ensures.value c.update_all.ensures.devices in
    let change = changed (update_member c.args.column) old mid each in
    seen_as (λ v. in_registers (map (update_member c.args.column))) c.self.view_is
    (anew_becomes as_told _ s.chips mid change c.deref_mut-then-update_all.result.now c.deref_mut-then-update_all.ensures.value c.put_anew.new.chips c.put_anew.ensures.same
    s.nets.wiring.nets c.put_anew.new.self.wiring.nets c.put_anew.ensures.nets)

pub returns-else-update_all : goal.returns-else-update_all
returns-else-update_all c =
    let s = c.self.inside in
    let old = s.chips.items in
    let mid = c.update_all.new.chips in
    let each : EachFrom (Changes (update_member c.args.column)) 0 old mid = subst (λ (l : List WiredChipValue). EachFrom (Changes (update_member c.args.column)) 0 l mid) c.deref_mut.ensures.value c.update_all.ensures.devices in
    let change = changed (update_member c.args.column) old mid each in
    seen_as (λ v. in_registers (map (update_member c.args.column))) c.self.view_is (quiet_becomes as_told _ s.chips mid change s.nets.wiring.nets)
