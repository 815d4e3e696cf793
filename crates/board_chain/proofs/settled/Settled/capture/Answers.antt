use Rattle.std.proofs.Common.{List, map, subst}
use Rattle.board_chips.specs.WiredChips.{WiredChipValue, chip_state}
use Rattle.board_chain.specs.Settled.{as_told}
use Rattle.board_model.specs.Chain.{members}
use Rattle.board_model.specs.Nets.{told}
use Rattle.board_model.specs.Whole.{capture_all}
use Rattle.board_chain.specs.AtRest.{CapturesAt, in_registers}
use Rattle.board_chain.specs.Sweeping.{EachFrom}
use Rattle.board_chain.proofs.Changing.{captured, quiet_becomes, quiet_holds}
use Rattle.board_chain.proofs.RestLaws.{captured_still}
use Rattle.board_chain.proofs.SettledLaws.{seen_as}
use Rattle.board_chain.proofs.settled.Settled.capture.Goals as goal

pub invariant_of-self : goal.invariant_of-self
invariant_of-self c =
    let s = c.self.inside in
    let old = s.chips.items in
    let mid = c.capture_all.new.chips in
    let each : EachFrom (CapturesAt s.nets.wiring c.args.column) 0 old mid = subst (λ (l : List WiredChipValue). EachFrom (CapturesAt s.nets.wiring c.args.column) 0 l mid) c.deref_mut.ensures.value c.capture_all.ensures in
    quiet_holds s.chips mid s.nets.wiring s.nets.driving s.nets.strings.items c.self.invariant (captured s.nets.wiring c.args.column old mid c.self.invariant.wired c.self.invariant.in_force each).each (captured_still s.nets.wiring c.args.column old c.self.invariant.wired mid each)

pub returns : goal.returns
returns c =
    let s = c.self.inside in
    let old = s.chips.items in
    let mid = c.capture_all.new.chips in
    let each : EachFrom (CapturesAt s.nets.wiring c.args.column) 0 old mid = subst (λ (l : List WiredChipValue). EachFrom (CapturesAt s.nets.wiring c.args.column) 0 l mid) c.deref_mut.ensures.value c.capture_all.ensures in
    seen_as (λ v. in_registers (capture_all c.args.column (told v.nets (members (map chip_state v.chips))) 0)) c.self.view_is (quiet_becomes as_told _ s.chips mid (captured s.nets.wiring c.args.column old mid c.self.invariant.wired c.self.invariant.in_force each) s.nets.wiring.nets)
