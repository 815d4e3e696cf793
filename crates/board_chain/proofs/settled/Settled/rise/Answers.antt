use Rattle.std.proofs.Common.{List, map, sym, subst}
use Rattle.board_model.specs.Chain.{members, rise_all}
use Rattle.board_model.specs.Nets.{told}
use Rattle.board_chips.specs.WiredChips.{AllTold, WiredChipValue, chip_state}
use Rattle.board_chain.specs.Settled.{SettledValue, as_told}
use Rattle.board_chain.specs.Sweeping.{EachFrom, Rises}
use Rattle.board_chain.proofs.ChainLaws.{rises_still}
use Rattle.board_chain.proofs.Changing.{quiet_becomes, quiet_holds, risen}
use Rattle.board_chain.proofs.SettledLaws.{keeps, seen_as}
use Rattle.board_chain.proofs.settled.Settled.rise.Goals as goal

pub invariant_of-self : goal.invariant_of-self
invariant_of-self c =
    let s = c.self.inside in
    let old = s.chips.items in
    let mid = c.rise_all.new.chips in
    let w = s.nets.wiring in
    let each : EachFrom (Rises w c.args.tms c.args.tdi old) 0 old mid = subst (λ (l : List WiredChipValue). EachFrom (Rises w c.args.tms c.args.tdi l) 0 l mid) c.deref_mut.ensures.value c.rise_all.ensures in
    quiet_holds s.chips mid w s.nets.driving s.nets.strings.items c.self.invariant (keeps (Rises w c.args.tms c.args.tdi old) (λ i s t r. r.kept) 0 old mid each)
    (rises_still w c.args.tms c.args.tdi old c.self.invariant.wired mid each)

pub returns : goal.returns
returns c = λ trst told-now.
    let s = c.self.inside in
    let old = s.chips.items in
    let mid = c.rise_all.new.chips in
    let w = s.nets.wiring in
    let each : EachFrom (Rises w c.args.tms c.args.tdi old) 0 old mid = subst (λ (l : List WiredChipValue). EachFrom (Rises w c.args.tms c.args.tdi l) 0 l mid) c.deref_mut.ensures.value c.rise_all.ensures in
    let known = subst (λ (v : SettledValue). AllTold trst v.chips) (sym c.self.view_is) told-now in
    seen_as (λ v. rise_all trst c.args.tms c.args.tdi (told v.nets (members (map chip_state v.chips))) 0) c.self.view_is
    (quiet_becomes as_told _ s.chips mid (risen w c.args.tms c.args.tdi trst old mid c.self.invariant.wired c.self.invariant.in_force known each) w.nets)
