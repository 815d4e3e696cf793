use Rattle.std.proofs.Common.{List, map, sym, subst}
use Rattle.bsdl_device.specs.declared.Cell.{Cell}
use Rattle.pin_nets.specs.Wired.{Net}
use Rattle.board_chips.specs.Driving.{cells_of}
use Rattle.board_chips.specs.Strings.{AreStrung}
use Rattle.board_chips.specs.Tables.{IsDriving}
use Rattle.board_chips.specs.declared.strings.WiredString.{WiredString}
use Rattle.board_chain.specs.Settled.{IsSettled, Keeps}
use Rattle.board_chain.proofs.ChainLaws.{driven_wired}
use Rattle.board_chain.proofs.SettledLaws.{anew_settled, kept_cells_of}
use Rattle.board_chain.proofs.settled.driven_nets.DrivenNets.put_anew.Goals as goal

pub refresh_driving-requires : goal.refresh_driving-requires
refresh_driving-requires c =
    subst (λ (cs : List (List Cell)). IsDriving cs c.args.self.now.wiring c.args.self.now.driving)
    (kept_cells_of c.requires.before c.args.chips.now c.requires.kept) c.requires.settled.driving

pub settle-requires-clause-wired : goal.settle-requires-clause-wired
settle-requires-clause-wired c =
    driven_wired Keeps (λ i s t k. k) c.requires.before c.args.chips.now c.args.self.now.wiring c.refresh_driving.new.wiring
    c.requires.settled.wired c.requires.kept c.refresh_driving.ensures.drives

pub settle-requires-clause-strings : goal.settle-requires-clause-strings
settle-requires-clause-strings c =
    let strings = c.args.self.now.strings.items in
    subst (λ (ss : List WiredString). AreStrung c.refresh_driving.new.wiring.nets (map cells_of c.args.chips.now) ss) (sym c.deref.ensures.value)
    (subst (λ (ns : List Net). AreStrung ns (map cells_of c.args.chips.now) strings) (sym c.refresh_driving.ensures.nets)
    (subst (λ (cs : List (List Cell)). AreStrung c.args.self.now.wiring.nets cs strings)
    (kept_cells_of c.requires.before c.args.chips.now c.requires.kept) c.requires.settled.strung))

pub returns-clause-settled : goal.returns-clause-settled
returns-clause-settled c =
    subst (λ (ss : List WiredString). IsSettled c.settle.new.chips c.settle.new.wiring c.refresh_driving.new.driving ss) c.deref.ensures.value
    (anew_settled c.requires.before c.args.chips.now c.settle.new.chips c.args.self.now.wiring c.refresh_driving.new.wiring c.settle.new.wiring
    c.args.self.now.driving c.refresh_driving.new.driving c.deref.result.now
    (subst (λ (ss : List WiredString). IsSettled c.requires.before c.args.self.now.wiring c.args.self.now.driving ss) (sym c.deref.ensures.value) c.requires.settled)
    c.requires.kept c.refresh_driving.ensures.nets
    c.refresh_driving.ensures.driving c.refresh_driving.ensures.table c.settle.ensures.nets c.settle.ensures.wired c.settle.ensures.held
    c.settle.ensures.same c.settle.ensures.others)
