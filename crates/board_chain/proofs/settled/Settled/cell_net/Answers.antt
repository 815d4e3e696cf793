use Rattle.std.proofs.Common.{◌≡◌, ◌∙◌, ◌<◌, ℕ, length, Option, Some, option_map, slice_get, get_or, sym, ap, subst}
use Rattle.std.specs.Prelude.{option_and_then}
use Rattle.std.proofs.lemmas.Option.{slice_get-get_or}
use Rattle.board_plan.specs.CellNets.{cell_net}
use Rattle.board_chips.specs.WiredChips.{WiredChipValue}
use Rattle.board_chain.specs.Settled.{SettledValue}
use Rattle.board_chain.proofs.CellLaws.{wired_cell}
use Rattle.board_chain.proofs.settled.Settled.cell_net.Goals as goal

pub returns : goal.returns
returns c =
    let chips = c.self.inside.chips.items in
    let nets = c.self.inside.nets.wiring.nets in
    let i = c.args.i in
    let cell = c.args.cell in
    let s = get_or chips i c.index.result.now in
    let inside = subst (λ (v : SettledValue). i < length v.chips) (sym c.self.view_is) c.requires in
    let here : slice_get chips i ≡ Some s = slice_get-get_or chips i c.index.result.now inside in
    subst (λ (v : SettledValue). option_map (λ (t : WiredChipValue). option_and_then (cell_net v.nets i) (slice_get t.chip.device.cells cell)) (slice_get v.chips i)
    ≡ Some c.cell_net.result) c.self.view_is
    (ap (option_map (λ (t : WiredChipValue). option_and_then (cell_net nets i) (slice_get t.chip.device.cells cell))) here
    ∙ ap (λ (o : Option ℕ). Some o)
    (sym (wired_cell nets chips i cell s c.self.invariant.wired.cells here)
    ∙ ap (λ (t : WiredChipValue). option_and_then (λ net. net) (slice_get t.nets cell)) (sym c.index.ensures) ∙ sym c.cell_net.ensures))
