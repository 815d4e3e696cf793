use Rattle.std.proofs.Common.{◌≡◌, ◌∙◌, List, length, map, sym, ap, subst}
use Rattle.std.proofs.lemmas.List.{with_items_is}
use Rattle.board_model.specs.Following.{after_strings}
use Rattle.board_chips.specs.Driving.{cells_of, driving_of}
use Rattle.board_chips.specs.WiredChips.{AllTold, WiredChipValue, chip_state, held_of}
use Rattle.board_chips.specs.Strings.{AreStrung, less_core, placed_of}
use Rattle.board_chips.specs.Tables.{IsApart, IsTable}
use Rattle.board_chips.specs.Wires.{IsWired}
use Rattle.board_chips.specs.declared.strings.WiredString.{WiredString}
use Rattle.board_chain.specs.Settled.{IsSettled}
use Rattle.board_chain.proofs.PowerLaws.{first_settled}
use Rattle.board_chain.proofs.SettledLaws.{same_chips, same_long, same_told}
use Rattle.board_chain.proofs.settled.Settled.first.Goals as goal

pub invariant_of-result : goal.invariant_of-result
invariant_of-result c =
    let items = c.args.chips.items in
    let strings = c.args.strings.items in
    let w = c.args.wiring in
    let d = c.in_ok-driving.driving in
    let new = c.settle.new.chips in
    let less = subst (λ (l : List WiredChipValue). map less_core new ≡ map less_core l) c.deref_mut.ensures.value c.settle.ensures.same in
    let held : map held_of new ≡ after_strings w.nets (map placed_of strings) (map held_of items) =
    c.settle.ensures.held
    ∙ ap (λ (l : List WiredString). after_strings w.nets (map placed_of l) (map held_of c.deref_mut.result.now)) c.deref-3.ensures.value
    ∙ ap (λ (l : List WiredChipValue). after_strings w.nets (map placed_of strings) (map held_of l)) c.deref_mut.ensures.value in
    let table = subst (λ (l : List WiredChipValue). IsTable (driving_of l w.nets) (length l) d) c.deref.ensures.value c.in_ok-driving.ensures.table in
    let apart = subst (λ (l : List WiredString). IsApart l d) c.deref-2.ensures.value c.in_ok-driving.ensures.apart in
    let is = with_items_is c.args.chips new (same_long new items less ∙ sym c.args.chips.ok.0) in
    subst (λ (l : List WiredChipValue). IsSettled l c.settle.new.wiring d strings) (sym is)
    (first_settled items new w c.settle.new.wiring d strings c.requires.wired c.requires.held c.requires.strung c.requires.order table c.in_ok-driving.ensures.put apart
    c.settle.ensures.nets c.settle.ensures.wired held less)

pub settle-requires-clause-wired : goal.settle-requires-clause-wired
settle-requires-clause-wired c = subst (λ (l : List WiredChipValue). IsWired l c.args.wiring) (sym c.deref_mut.ensures.value) c.requires.wired

pub settle-requires-clause-strings : goal.settle-requires-clause-strings
settle-requires-clause-strings c =
    subst (λ (l : List WiredString). AreStrung c.args.wiring.nets (map cells_of c.deref_mut.result.now) l) (sym c.deref-3.ensures.value)
    (subst (λ (l : List WiredChipValue). AreStrung c.args.wiring.nets (map cells_of l) c.args.strings.items) (sym c.deref_mut.ensures.value) c.requires.strung)

pub returns : goal.returns
returns c =
    let items = c.args.chips.items in
    let new = c.settle.new.chips in
    let less = subst (λ (l : List WiredChipValue). map less_core new ≡ map less_core l) c.deref_mut.ensures.value c.settle.ensures.same in
    let is = with_items_is c.args.chips new (same_long new items less ∙ sym c.args.chips.ok.0) in
    record {
      chips = ap (map chip_state) is ∙ same_chips new items less;
      told = λ level told. subst (AllTold level) (sym is) (same_told level new items less told);
      nets = c.settle.ensures.nets;
    }
