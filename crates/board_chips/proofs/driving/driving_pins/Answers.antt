use Rattle.std.proofs.Common.{◌∙◌, List, subst, length, rules, arith}
use Rattle.board_chips.specs.Driving.{driving_of}
use Rattle.board_chips.specs.Blocks.{AreParts}
use Rattle.board_chips.specs.DrivingTable.{DrivingTable}
use Rattle.board_chips.specs.declared.driving.DrivingPin.{DrivingPin}
use Rattle.board_chips.proofs.RefreshLaws.{all_within, none_put, slots_apart, slots_made, table_made}
use Rattle.board_chips.proofs.driving.driving_pins.Goals as goal

pub returns-clause-table : goal.returns-clause-table
returns-clause-table c =
    let chips = c.args.chips.now in
    let nets = c.args.wiring.now.nets in
    let driving = driving_of chips nets in
    let parts : AreParts driving c.divide.new.close.items c.divide.new.rest.items =
    subst (λ (l : List DrivingPin). AreParts l c.divide.new.close.items c.divide.new.rest.items) (c.deref-2.ensures.value ∙ c.in_ok-all.ensures) c.in_ok-divide.ensures.parts in
    table_made driving c.divide.new.close.items c.deref-4.result.now (length chips) _ parts
    c.deref-4.ensures.value c.in_ok-blocks.ensures (all_within chips nets)

pub returns-clause-put : goal.returns-clause-put
returns-clause-put c =
    let blocks = c.in_ok-blocks.blocks in
    let put = c.in_ok-put.put in
    none_put blocks.items c.in_ok-blocks.pins.items put.items c.len.result
    (c.in_ok-put.ensures.items_if_clones_equal (λ y h. search rules))
    (omega (arith, c.in_ok-put.ensures.len, put.ok.0, blocks.ok.0, c.len.ensures))

pub returns-clause-apart : goal.returns-clause-apart
returns-clause-apart c =
    let chips = c.args.chips.now in
    let nets = c.args.wiring.now.nets in
    let driving = driving_of chips nets in
    let close = c.divide.new.close.items in
    let parts : AreParts driving close c.divide.new.rest.items =
    subst (λ (l : List DrivingPin). AreParts l close c.divide.new.rest.items) (c.deref-2.ensures.value ∙ c.in_ok-all.ensures) c.in_ok-divide.ensures.parts in
    let d : DrivingTable = record {
      blocks = c.in_ok-blocks.blocks.items;
      pins = c.in_ok-blocks.pins.items;
      put = c.in_ok-put.put.items;
      rest = c.divide.new.rest.items;
    } in
    let slots = slots_made driving close c.deref-4.result.now (length chips) d parts c.deref-4.ensures.value c.in_ok-blocks.ensures (all_within chips nets) in
    slots_apart c.args.strings.now c.in_ok-taken.taken close (length chips) d slots c.in_ok-taken.ensures c.in_ok-divide.ensures.apart
