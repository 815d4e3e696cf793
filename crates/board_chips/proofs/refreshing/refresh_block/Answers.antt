use Rattle.std.proofs.Common.{◌<◌, length, map, refl, arith}
use Rattle.std.proofs.lemmas.List.{length-map}
use Rattle.std.proofs.lemmas.Option.{slice_get_read}
use Rattle.board_chips.specs.Blocks.{TellsBlock}
use Rattle.board_chips.specs.Driving.{cells_of}
use Rattle.board_chips.specs.WiredChips.{held_of}
use Rattle.board_chips.specs.Tables.{targets}
use Rattle.board_chips.proofs.BlockLaws.{block_tells}
use Rattle.board_chips.proofs.RefreshLaws.{block_settled}
use Rattle.board_chips.proofs.refreshing.refresh_block.Goals as goal

pub returns-clause-settled : goal.returns-clause-settled
returns-clause-settled c =
    let chips = c.args.chips.now in
    let block = c.args.block in
    let s = c.index-chips-block.result in
    let inside : block.device < length chips = omega (arith, c.requires.slots.device, length-map chips held_of) in
    let tells : TellsBlock (map cells_of chips) (map held_of chips) block c.driven_cells-now.result =
    block_tells chips s block c.driven_cells-now.result (slice_get_read chips (length chips) block.device s refl inside c.index-chips-block.is) c.driven_cells-now.ensures in
    block_settled (map cells_of chips) (map held_of chips) (targets chips c.args.wiring.now.nets) c.args.wiring.now.drives c.put_slots.new.wiring.drives c.args.pins.now c.args.at block c.args.put
    c.driven_cells-now.result c.changed_slots-changed.result c.requires.put tells c.put_slots.ensures.settles c.put_slots.ensures.settled c.changed_slots-changed.ensures

pub returns-clause-tells : goal.returns-clause-tells
returns-clause-tells c =
    let chips = c.args.chips.now in
    let block = c.args.block in
    let s = c.index-chips-block.result in
    let inside : block.device < length chips = omega (arith, c.requires.slots.device, length-map chips held_of) in
    block_tells chips s block c.driven_cells-now.result (slice_get_read chips (length chips) block.device s refl inside c.index-chips-block.is) c.driven_cells-now.ensures
