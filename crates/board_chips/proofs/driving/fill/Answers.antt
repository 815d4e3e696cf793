use Rattle.std.proofs.Common.{◌≡◌, ◌+◌, ◌%◌, Some, length, slice_get, sym, ap, ◌∙◌, refl}
use Rattle.std.proofs.lemmas.Option.{slice_get_read, same_Some}
use Rattle.jt_bits.specs.Packed.{has_bit}
use Rattle.board_chips.specs.declared.driving.Block.{Block}
use Rattle.board_chips.proofs.SlotLaws.{slots_filled}
use Rattle.board_chips.proofs.driving.fill.Goals as goal

pub returns-clause-slots : goal.returns-clause-slots
returns-clause-slots c =
    let blocks = c.args.blocks.now.items in
    let r = c.requires.room in
    let i = c.args.place in
    let b = c.index-block.result.now in
    let at : slice_get blocks i ≡ Some b = slice_get_read blocks (length blocks) i b refl r.inside c.index-block.ensures in
    let is : r.b ≡ b = same_Some r.b b (sym r.at ∙ at) in
    λ n es s. slots_filled es n blocks c.args.pins.now.items c.args.it i b c.with_bit.result s at
    (sym (ap (λ (x : Block). x.device) is) ∙ r.device)
    (sym (ap (λ (x : Block). x.first + c.args.it.cell % 64) is) ∙ r.first)
    (sym (ap (λ (x : Block). has_bit x.slots (c.args.it.cell % 64)) is) ∙ r.free)
    c.with_bit.ensures.here c.with_bit.ensures.others
