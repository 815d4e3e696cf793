use Rattle.std.proofs.Common.{◌∙◌, ap, option_map, refl, slice_get}
use Rattle.jt_tap.specs.declared.Column.{Column}
use Rattle.jt_tap.specs.declared.Column.TheVariants.{Ir}
use Rattle.board_model.specs.Chain.{members}
use Rattle.board_chips.specs.WiredChips.{chip_state}
use Rattle.board_reasons.specs.declared.origins.Holder.TheVariants.{Instruction}
use Rattle.board_reasons.specs.Holders.{held_in}
use Rattle.board_reasons.proofs.Walks.{held_alike}
use Rattle.board_reasons.proofs.finding.held_in.Goals as goal

pub returns-in-Ir : goal.returns-in-Ir
returns-in-Ir c =
    let chain = c.args.chain.now in
    let ms = members chain.chips in
    let device = c.args.device in
    let bit = c.args.bit in
    ap (λ (column : Column). option_map (held_in chain.nets ms column device bit) (slice_get ms device)) c.in-Ir.is
    ∙ held_alike chain.nets chain.chips device bit (chip_state c.chip-chip.result.now) (held_in chain.nets ms Ir device bit) (Instruction device bit)
    c.chip-chip.ensures refl
