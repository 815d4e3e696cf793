use Rattle.std.proofs.Common.{sym, ap, ◌∙◌}
use Rattle.jt_tap.specs.declared.Column.TheVariants.{Dr}
use Rattle.board_model.specs.Chain.{members}
use Rattle.board_chips.specs.WiredChips.{chip_state, member_of}
use Rattle.board_reasons.specs.declared.origins.Captured.{Captured}
use Rattle.board_reasons.specs.declared.origins.SelectedBy.{SelectedBy}
use Rattle.board_reasons.specs.declared.origins.Holder.TheVariants.{Bypass, Identification, Cell, User}
use Rattle.board_reasons.specs.Holders.{held_in, in_register}
use Rattle.board_reasons.proofs.Walks.{held_alike}
use Rattle.board_reasons.proofs.finding.in_register.Goals as goal

pub returns-in-Bypass : goal.returns-in-Bypass
returns-in-Bypass c =
    let chain = c.args.chain.now in
    let device = c.args.device in
    let bit = c.args.bit in
    let ms = members chain.chips in
    held_alike chain.nets chain.chips device bit (chip_state c.args.chip.now) (held_in chain.nets ms Dr device bit) (Bypass device c.selected_by.result) c.requires.chip
    (ap (in_register chain.nets ms device bit (member_of c.args.chip.now)) (sym c.selected.ensures ∙ c.in-Bypass.is)
    ∙ ap (λ (by : SelectedBy). Bypass device by) (sym c.selected_by.ensures))

pub returns-in-Identification : goal.returns-in-Identification
returns-in-Identification c =
    let chain = c.args.chain.now in
    let device = c.args.device in
    let bit = c.args.bit in
    let ms = members chain.chips in
    held_alike chain.nets chain.chips device bit (chip_state c.args.chip.now) (held_in chain.nets ms Dr device bit) (Identification device bit) c.requires.chip
    (ap (in_register chain.nets ms device bit (member_of c.args.chip.now)) (sym c.selected.ensures ∙ c.in-Identification.is))

pub returns-in-User : goal.returns-in-User
returns-in-User c =
    let chain = c.args.chain.now in
    let device = c.args.device in
    let bit = c.args.bit in
    let ms = members chain.chips in
    held_alike chain.nets chain.chips device bit (chip_state c.args.chip.now) (held_in chain.nets ms Dr device bit) (User device c.in-User.register bit) c.requires.chip
    (ap (in_register chain.nets ms device bit (member_of c.args.chip.now)) (sym c.selected.ensures ∙ c.in-User.is))

pub returns-in-Boundary : goal.returns-in-Boundary
returns-in-Boundary c =
    let chain = c.args.chain.now in
    let device = c.args.device in
    let bit = c.args.bit in
    let ms = members chain.chips in
    held_alike chain.nets chain.chips device bit (chip_state c.args.chip.now) (held_in chain.nets ms Dr device bit) (Cell device bit c.captured_at.result) c.requires.chip
    (ap (in_register chain.nets ms device bit (member_of c.args.chip.now)) (sym c.selected.ensures ∙ c.in-Boundary.is)
    ∙ ap (λ (captured : Captured). Cell device bit captured) (sym c.captured_at.ensures))
