use Rattle.std.proofs.Common.{◌≡◌, length, map, set, refl, ap, ◌∙◌}
use Rattle.std.proofs.lemmas.Option.{slice_get_read}
use Rattle.pin_nets.specs.declared.Drive.{Drive}
use Rattle.board_chips.specs.Driving.{entry_drives}
use Rattle.board_chips.specs.WiredChips.{held_of}
use Rattle.board_chips.proofs.DrivingLaws.{cell_by_chip}
use Rattle.board_chips.proofs.refreshing.put_one.Goals as goal

pub returns : goal.returns
returns c =
    let chips = c.args.chips.now in
    let it = c.args.it in
    let s = c.index-chips-it.result in
    let is : c.driven.result ≡ entry_drives (map held_of chips) it =
    cell_by_chip chips it.device it.cell s c.driven.result (slice_get_read chips (length chips) it.device s refl c.requires.device c.index-chips-it.is) c.driven.ensures in
    c.place.ensures ∙ ap (λ (d : Drive). record c.args.wiring.now { drives = set c.args.wiring.now.drives it.pin d }) is
