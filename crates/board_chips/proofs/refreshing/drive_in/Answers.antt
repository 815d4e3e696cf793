use Rattle.std.proofs.Common.{ap, sym, ◌∙◌}
use Rattle.std.proofs.lemmas.Option.{same_Some}
use Rattle.pin_nets.specs.declared.Drive.TheVariants.{Strong}
use Rattle.board_chips.proofs.refreshing.drive_in.Goals as goal

pub returns-then-bit : goal.returns-then-bit
returns-then-bit c =
    ap Strong c.bit-then-bit.ensures
    ∙ sym (same_Some _ _ ((c.requires.now.each c.args.j c.requires.within).own (sym c.bit.ensures ∙ c.if-bit.true)))
