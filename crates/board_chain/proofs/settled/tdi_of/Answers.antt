use Rattle.std.proofs.Common.{true, length, unwrap_or, refl, sym, ap, ◌∙◌}
use Rattle.std.proofs.lemmas.Bool.{ltb-true}
use Rattle.std.proofs.lemmas.Option.{slice_get_read}
use Rattle.board_chain.proofs.ChainLaws.{tdo_there}
use Rattle.board_chain.proofs.settled.tdi_of.Goals as goal

pub returns-in-Some : goal.returns-in-Some
returns-in-Some c =
    let chips = c.args.chips.now in
    c.unwrap_or.ensures ∙ ap (λ o. unwrap_or o true) c.tdo.ensures
    ∙ sym (tdo_there c.args.tdi chips c.args.i c.in-Some.chip.now
    (slice_get_read chips (length chips) c.args.i c.in-Some.chip.now refl (ltb-true c.args.i (length chips) (sym c.in-Some.ensures.lookup.0)) c.in-Some.ensures.lookup.1))
