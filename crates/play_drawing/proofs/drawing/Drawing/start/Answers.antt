use Rattle.std.proofs.Common.{length, ap, ◌∙◌, List, arith}
use Rattle.pin_nets.specs.Wired.{Net}
use Rattle.board_model.specs.Chain.{ChipState}
use Rattle.byte_streams.proofs.Fronts.{WritesAll-is}
use Rattle.wave_files.specs.Heading.{first_values}
use Rattle.play_drawing.specs.Waves.{starts}
use Rattle.play_drawing.proofs.drawing.Drawing.start.Goals as goal

pub write_first_values-requires-clause-few : goal.write_first_values-requires-clause-few
write_first_values-requires-clause-few g c = omega (arith, c.self.invariant.1, ap (λ (cs : List ChipState). length cs) c.chain.ensures.chips)

pub write_first_values-requires-clause-few_nets : goal.write_first_values-requires-clause-few_nets
write_first_values-requires-clause-few_nets g c = omega (arith, c.self.invariant.2, ap (λ (ns : List Net). length ns) c.chain.ensures.nets)

pub returns : goal.returns
returns g c =
    WritesAll-is ((λ i. first_values c.args.noted c.self.inside.extras (c.shown_on-shown.ensures i) (c.chain.ensures.chips i) (c.chain.ensures.nets i)) ∙ ap (starts c.args.noted) c.self.view_is)
    c.write_first_values.ensures
