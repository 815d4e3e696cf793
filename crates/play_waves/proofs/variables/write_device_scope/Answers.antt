use Rattle.std.proofs.Common.{◌∙◌, ap, length}
use Rattle.byte_streams.proofs.Fronts.{WritesAll-is}
use Rattle.std.specs.Prelude.{Bool, List}
use Rattle.wave_files.specs.Heading.{variables_named}
use Rattle.play_waves.proofs.variables.write_device_scope.Goals as goal

pub returns : goal.returns
returns g c =
    WritesAll-is (λ i. variables_named c.args.number (c.name.ensures i) ((c.len.ensures ∙ ap (λ (b : List Bool). length b) c.latch.ensures) i))
    c.write_variables_named.ensures
