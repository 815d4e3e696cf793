use Rattle.std.proofs.Common.{◌++◌}
use Rattle.byte_streams.proofs.Fronts.{WritesAll-is}
use Rattle.board_description.specs.Words.{port_of}
use Rattle.wave_files.specs.Heading.{fronted}
use Rattle.play_waves.proofs.pins.write_pin_of.Goals as goal

pub returns : goal.returns
returns g c = WritesAll-is (λ i. fronted (c.name.ensures i) ++ port_of (c.device.ensures i) c.args.port) c.write_pin_named.ensures
