use Rattle.std.proofs.Common.{ap}
use Rattle.byte_streams.proofs.Fronts.{WritesAll-is}
use Rattle.wave_files.specs.Heading.{extras_named}
use Rattle.play_waves.proofs.scopes.write_extra_scope.Goals as goal

pub returns : goal.returns
returns g c = WritesAll-is (ap (extras_named c.args.extras c.args.number) c.name.ensures) c.write_extras_named.ensures
