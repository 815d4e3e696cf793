use Rattle.std.proofs.Common.{ap}
use Rattle.byte_streams.proofs.Fronts.{WritesAll-is}
use Rattle.play_drawing.specs.Waves.{begins}
use Rattle.play_drawing.proofs.drawing.Drawing.begin.Goals as goal

pub returns : goal.returns
returns g c = WritesAll-is (ap (begins c.args.command) c.self.view_is) c.write_beginning.ensures
