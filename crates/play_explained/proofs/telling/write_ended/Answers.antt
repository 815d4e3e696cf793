use Rattle.std.proofs.Common.{◌++◌, Option, ap}
use Rattle.byte_streams.proofs.Fronts.{WritesAll-is}
use Rattle.output_words.specs.declared.lines.Position.{Position}
use Rattle.play_model.specs.Endings.{verdict_line}
use Rattle.play_explained.specs.Lines.{at_line}
use Rattle.play_explained.proofs.telling.write_ended.Goals as goal

pub returns : goal.returns
returns g c =
    WritesAll-is (ap (λ (p : Option Position). verdict_line c.args.ending ++ at_line p) c.stopped_at.ensures) c.write_stopped.ensures
