use Rattle.std.proofs.Common.{refl}
use Rattle.byte_streams.proofs.Fronts.{WritesAll-stopped, WritesAll-then}
use Rattle.play_explained.specs.Lines.{at_line}
use Rattle.play_explained.proofs.telling.write_stopped.Goals as goal

pub returns-in_err-write_verdict : goal.returns-in_err-write_verdict
returns-in_err-write_verdict g c =
    WritesAll-stopped (at_line c.args.position) c.in_err-write_verdict.ensures refl c.from_residual.ensures.0

pub returns : goal.returns
returns g c = WritesAll-then c.in_ok-write_verdict.ensures refl c.write_place.ensures
