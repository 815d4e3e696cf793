use Rattle.std.proofs.Common.{ap, arith}
use Rattle.scan_vectors.specs.Failures.{Found}
use Rattle.play_coverage.proofs.contending.play.Goals as goal

pub play_step-requires-clause-room : goal.play_step-requires-clause-room
play_step-requires-clause-room c = omega (arith, ap (λ (f : Found). f.total) c.new-failures.ensures)
