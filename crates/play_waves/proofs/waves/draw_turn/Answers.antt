use Rattle.std.proofs.Common.{refl}
use Rattle.byte_streams.proofs.Fronts.{WritesAll-stopped, WritesAll-then}
use Rattle.play_waves.proofs.waves.draw_turn.Goals as goal

pub returns-in_err-begin-clause-writes : goal.returns-in_err-begin-clause-writes
returns-in_err-begin-clause-writes g c =
    WritesAll-stopped _ c.in_err-begin.ensures refl c.from_residual.ensures.0

pub returns-clause-writes : goal.returns-clause-writes
returns-clause-writes g c =
    WritesAll-then c.in_ok-begin.ensures refl
    (c.draw_messages.ensures.writes)
