use Rattle.std.proofs.Common.{arith}
use Rattle.std.proofs.lemmas.Grind.{common_steps}
use Rattle.byte_streams.proofs.Fronts.{WritesAll-is}
use Rattle.play_waves.proofs.variables.write_bits_kind.Goals as goal

pub returns : goal.returns
returns g c = WritesAll-is (grind (arith, common_steps)) c.put_pieces.ensures.writes
