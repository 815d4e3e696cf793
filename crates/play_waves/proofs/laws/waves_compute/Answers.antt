use Rattle.play_waves.proofs.RowsCompute.{wave_rows}
use Rattle.play_waves.proofs.laws.waves_compute.Goals as goal

pub returns : goal.returns
returns c = wave_rows
