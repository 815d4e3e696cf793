use Rattle.std.proofs.Common.{refl}
use Rattle.board_faults.proofs.laws.what_stays_computes.Goals as goal

pub returns : goal.returns
returns c = record {
  whole = refl;
  in_its_pause = refl;
  short = refl;
  half = refl;
  other_pause = refl;
  on_arriving = refl;
  at_rest = refl;
  along_a_path = refl;
}
