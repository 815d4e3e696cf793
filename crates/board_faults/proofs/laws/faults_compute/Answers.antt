use Rattle.std.proofs.Common.{refl}
use Rattle.board_faults.proofs.laws.faults_compute.Goals as goal

pub returns : goal.returns
returns c = record {
  all = refl;
  bridge_ways = refl;
  open_pulled = refl;
  open_free = refl;
  wrong_pull = refl;
  stuck = refl;
  second_leads = refl;
  counted = refl;
  wired_or = refl;
  first_leads = refl;
  nobody_leads = refl;
  tied = refl;
  agreed = refl;
}
