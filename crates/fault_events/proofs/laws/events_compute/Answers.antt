use Rattle.std.proofs.Common.{refl}
use Rattle.fault_events.proofs.laws.events_compute.Goals as goal

pub returns : goal.returns
returns c = record {
  from = refl;
  caught = refl;
  same = refl;
  caught_first = refl;
  caught_before = refl;
  stays = refl;
  stays_in_a_pause = refl;
  instruction = refl;
  firsts = refl;
  firsts_up_to = refl;
  none_first = refl;
}
