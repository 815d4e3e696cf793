-- The samples compute.
use Rattle.std.proofs.Common.{refl}
use Rattle.play_model.specs.ScheduleSamples.{ConnectionsMustBeOpen}

pub connections_open : ConnectionsMustBeOpen
connections_open = record {
  window = record { quit = refl; lost = refl; put = refl; serve = refl; take = refl };
  down_room = record { quit = refl; lost = refl; put = refl; serve = refl; take = refl };
  up_room = record { quit = refl; lost = refl; put = refl; serve = refl; take = refl };
  is_open = refl;
  ending = refl;
  stops = refl;
  goes_on = refl;
  all = refl;
}
