use Rattle.std.proofs.Common.{refl}
use Rattle.play_model.proofs.streams.samples_compute.Goals as goal

pub returns : goal.returns
returns c = record {
  quit = refl;
  both = refl;
  answered = refl;
  first = refl;
  stopped = refl;
  one = refl;
  verdict = refl;
  narrow = refl;
  owes = refl;
  takes = refl;
  works = refl;
  bad = refl;
}
