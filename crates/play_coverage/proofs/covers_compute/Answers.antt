use Rattle.std.proofs.Common.{refl, arith}
use Rattle.std.proofs.lemmas.Fmt.{decimal_digit}
use Rattle.play_coverage.proofs.covers_compute.Goals as goal

pub returns : goal.returns
returns c = record {
  caught = rw (decimal_digit 8 (omega arith), decimal_digit 5 (omega arith)) refl;
  missed = refl;
  invisible = refl;
  some_ways = refl;
  one_way_missed = refl;
  so_not_caught = refl;
  all_ways = refl;
  nothing_shows = refl;
  contends = rw (decimal_digit 4 (omega arith)) refl;
  loops = rw (decimal_digit 2 (omega arith)) refl;
  no_loops = refl;
  newly_marked = refl;
  marked = refl;
  a_miss = refl;
  no_miss = refl;
}
