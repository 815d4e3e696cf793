-- The worked rows compute.
use Rattle.std.proofs.Common.{◌<◌, ℕ, refl, arith}
use Rattle.board_loops.specs.Loops.{IsOnLoop}
use Rattle.board_loops.specs.declared.net_loops.Dependency.{Dependency}
use Rattle.board_tables.specs.PinTexts.{pin_of, port_of, index_of}
use Rattle.board_tables.specs.FollowTexts.{follow_of, source_of, trimmed}
use Rattle.board_parts.specs.Pins.{pin_at}
use Rattle.board_parts.specs.Strings.{string_of}
use Rattle.worked_examples.specs.BoardFileRows.{BoardRows, FollowRows, LoopRows}

pub board_rows : BoardRows
unfolding pin_at pin_of port_of index_of
board_rows = (refl, refl, refl, refl, refl, refl, refl, refl, refl, refl, refl, refl, refl, refl, refl, refl, refl, refl, refl, refl, refl, refl, refl, refl, refl, refl, refl, refl, refl, refl, refl, refl, refl, refl, refl, refl)

pub follow_rows : FollowRows
unfolding string_of follow_of source_of trimmed port_of index_of
follow_rows = (refl, refl, refl, refl, refl, refl, refl, refl, refl, refl, refl, refl, refl, refl, refl, refl, refl, refl, refl, refl, refl, refl, refl)

none_below : (before : ℕ) → before < 0 → ⊥
none_below before low = omega (arith, low)

-- from the first string's source back to its target: in no step, and in one, which is the second string
pub loop_rows : LoopRows
unfolding string_of follow_of source_of trimmed port_of index_of pin_at pin_of
loop_rows = (
  record {
    place = 0;
    first = record {
      on_loop = record { string = record { target = 0; source = 0 }; stands = refl; back = (0, refl) };
      first = λ before low loop. none_below before low;
    };
    named = refl;
  },
  record {
    place = 0;
    first = record {
      on_loop = record { string = record { target = 0; source = 1 }; stands = refl; back = (1, (0, (1, refl), refl)) };
      first = λ before low loop. none_below before low;
    };
    named = refl;
  },
)
