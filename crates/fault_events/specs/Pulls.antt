-- What two groups of pins see otherwise where a fault shows in a way, by the pulls of its nets.
use Rattle.std.specs.Prelude.{Bool, true, false, ◌&&◌, ◌||◌, Option}
use Rattle.pin_nets.specs.Wired.{Net}
use Rattle.board_faults.specs.declared.kinds.Way.{Way}
use Rattle.board_faults.specs.declared.kinds.Way.TheVariants as way
use Rattle.board_faults.specs.declared.together.Driven.{Driven}
use Rattle.board_faults.specs.Together.{first_of, open_differs, pull_differs, second_of, short_differs, stuck_differs}
use Rattle.std.specs.Prelude.{List}
use Rattle.fault_events.specs.declared.differing.Pulls.{Pulls}
use Rattle.fault_events.specs.declared.notes.Note.{Note}
use Rattle.fault_events.specs.declared.notes.Spot.{Spot}
use Rattle.fault_events.specs.Notes.{earlier, net_at, some_if}

abbrev pub pulls_of : List Net → Way → Pulls
pulls_of nets its_way =
    record { first = (net_at nets (first_of its_way)).pull; second = (net_at nets (second_of its_way)).pull }

abbrev pub first_sees : Way → Pulls → (f g : Driven) → Bool
first_sees (way.Pull net) p f g = pull_differs p.first true f
first_sees (way.Stuck net bit) p f g = stuck_differs p.first bit true f
first_sees (way.Open net pin bit) p f g = open_differs p.first bit true false f g
first_sees (way.Short first second winner) p f g = short_differs winner p.first p.second true false f g

abbrev pub second_sees : Way → Pulls → (f g : Driven) → Bool
second_sees (way.Open net pin bit) p f g = open_differs p.first bit false true f g
second_sees (way.Short first second winner) p f g = short_differs winner p.first p.second false true f g
second_sees its_way p f g = false

abbrev pub first_by : Way → Pulls → (one two : Note) → Option Spot
first_by its_way p one two =
    earlier (some_if (first_sees its_way p one.made two.made) one.first)
    (some_if (second_sees its_way p one.made two.made) two.first)

abbrev pub stays_by : Way → Pulls → (one two : Note) → Bool
stays_by its_way p one two =
    (one.stays && first_sees its_way p one.made two.made) || (two.stays && second_sees its_way p one.made two.made)
