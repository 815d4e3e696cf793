-- What pins can make of a net together, as ports see it, and when a way of a fault can show by that.
use Rattle.std.specs.Prelude.{Bool, true, false, not, ◌&&◌, ◌||◌, ℕ, List, [], ◌∷◌, drop, map, slice_get, take}
use Rattle.std.specs.Prelude.{slice_index_or, if◌then◌else◌, Option, Some, None}
use Rattle.std.specs.List.{list_any, remove}
use Rattle.boundary.specs.Cells.{same_bit}
use Rattle.pin_nets.specs.declared.Drive.{Drive}
use Rattle.pin_nets.specs.declared.Pin.{Pin}
use Rattle.pin_nets.specs.declared.Pull.{Pull}
use Rattle.pin_nets.specs.Levels.{is_strong, is_weak, pull_drive}
use Rattle.pin_nets.specs.Wired.{Net}
use Rattle.board_plan.specs.Planned.{Member, Wiring}
use Rattle.board_faults.specs.declared.kinds.Way.{Way}
use Rattle.board_faults.specs.declared.kinds.Way.TheVariants as way
use Rattle.board_faults.specs.declared.kinds.Winner.{Winner}
use Rattle.board_faults.specs.declared.kinds.Winner.TheVariants.{Zeros, Ones, First, Second}
use Rattle.board_faults.specs.declared.together.Driven.{Driven}
use Rattle.board_faults.specs.declared.together.Table.{Table}
use Rattle.board_faults.specs.declared.sight.PortSight.{PortSight}
use Rattle.board_faults.specs.Faults.{joined, nowhere, pull_to, rest_pull, turned}
use Rattle.board_faults.specs.Sight.{is_read, port_drives}

-- which of a strong 0, a strong 1 and a weak 0 are among these; a weak 1 is the same to ports as nothing
abbrev pub driven : List Drive → Driven
driven ds = record {
  zero = list_any (is_strong false) ds;
  one = list_any (is_strong true) ds;
  weak = list_any (is_weak false) ds;
}

abbrev pub together : Driven → Driven → Driven
together a b = record { zero = a.zero || b.zero; one = a.one || b.one; weak = a.weak || b.weak }

abbrev pub pulled : Pull → Driven
pulled p = driven (pull_drive p ∷ [])

-- what ports see
abbrev pub sees : Driven → Bool
sees d = not d.zero && (d.one || not d.weak)

-- Pins that can drive these, each for itself, can make this together: each adds one of what it can, or nothing.
abbrev pub can_make : List Driven → Driven → Bool
can_make [] f = not (f.zero || (f.one || f.weak))
can_make (o ∷ os) f =
    (if f.zero then o.zero && can_make os (record f { zero = false }) else false)
    || ((if f.one then o.one && can_make os (record f { one = false }) else false)
    || ((if f.weak then o.weak && can_make os (record f { weak = false }) else false) || can_make os f))

-- the eight
abbrev pub all_driven : List Driven
all_driven =
    record { zero = false; one = false; weak = false } ∷ record { zero = true; one = false; weak = false }
    ∷ record { zero = false; one = true; weak = false } ∷ record { zero = true; one = true; weak = false }
    ∷ record { zero = false; one = false; weak = true } ∷ record { zero = true; one = false; weak = true }
    ∷ record { zero = false; one = true; weak = true } ∷ record { zero = true; one = true; weak = true } ∷ []

-- of each of the eight whether it is so
abbrev pub table : (Driven → Bool) → Table
table is = record {
  nothing = is (record { zero = false; one = false; weak = false });
  zero = is (record { zero = true; one = false; weak = false });
  one = is (record { zero = false; one = true; weak = false });
  both = is (record { zero = true; one = true; weak = false });
  weak = is (record { zero = false; one = false; weak = true });
  weak_zero = is (record { zero = true; one = false; weak = true });
  weak_one = is (record { zero = false; one = true; weak = true });
  all = is (record { zero = true; one = true; weak = true });
}

abbrev pub at_driven : Table → Driven → Bool
at_driven t f =
    if f.weak then (if f.one then (if f.zero then t.all else t.weak_one) else (if f.zero then t.weak_zero else t.weak))
    else (if f.one then (if f.zero then t.both else t.one) else (if f.zero then t.zero else t.nothing))

abbrev pub unlike : Bool → Bool → Bool
unlike a b = not (same_bit a b)

-- ---- port bits and pins

abbrev pub port_sight : Member → ℕ → PortSight
port_sight m port = record { can = driven (port_drives m.device.cells port); read = is_read m port }

abbrev pub no_sight : PortSight
no_sight = record { can = record { zero = false; one = false; weak = false }; read = false }

abbrev pub sight_at : (port : ℕ) → Option Member → PortSight
sight_at port None = no_sight
sight_at port (Some m) = port_sight m port

abbrev pub sight_of_pin : List Member → Pin → PortSight
sight_of_pin ms pin = sight_at pin.port (slice_get ms pin.device)

abbrev pub all_can : List Member → List Pin → List Driven
all_can ms pins = map (λ p. (sight_of_pin ms p).can) pins

abbrev pub any_read : List Member → List Pin → Bool
any_read ms pins = list_any (λ p. (sight_of_pin ms p).read) pins

-- ---- what shows

-- what a bridge shows whose pulls together are this, its first net's pins and its second's making these
abbrev pub bridge_sees : Winner → Pull → (first second : Driven) → Bool
bridge_sees winner pull f g =
    let all = together (pulled pull) (together f g) in
    if all.zero && all.one then by winner else sees all
  where
    by : Winner → Bool
    by Zeros = false
    by Ones = true
    by First = f.one && not f.zero
    by Second = g.one && not g.zero

-- what is seen otherwise where the groups make these
abbrev pub pull_differs : Pull → (read : Bool) → Driven → Bool
pull_differs pull read f = read && unlike (sees (together (pulled pull) f)) (sees (together (pulled (turned pull)) f))

abbrev pub stuck_differs : Pull → Bool → (read : Bool) → Driven → Bool
stuck_differs pull bit read f = read && unlike (sees (together (pulled pull) f)) bit

abbrev pub open_differs : Pull → Bool → (pin rest : Bool) → (f g : Driven) → Bool
open_differs pull bit pin rest f g =
    let before = sees (together (pulled pull) (together f g)) in
    (pin && unlike before (sees (together (pulled (pull_to bit)) f)))
    || (rest && unlike before (sees (together (pulled (rest_pull bit pull)) g)))

abbrev pub short_differs : Winner → (one other : Pull) → (first second : Bool) → (f g : Driven) → Bool
short_differs winner one other first second f g =
    let after = bridge_sees winner (joined one other) f g in
    (first && unlike (sees (together (pulled one) f)) after)
    || (second && unlike (sees (together (pulled other) g)) after)

-- some of what two groups can make together
abbrev pub some_pair : (can can' : Driven → Bool) → (Driven → Driven → Bool) → Bool
some_pair can can' test = list_any (λ f. can f && list_any (λ g. can' g && test f g) all_driven) all_driven

abbrev pub some_single : (can : Driven → Bool) → (Driven → Bool) → Bool
some_single can test = list_any (λ f. can f && test f) all_driven

-- what pins can make
abbrev pub makes : List Member → List Pin → Driven → Bool
makes ms pins = can_make (all_can ms pins)

-- A way shows where some of what the pins of its nets can make is seen otherwise with it.
abbrev pub shows_at : List Member → (net other : Net) → Way → Bool
shows_at ms n o (way.Pull net) = some_single (makes ms n.pins) (pull_differs n.pull (any_read ms n.pins))
shows_at ms n o (way.Stuck net bit) = some_single (makes ms n.pins) (stuck_differs n.pull bit (any_read ms n.pins))
shows_at ms n o (way.Open net pin bit) =
    let alone = take 1 (drop pin n.pins) in
    let rest = remove n.pins pin in
    some_pair (makes ms alone) (makes ms rest) (open_differs n.pull bit (any_read ms alone) (any_read ms rest))
shows_at ms n o (way.Short first second winner) =
    some_pair (makes ms n.pins) (makes ms o.pins)
    (short_differs winner n.pull o.pull (any_read ms n.pins) (any_read ms o.pins))

-- the net that a way is of, and for a bridge the second
abbrev pub first_of : Way → ℕ
first_of (way.Open net pin bit) = net
first_of (way.Pull net) = net
first_of (way.Stuck net bit) = net
first_of (way.Short first second winner) = first

abbrev pub second_of : Way → ℕ
second_of (way.Short first second winner) = second
second_of its_way = first_of its_way

abbrev pub shows : Wiring → Way → Bool
shows w its_way =
    shows_at w.members (slice_index_or w.nets (first_of its_way) nowhere)
    (slice_index_or w.nets (second_of its_way) nowhere) its_way
