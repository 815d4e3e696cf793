-- Bridges that the first captures of a play judge are only counted, by what they come to.
use Rattle.std.specs.Prelude.{⊤, ◌≡◌, ◌⊎◌, ◌+◌, ℕ, Bool, true, false, List, [], ◌∷◌, ◌++◌, flat_map, map}
use Rattle.std.specs.Prelude.{if◌then◌else◌, Some}
use Rattle.std.specs.List.{AllByRecursion}
use Rattle.scan_vectors.specs.declared.part.Part.{Part}
use Rattle.svf_programs.specs.Steps.{Program}
use Rattle.pin_nets.specs.Wired.{Net}
use Rattle.board_plan.specs.Planned.{Wiring}
use Rattle.board_plan.specs.View.{net as planned_net}
use Rattle.play_model.specs.declared.ending.Ending.TheVariants.{Fail, Pass}
use Rattle.board_faults.specs.declared.kinds.Fault.{Fault}
use Rattle.board_faults.specs.declared.kinds.Fault.TheVariants as fault
use Rattle.board_faults.specs.declared.kinds.Way.{Way}
use Rattle.board_faults.specs.declared.kinds.Way.TheVariants as way
use Rattle.board_faults.specs.declared.kinds.Winner.{Winner}
use Rattle.board_faults.specs.declared.kinds.Winner.TheVariants.{Zeros, Ones, First, Second}
use Rattle.board_faults.specs.Faults.{IsFaultOf, ways}
use Rattle.board_faults.specs.Sight.{IsInvisible}
use Rattle.board_faults.specs.Sights.{shows_by}
use Rattle.fault_events.specs.Captures.{Noted}
use Rattle.fault_serving.specs.declared.sifting.Counting.{Counting}
use Rattle.fault_serving.specs.declared.sifting.Counting.TheVariants as counting
use Rattle.fault_serving.specs.declared.sifting.Counts.{Counts}
use Rattle.fault_serving.specs.declared.sifting.Outcome.{Outcome}
use Rattle.fault_serving.specs.declared.sifting.Outcome.TheVariants.{Caught, Missed, Invisible}
use Rattle.fault_serving.specs.declared.sifting.Sieve.{Sieve}
use Rattle.fault_serving.specs.declared.sifting.Sifted.{Sifted}
use Rattle.fault_serving.specs.Planes.{AreBlocksOf, IsToldIn}
use Rattle.fault_serving.specs.Serving.{AreTold, IsToldOf}

-- ---- what a bridge comes to

-- a way is told to fail by the play of a program that passes on the board itself
pub record IsToldToFail (program : Program) (w : Wiring) (way : Way) : Type 0 where
  pub command : ℕ
  pub part : Part
  pub bit : ℕ
  pub told : IsToldOf program w way (Some (Fail command part bit))

-- What is told of a way: that the program fails in it; that it passes, and the way shows to some program, or to none.
abbrev pub WayComesTo : Program → Wiring → Outcome → Way → Type 0
WayComesTo program w Caught way = IsToldToFail program w way
WayComesTo program w Missed way = IsToldOf program w way (Some Pass) × (IsInvisible w way → ⊥)
WayComesTo program w Invisible way = IsToldOf program w way (Some Pass) × IsInvisible w way

-- what two ways of a fault come to together: it is missed where one of them is, else caught where one is
abbrev pub both_come : Outcome → Outcome → Outcome
both_come Missed o = Missed
both_come Invisible o = o
both_come Caught Missed = Missed
both_come Caught Caught = Caught
both_come Caught Invisible = Caught

abbrev pub four_come : (Winner → Outcome) → Outcome
four_come of = both_come (of Zeros) (both_come (of Ones) (both_come (of First) (of Second)))

-- what a bridge comes to, each of its ways being told
abbrev pub ComesTo : Program → Wiring → Outcome → Fault → Type 0
ComesTo program w o (fault.Short first second) =
    (of : Winner → Outcome) × ((winner : Winner) → WayComesTo program w (of winner) (way.Short first second winner))
    × (o ≡ four_come of)
ComesTo program w o _ = ⊥

-- ---- so many of some faults

abbrev pub no_counts : Counts
no_counts = record { caught = 0; missed = 0; invisible = 0 }

abbrev pub count_of : Outcome → Counts → ℕ
count_of Caught c = c.caught
count_of Missed c = c.missed
count_of Invisible c = c.invisible

abbrev pub one_more : Outcome → Counts → Counts
one_more Caught c = record c { caught = c.caught + 1 }
one_more Missed c = record c { missed = c.missed + 1 }
one_more Invisible c = record c { invisible = c.invisible + 1 }

-- Of faults, one after another, these are kept, in their order; the others are counted by what they come to.
abbrev pub AreSifted : (Outcome → Fault → Type 0) → (all kept : List Fault) → (others : Counts) → Type 0
AreSifted Is [] kept others = (kept ≡ []) × (others ≡ no_counts)
AreSifted Is (f ∷ fs) kept others =
    ((rest : List Fault) × (kept ≡ f ∷ rest) × AreSifted Is fs rest others)
    ⊎ ((o : Outcome) × (fewer : Counts) × (others ≡ one_more o fewer) × Is o f × AreSifted Is fs kept fewer)

-- the first of these faults, without those that are counted, and the others; none is kept only where there are no others
pub record Sifts (Is : Outcome → Fault → Type 0) (left kept : List Fault) (others : Counts) (rest : List Fault) : Type 0
  where
    pub first : List Fault
    pub are : left ≡ first ++ rest
    pub sifted : AreSifted Is first kept others
    pub over : kept ≡ [] → rest ≡ []

-- which may be counted
abbrev pub may_count : Counting → Outcome → Bool
may_count counting.Nothing o = false
may_count counting.AllButMissed Caught = true
may_count counting.AllButMissed Missed = false
may_count counting.AllButMissed Invisible = true
may_count counting.Everything o = true

-- no others are
abbrev pub AreCounted : Counting → Counts → Type 0
AreCounted counting.Nothing c = c ≡ no_counts
AreCounted counting.AllButMissed c = c.missed ≡ 0
AreCounted counting.Everything c = ⊤

-- the next of those that are left, without bridges that are only counted, and the others, with what is told of their ways
pub record IsSifted (program : Program) (w : Wiring) (which : Counting) (left : List Fault) (s : Sifted)
    (rest : List Fault) : Type 0 where
  pub sifts : Sifts (ComesTo program w) left s.chunk.faults.items s.counts rest
  pub counted : AreCounted which s.counts
  pub theirs : AllByRecursion (IsFaultOf w.nets) s.chunk.faults.items
  pub others : AllByRecursion (IsFaultOf w.nets) rest
  pub told : AreTold program w (flat_map ways s.chunk.faults.items) s.chunk.endings.items

-- ---- the same by some captures

abbrev pub nets_of : Sieve → List Net
nets_of s = map planned_net s.nets.now

-- the words of nets at these captures, all of them where they are the whole play
abbrev pub IsSieve : List Noted → Sieve → Type 0
IsSieve ns s = AreBlocksOf (nets_of s) ns (map (λ b. b.items) s.blocks.now)

-- a way fails by them; or they are all of the play, and it passes
abbrev pub IsToldBy : Sieve → List Noted → (fails : Bool) → Way → Type 0
IsToldBy s ns fails way = IsToldIn s.whole (nets_of s) ns fails way

abbrev pub outcome_by : (missed caught : Bool) → Outcome
outcome_by missed caught = if missed then Missed else (if caught then Caught else Invisible)

abbrev pub WayComesBy : Sieve → List Noted → Outcome → Way → Type 0
WayComesBy s ns Caught way = IsToldBy s ns true way
WayComesBy s ns Missed way = IsToldBy s ns false way × (shows_by s.sights.now (nets_of s) way ≡ true)
WayComesBy s ns Invisible way = IsToldBy s ns false way × (shows_by s.sights.now (nets_of s) way ≡ false)

abbrev pub ComesBy : Sieve → List Noted → Outcome → Fault → Type 0
ComesBy s ns o (fault.Short first second) =
    (of : Winner → Outcome) × ((winner : Winner) → WayComesBy s ns (of winner) (way.Short first second winner))
    × (o ≡ four_come of)
ComesBy s ns o _ = ⊥
