-- Nets: a level by counting the drivers. This simulation's own model of the board's wiring.
use Rattle.std.specs.Prelude.{◌≡◌, ◌≤◌, ◌^◌, Bool, true, false, not, ◌&&◌, ℕ, zero, suc, ◌+◌, ◌==◌, List, [], ◌∷◌}
use Rattle.std.specs.Prelude.{map, take, slice_get, unwrap_or, count_by, if◌then◌else◌}
use Rattle.std.specs.List.{list_any}
use Rattle.pin_nets.specs.declared.Drive.{Drive}
use Rattle.pin_nets.specs.declared.Drive.TheVariants.{Strong, Weak, Nothing}
use Rattle.pin_nets.specs.declared.Counts.{Counts}
use Rattle.pin_nets.specs.declared.Pull.{Pull}
use Rattle.pin_nets.specs.declared.Pull.TheVariants.{Up, Down, Free}
use Rattle.pin_nets.specs.declared.Rule.{Rule}
use Rattle.pin_nets.specs.declared.Rule.TheVariants.{Counted, Tied, WiredOr, Led}
use Rattle.pin_nets.specs.declared.Level.{Level}
use Rattle.pin_nets.specs.declared.Level.TheVariants.{Zero, One, Contend, Float}

abbrev pub is_strong : Bool → Drive → Bool
is_strong true (Strong b) = b
is_strong false (Strong true) = false
is_strong false (Strong false) = true
is_strong _ _ = false

abbrev pub is_weak : Bool → Drive → Bool
is_weak true (Weak b) = b
is_weak false (Weak true) = false
is_weak false (Weak false) = true
is_weak _ _ = false

abbrev pub counts_of : List Drive → Counts
counts_of ds = record {
  strong_zeros = count_by (is_strong false) ds;
  strong_ones = count_by (is_strong true) ds;
  weak_zeros = count_by (is_weak false) ds;
  weak_ones = count_by (is_weak true) ds;
}

-- the level of so many drivers to 0 and so many to 1; the last answer where there is none
abbrev pub of_counts : (zeros ones : ℕ) → Level → Level
of_counts zero zero otherwise = otherwise
of_counts zero (suc n) otherwise = One
of_counts (suc n) zero otherwise = Zero
of_counts (suc n) (suc k) otherwise = Contend

-- The strong drivers decide; else the weak ones; else the net floats.
abbrev pub level_by : Counts → Level
level_by c = of_counts c.strong_zeros c.strong_ones (of_counts c.weak_zeros c.weak_ones Float)

abbrev pub level_of : List Drive → Level
level_of ds = level_by (counts_of ds)

-- a net of this rule shows what its drivers say
abbrev pub is_counted : Rule → Bool
is_counted Counted = true
is_counted (Tied b) = false
is_counted WiredOr = false
is_counted (Led pins) = false

-- strong drivers of both levels are there
abbrev pub is_opposed : Counts → Bool
is_opposed c = not (c.strong_zeros == 0) && not (c.strong_ones == 0)

-- strong drivers of both levels are among a pull and what pins drive
abbrev pub opposed_by : (pull : Drive) → (pins : List Drive) → Bool
opposed_by pull ds = is_opposed (counts_of (pull ∷ ds))

-- what drivers that lead say: 1 where one drives it strongly and none 0, else 0
abbrev pub led_by : List Drive → Level
led_by ds = if list_any (is_strong true) ds && not (list_any (is_strong false) ds) then One else Zero

-- What a net shows by its rule, its pull and what its pins drive, in their order: what its drivers say by counting; the
-- bit that it is tied to; or, where strong drivers are opposed, 1, or what the first pins say, so many.
abbrev pub shown : Rule → (pull : Drive) → (pins : List Drive) → Level
shown Counted pull ds = level_of (pull ∷ ds)
shown (Tied b) pull ds = if b then One else Zero
shown WiredOr pull ds = if is_opposed (counts_of (pull ∷ ds)) then One else level_of (pull ∷ ds)
shown (Led pins) pull ds = if is_opposed (counts_of (pull ∷ ds)) then led_by (take pins ds) else level_of (pull ∷ ds)

-- Contend reads 0, Float reads 1
abbrev pub reads : Level → Bool
reads Zero = false
reads Contend = false
reads One = true
reads Float = true

-- a pull is one weak driver
abbrev pub pull_drive : Pull → Drive
pull_drive Up = Weak true
pull_drive Down = Weak false
pull_drive Free = Nothing

pub record NetValue : Type 0 where
  pub pull : Pull
  pub rule : Rule
  pub pins : List ℕ

pub record NetsValue : Type 0 where
  pub drives : List Drive
  pub nets : List NetValue

abbrev pub drive_at : List Drive → ℕ → Drive
drive_at drives pin = unwrap_or (slice_get drives pin) Nothing

-- the numbers of a net's drivers, its pull among them
abbrev pub net_counts : List Drive → NetValue → Counts
net_counts drives n = counts_of (pull_drive n.pull ∷ map (drive_at drives) n.pins)

-- what its drivers say by counting, whatever its rule
abbrev pub counted : List Drive → NetValue → Level
counted drives n = level_by (net_counts drives n)

abbrev pub level : List Drive → NetValue → Level
level drives n = shown n.rule (pull_drive n.pull) (map (drive_at drives) n.pins)

abbrev pub all_levels : NetsValue → List Level
all_levels v = map (level v.drives) v.nets

-- drivers to 0 and to 1, then weak ones to 0 and to 1
abbrev pub four : Counts → List ℕ
four c = c.strong_zeros ∷ c.strong_ones ∷ c.weak_zeros ∷ c.weak_ones ∷ []

abbrev pub one : Bool → ℕ
one b = if b then 1 else 0

-- a driver is among those counted
pub record Has (d : Drive) (c : Counts) : Type 0 where
  pub strong_zeros : one (is_strong false d) ≤ c.strong_zeros
  pub strong_ones : one (is_strong true d) ≤ c.strong_ones
  pub weak_zeros : one (is_weak false d) ≤ c.weak_zeros
  pub weak_ones : one (is_weak true d) ≤ c.weak_ones

-- there is room for one more
pub record IsFew (c : Counts) : Type 0 where
  pub strong_zeros : c.strong_zeros ≤ 2 ^ 60
  pub strong_ones : c.strong_ones ≤ 2 ^ 60
  pub weak_zeros : c.weak_zeros ≤ 2 ^ 60
  pub weak_ones : c.weak_ones ≤ 2 ^ 60

-- one driver in place of another
pub record Replaces (c after : Counts) (old new : Drive) : Type 0 where
  pub strong_zeros : after.strong_zeros + one (is_strong false old) ≡ c.strong_zeros + one (is_strong false new)
  pub strong_ones : after.strong_ones + one (is_strong true old) ≡ c.strong_ones + one (is_strong true new)
  pub weak_zeros : after.weak_zeros + one (is_weak false old) ≡ c.weak_zeros + one (is_weak false new)
  pub weak_ones : after.weak_ones + one (is_weak true old) ≡ c.weak_ones + one (is_weak true new)
