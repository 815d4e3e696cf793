-- What nets show by their rules.
use Rattle.std.proofs.Common.{◌≡◌, Bool, true, ◌||◌, ℕ, List, [], ◌∷◌, map, take, if◌then◌else◌, refl, sym, ap, ◌∙◌}
use Rattle.std.specs.List.{list_any}
use Rattle.std.proofs.lemmas.List.{take-map}
use Rattle.pin_nets.specs.declared.Counts.{Counts}
use Rattle.pin_nets.specs.declared.Drive.{Drive}
use Rattle.pin_nets.specs.declared.Rule.{Rule}
use Rattle.pin_nets.specs.declared.Rule.TheVariants.{Counted, Tied, WiredOr, Led}
use Rattle.pin_nets.specs.Levels.{NetValue, counted, drive_at, is_counted, is_opposed, led_by, level, level_of, net_counts, pull_drive, shown}

pub list_any-map : {X Y : Type 0} (p : Y → Bool) (f : X → Y) (xs : List X) → list_any (λ x. p (f x)) xs ≡ list_any p (map f xs)
list_any-map p f [] = refl
list_any-map p f (x ∷ xs) = ap (λ (b : Bool). p (f x) || b) (list_any-map p f xs)

-- a net whose first pins lead, where strong drivers are opposed
pub led_level : (ds : List Drive) (n : NetValue) (k : ℕ) (c : Counts) → n.rule ≡ Led k → c ≡ net_counts ds n → is_opposed c ≡ true
    → led_by (map (drive_at ds) (take k n.pins)) ≡ level ds n
led_level ds n k c rule is opposed =
    ap led_by (sym (take-map (drive_at ds) k n.pins))
    ∙ sym (ap (λ (b : Bool). if b then led_by (take k (map (drive_at ds) n.pins)) else level_of (pull_drive n.pull ∷ map (drive_at ds) n.pins)) (sym (ap is_opposed is) ∙ opposed))
    ∙ sym (ap (λ (r : Rule). shown r (pull_drive n.pull) (map (drive_at ds) n.pins)) rule)

-- a net that is counted shows what its drivers say
pub counted_level : (ds : List Drive) (n : NetValue) → is_counted n.rule ≡ true → counted ds n ≡ level ds n
counted_level ds n e = by_rule n.rule e
  where
    by_rule : (r : Rule) → is_counted r ≡ true → counted ds n ≡ shown r (pull_drive n.pull) (map (drive_at ds) n.pins)
    by_rule Counted e = refl
    by_rule (Tied b) e = cc
    by_rule WiredOr e = cc
    by_rule (Led k) e = cc
