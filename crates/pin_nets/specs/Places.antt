-- Which net a pin is on.
use Rattle.std.specs.Prelude.{◌≡◌, ◌≢◌, ◌<◌, ◌≤◌, ◌^◌, ◌==◌, ℕ, Bool, List, [], ◌∷◌, ◌++◌, length, map, filter}
use Rattle.std.specs.Prelude.{slice_get, slice_index_or, Option, Some, None, is_none, position, count_by, if◌then◌else◌}
use Rattle.std.specs.List.{list_any, range_with_len}
use Rattle.pin_nets.specs.declared.Pull.TheVariants.{Free}
use Rattle.pin_nets.specs.declared.Rule.TheVariants.{Counted}
use Rattle.pin_nets.specs.Levels.{NetValue}

abbrev pub has_pin : ℕ → NetValue → Bool
has_pin p n = list_any (λ q. q == p) n.pins

-- how often a net has a pin
abbrev pub times : ℕ → NetValue → ℕ
times p n = count_by (λ q. q == p) n.pins

-- no net has a pin twice, and no two nets have one pin
pub record IsOnce (nets : List NetValue) : Type 0 where
  pub alone : (p n : ℕ) (x : NetValue) → slice_get nets n ≡ Some x → times p x ≤ 1
  pub apart : (p n m : ℕ) (x y : NetValue) → n ≢ m → slice_get nets n ≡ Some x → slice_get nets m ≡ Some y
      → 0 < times p x → times p y ≡ 0

-- each pin with the net that it is on, if there is one
pub record Placed (net_of : List (Option ℕ)) (nets : List NetValue) : Type 0 where
  pub once : IsOnce nets
  pub found : (p : ℕ) (o : Option ℕ) → slice_get net_of p ≡ Some o → o ≡ position (has_pin p) nets

pub record AreShort (nets : List NetValue) : Type 0 where
  pub each : (n : ℕ) (x : NetValue) → slice_get nets n ≡ Some x → length x.pins < 2 ^ 60

-- a pin that is a net by itself
abbrev pub alone : ℕ → NetValue
alone p = record { pull = Free; rule = Counted; pins = p ∷ [] }

-- the nets of the first n pins that are on none of these, by rising number
abbrev pub lone_nets : List NetValue → ℕ → List NetValue
lone_nets nets n = map alone (filter (λ p. is_none (position (has_pin p) nets)) (range_with_len 0 n))

-- each pin has the place of its net
pub record HasNetOfEach (net_of : List (Option ℕ)) (nets : List NetValue) : Type 0 where
  pub each : (p : ℕ) → p < length net_of → slice_index_or net_of p None ≡ position (has_pin p) nets

pub record AllNone (net_of : List (Option ℕ)) : Type 0 where
  pub each : (p : ℕ) → p < length net_of → slice_index_or net_of p None ≡ None

-- these pins, and no others, have come to this net
pub record EntersPins (old new : List (Option ℕ)) (net : ℕ) (pins : List ℕ) : Type 0 where
  pub long : length new ≡ length old
  pub each : (p : ℕ) → p < length old
      → slice_index_or new p None ≡ (if list_any (λ q. q == p) pins then Some net else slice_index_or old p None)

-- the nets of the first n pins stand behind the others, each pin entered
pub record AddsLoneNets (old : List NetValue) (n : ℕ) (net_of : List (Option ℕ)) (new : List NetValue) : Type 0 where
  pub nets : new ≡ old ++ lone_nets old n
  pub marked : HasNetOfEach net_of new
  pub once : IsOnce new
  pub short : AreShort new
