-- Strings between nets, each of which makes its target's net depend on its source's net: loops of them, and orders of
-- work. Nets are numbers, and strings are told apart by their places.
use Rattle.std.specs.Prelude.{◌≡◌, ◌<◌, ℕ, zero, suc, List, length, slice_get, IsPermutation}
use Rattle.std.specs.Prelude.{Option, Some, option_and_then}
use Rattle.std.specs.List.{range_with_len}
use Rattle.board_loops.specs.declared.net_loops.Dependency.{Dependency}
use Rattle.board_loops.specs.declared.net_loops.Settling.{Settling}
use Rattle.board_loops.specs.declared.net_loops.Settling.TheVariants.{Order, Loop}

-- the string is between two of so many nets
pub record IsWithin (nets : ℕ) (string : Dependency) : Type 0 where
  pub target : string.target < nets
  pub source : string.source < nets

-- one of the strings makes a net depend on another
abbrev pub HasString : List Dependency → (net source : ℕ) → Type 0
HasString strings net source = (k : ℕ) × (slice_get strings k ≡ Some (record { target = net; source = source }))

-- a net depends on another in so many steps, each of them a string
abbrev pub InSteps : List Dependency → ℕ → (net source : ℕ) → Type 0
InSteps strings zero net source = net ≡ source
InSteps strings (suc n) net source = (next : ℕ) × HasString strings net next × InSteps strings n next source

-- a net depends on another, in any number of steps, none among them
abbrev pub DependsOn : List Dependency → (net source : ℕ) → Type 0
DependsOn strings net source = (n : ℕ) × InSteps strings n net source

-- The string at a place is on a loop where its source's net depends on its target's net.
pub record IsOnLoop (strings : List Dependency) (place : ℕ) : Type 0 where
  pub string : Dependency
  pub stands : slice_get strings place ≡ Some string
  pub back : DependsOn strings string.source string.target

abbrev pub HasNoLoop : List Dependency → Type 0
HasNoLoop strings = (place : ℕ) → IsOnLoop strings place → ⊥

pub record IsFirstOnLoop (strings : List Dependency) (place : ℕ) : Type 0 where
  pub on_loop : IsOnLoop strings place
  pub first : (before : ℕ) → before < place → IsOnLoop strings before → ⊥

-- the string that an order has as its i-th, counted from 0
abbrev pub nth_string : List Dependency → (order : List ℕ) → ℕ → Option Dependency
nth_string strings order i = option_and_then (λ place. slice_get strings place) (slice_get order i)

-- An order of work: each string once, and one whose target's net is another's source's net before that other.
pub record IsInOrder (strings : List Dependency) (order : List ℕ) : Type 0 where
  pub each_once : IsPermutation (range_with_len 0 (length strings)) order
  pub before : (i j : ℕ) (one other : Dependency) → nth_string strings order i ≡ Some one
      → nth_string strings order j ≡ Some other → one.target ≡ other.source → i < j

-- what strings come to
abbrev pub Settles : List Dependency → Settling → Type 0
Settles strings (Order order) = HasNoLoop strings × IsInOrder strings order.items
Settles strings (Loop place) = IsFirstOnLoop strings place

-- an order has each string at one place, and nothing else
pub record HasEachOnce (strings : List Dependency) (order : List ℕ) : Type 0 where
  pub each : (place : ℕ) → place < length strings → (i : ℕ) × (slice_get order i ≡ Some place)
  pub once : (i j place : ℕ) → slice_get order i ≡ Some place → slice_get order j ≡ Some place → i ≡ j
  pub strings_alone : (i place : ℕ) → slice_get order i ≡ Some place → place < length strings

-- the law: so does an order of work
abbrev pub OrdersHaveEachOnce : Type 0
OrdersHaveEachOnce = (strings : List Dependency) (order : List ℕ) → IsInOrder strings order → HasEachOnce strings order
