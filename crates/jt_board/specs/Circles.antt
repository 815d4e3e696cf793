-- Loops by the numbers of nets as circles over the nets.
use Rattle.std.specs.Prelude.{◌≡◌, ◌↔◌, ℕ, suc, List, [], ◌∷◌, ◌++◌, map, slice_get, Some}
use Rattle.std.specs.List.{AllByRecursion}
use Rattle.pin_nets.specs.Wired.{Net}
use Rattle.pin_nets.specs.declared.Follow.{Follow}
use Rattle.board_loops.specs.Loops as numbers
use Rattle.board_plan.specs.Planned.{Member, Wiring}
use Rattle.board_parts.specs.Strings.{HasStrings}
use Rattle.board_loops.specs.Depending.{dependencies}
use Rattle.board_model.specs.Following.{HasNoLoop, IsOnCircle, Placed}
use Rattle.board_model.specs.Planned.{members_of}

-- a string of the device at a place
abbrev pub placed_by : (place : ℕ) → Follow → Placed
placed_by place f = record { device = place; string = f }

-- the strings of these devices, the first at this place
abbrev pub placed_from : (place : ℕ) → List Member → List Placed
placed_from place [] = []
placed_from place (m ∷ ms) = map (placed_by place) m.follows ++ placed_from (suc place) ms

-- all strings, by devices and then strings
abbrev pub placed_strings : List Member → List Placed
placed_strings ms = placed_from 0 ms

-- the string is on a circle: its source's net depends, in any number of steps, on its target's net
pub record IsCircled (w : Wiring) (s : Placed) : Type 0 where
  pub target : Net
  pub source : Net
  pub circle : IsOnCircle w.nets (members_of w) target source
  pub device : circle.string.place ≡ s.device
  pub string : circle.string.string ≡ s.string

-- the law: a string whose place is on a loop by the numbers of nets is on a circle of nets, and the other way round
abbrev pub LoopsAreCircles : Type 0
LoopsAreCircles = (w : Wiring) (place : ℕ) (s : Placed) → AllByRecursion HasStrings w.members
    → slice_get (placed_strings w.members) place ≡ Some s
    → numbers.IsOnLoop (dependencies w) place ↔ IsCircled w s

-- the law: where by numbers no string is on a loop, no net depends on itself
abbrev pub NoLoopIsNoCircle : Type 0
NoLoopIsNoCircle = (w : Wiring) → numbers.HasNoLoop (dependencies w) → HasNoLoop w.nets (members_of w)
