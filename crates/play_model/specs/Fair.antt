-- Fair lists of events, by which a driver comes to the end of a play.
use Rattle.std.specs.Prelude.{◌≡◌, Bool, true, false, ℕ, zero, suc, nat_lt, List, [], ◌∷◌, flat_map}
use Rattle.std.specs.List.{list_any}
use Rattle.play_model.specs.Events.{Event, Put, Serve, Take, Lose}

abbrev pub puts : Event → Bool
puts (Put n) = nat_lt 0 n
puts _ = false

abbrev pub serves : Event → Bool
serves (Serve n) = nat_lt 0 n
serves _ = false

abbrev pub takes : Event → Bool
takes (Take n) = nat_lt 0 n
takes _ = false

abbrev pub loses : Event → Bool
loses Lose = true
loses _ = false

abbrev pub HasNoLose : List Event → Type 0
HasNoLose es = list_any loses es ≡ false

-- A round in which each of the three may move something, in any order, and nothing is lost.
pub record IsFair (es : List Event) : Type 0 where
  pub put : list_any puts es ≡ true
  pub serve : list_any serves es ≡ true
  pub take : list_any takes es ≡ true
  pub kept : HasNoLose es

-- rounds, one after another
abbrev pub in_a_row : List (List Event) → List Event
in_a_row rounds = flat_map (λ es. es) rounds

-- the simplest fair driver: so many times one byte each way
abbrev pub one_each : ℕ → List Event
one_each zero = []
one_each (suc n) = Put 1 ∷ Serve 1 ∷ Take 1 ∷ one_each n
