-- Marks of the nets that depend on one of them.
use Rattle.std.specs.Prelude.{◌≡◌, ℕ, Bool, true, false, not, ◌&&◌, List, length, slice_index_or, All, count_by}
use Rattle.board_loops.specs.Loops.{DependsOn, HasString, IsWithin}
use Rattle.board_loops.specs.declared.net_loops.Dependency.{Dependency}

abbrev pub is_marked : List Bool → ℕ → Bool
is_marked marks net = slice_index_or marks net false

-- how many nets have no mark
abbrev pub unmarked : List Bool → ℕ
unmarked marks = count_by not marks

-- exactly the nets that depend on this one are marked
pub record AreDependents (strings : List Dependency) (net : ℕ) (marks : List Bool) : Type 0 where
  pub only : (n : ℕ) → is_marked marks n ≡ true → DependsOn strings n net
  pub all : (n : ℕ) → DependsOn strings n net → is_marked marks n ≡ true

-- so many of the nets do not depend on this one
pub record IsCount (strings : List Dependency) (nets net count : ℕ) : Type 0 where
  pub marks : List Bool
  pub long : length marks ≡ nets
  pub dependents : AreDependents strings net marks
  pub counted : count ≡ unmarked marks

-- Further nets are marked, each since it depends on one that was.
pub record IsGrownBy (strings : List Dependency) (old new : List Bool) : Type 0 where
  pub kept : (n : ℕ) → is_marked old n ≡ true → is_marked new n ≡ true
  pub only : (net : ℕ) → ((n : ℕ) → is_marked old n ≡ true → DependsOn strings n net)
      → (n : ℕ) → is_marked new n ≡ true → DependsOn strings n net

-- of a string's nets the source's alone is marked
abbrev pub is_open : List Bool → Dependency → Bool
is_open marks string = is_marked marks string.source && not (is_marked marks string.target)

-- there is no such string
abbrev pub IsClosed : List Dependency → List Bool → Type 0
IsClosed strings marks = All (λ string. is_open marks string ≡ false) strings

-- there is this one
pub record IsOpen (strings : List Dependency) (marks : List Bool) (string : Dependency) : Type 0 where
  pub there : HasString strings string.target string.source
  pub inside : IsWithin (length marks) string
  pub alone : is_open marks string ≡ true
