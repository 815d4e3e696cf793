-- The opcodes of a device, as they are kept while its lines are made.
use Rattle.std.specs.Prelude.{◌≡◌, ℕ, suc, min, List, [], ◌∷◌, map, is_none}
use Rattle.std.specs.Prelude.{Option, Some, None, if◌then◌else◌}
use Rattle.std.specs.List.{list_any}
use Rattle.bsdl_device.specs.Device.{Name, Pattern}
use Rattle.board_tables.specs.WordView.{texts_of}
use Rattle.board_description.specs.declared.opcodes.Opcodes.{Opcodes}
use Rattle.board_description.specs.Blocks.{joined}

-- those of these opcodes that have an X, each with its place, where the first has place n
abbrev pub with_x : ℕ → List Pattern → List (ℕ × Pattern)
with_x n [] = []
with_x n (p ∷ ps) = if list_any is_none p then (n, p) ∷ with_x (suc n) ps else with_x (suc n) ps

-- these opcodes are kept, with these names
pub record Holds (names : List Name) (patterns : List Pattern) (kept : Opcodes) : Type 0 where
  pub names_are : texts_of kept.names.items ≡ names
  pub patterns_are : map (λ p. p.now) kept.places ≡ patterns
  pub x_are : joined kept.with_x.items ≡ with_x 0 patterns

-- the first of two places, where there are such
abbrev pub first_of : Option ℕ → Option ℕ → Option ℕ
first_of None b = b
first_of (Some a) None = Some a
first_of (Some a) (Some b) = Some (min a b)
