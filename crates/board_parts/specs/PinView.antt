-- What the code's values stand for.
use Rattle.std.specs.Prelude.{⊤}
use Rattle.std.specs.Prelude.{◌≡◌, ℕ, List, Option, Some, None, Result, Ok, Err}
use Rattle.board_parts.specs.declared.found.Unfound.{Unfound}
use Rattle.board_parts.specs.declared.found.Unfound.TheVariants.{Unknown, Memory}

-- Pins are found where no text names none, and else the first that does is told, unless memory runs out.
abbrev pub Knows : {A : Type 0} → Result A Unfound → Option (List ℕ) → Type 0
Knows (Ok x) unknown = unknown ≡ None
Knows (Err (Unknown s)) unknown = unknown ≡ Some s.now
Knows (Err Memory) unknown = ⊤
