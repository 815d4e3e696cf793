-- The front part of a list.
use Rattle.std.specs.Prelude.{◌≡◌, List, ◌++◌}

-- The second list begins with the first.
abbrev pub IsPrefix : {X : Type 0} → List X → List X → Type 0
IsPrefix xs ys = (rest : List _) × (xs ++ rest ≡ ys)
