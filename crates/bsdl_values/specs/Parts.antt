-- Texts in parts.
use Rattle.std.specs.Prelude.{ℕ, ◌==◌, Bool, true, if◌then◌else◌, List, [], ◌∷◌}
use Rattle.bsdl_text.specs.Marks.{comma}

abbrev pub is_comma : ℕ → Bool
is_comma c = c == comma

abbrev pub onto_first : ℕ → List (List ℕ) → List (List ℕ)
onto_first c [] = []
onto_first c (part ∷ rest) = (c ∷ part) ∷ rest

-- what stands before each comma of a text
unfoldable pub parts : List ℕ → List (List ℕ)
parts [] = []
parts (c ∷ cs) = if is_comma c then [] ∷ parts cs else onto_first c (parts cs)

-- nothing stands behind the last comma
unfoldable pub is_closed : List ℕ → Bool
is_closed [] = true
is_closed (c ∷ []) = is_comma c
is_closed (c ∷ d ∷ cs) = is_closed (d ∷ cs)
