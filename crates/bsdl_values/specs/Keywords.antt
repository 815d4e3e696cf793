-- The words of a value, in any case.
use Rattle.std.specs.Prelude.{ℕ, Bool, true, false, List, [], ◌∷◌, codes, Option}
use Rattle.bsdl_text.specs.Words.{stands_for}

abbrev pub truth_of : List ℕ → Option Bool
truth_of text = stands_for ((codes "TRUE", true) ∷ (codes "FALSE", false) ∷ []) text
