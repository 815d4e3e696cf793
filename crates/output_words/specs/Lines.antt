-- Lines that tell where something stands in a text, and how many bits failed.
use Rattle.std.specs.Prelude.{ℕ, List, [], ◌∷◌, ◌++◌, codes, decimal}
use Rattle.output_words.specs.declared.lines.Position.{Position}
use Rattle.output_words.specs.Texts.{texts}

abbrev pub position_words : Position → List ℕ
position_words p = texts (codes "at line " ∷ decimal p.line ∷ codes " column " ∷ decimal p.column ∷ [])

abbrev pub position_line : Position → List ℕ
position_line p = position_words p ++ codes "\n"

-- how many bits that were wanted did not come out
abbrev pub total_line : ℕ → List ℕ
total_line total = texts (codes "failures " ∷ decimal total ∷ codes "\n" ∷ [])
