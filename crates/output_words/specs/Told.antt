-- The pieces of a name, each told as one.
use Rattle.std.specs.Prelude.{ℕ, List, [], ◌∷◌, ◌++◌}
use Rattle.output_words.specs.Names.{escaped}
use Rattle.output_words.specs.declared.names.Told.{Told}
use Rattle.output_words.specs.declared.names.Told.TheVariants.{Plain, Escaped, EscapedPair}

abbrev pub told : Told → List ℕ
told (Plain b) = b ∷ []
told (Escaped b) = escaped b
told (EscapedPair a b) = escaped a ++ escaped b
