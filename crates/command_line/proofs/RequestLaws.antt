-- What a subcommand asks for, by its name and the rows of its matches.
use Rattle.std.proofs.Common.{◌≡◌, List, Option, Some, None, option_map}
use Rattle.clap.specs.Words.{Row, Text}

-- a subcommand with its name and its rows
pub met : {B : Type 0} (name_of : B → Text) (rows_of : B → List Row) (met : Option B) (name : Text) (rows : List Row) → Some name ≡ option_map name_of met
    → Some rows ≡ option_map {T = Text × List Row} (λ p. p.1) (option_map (λ b. (name_of b, rows_of b)) met) → option_map {U = Text × List Row} (λ b. (name_of b, rows_of b)) met ≡ Some (name, rows)
met name_of rows_of None name rows named rowed = absurd cc
met name_of rows_of (Some b) name rows named rowed = cc
