-- What an attribute of the code stands for.
use Rattle.std.specs.Prelude.{ℕ, List, [], ◌∷◌, Option, Some, None}
use Rattle.std.specs.Option.{option_or}
use Rattle.bsdl_text.specs.WordView.{word_lexeme}
use Rattle.bsdl_values.specs.View.{unsaid as value_unsaid, written}
use Rattle.bsdl_entity.specs.declared.items.Given as declared_given
use Rattle.bsdl_entity.specs.Entity.{Given}

abbrev pub given : declared_given.Given → Given
given g = record { name = word_lexeme g.name; attribute = g.attribute; value = written g.value }

-- the first quote of a text that says nothing
abbrev pub unsaid : Option declared_given.Given → Option ℕ
unsaid None = None
unsaid (Some g) = value_unsaid g.value

-- that of the first text that says nothing
abbrev pub first_unsaid : List declared_given.Given → Option ℕ
first_unsaid [] = None
first_unsaid (g ∷ gs) = option_or (value_unsaid g.value) (first_unsaid gs)
