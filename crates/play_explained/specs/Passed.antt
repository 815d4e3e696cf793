-- The statements of a text up to some place.
use Rattle.std.specs.Prelude.{◌≡◌, ◌+◌, List, [], ◌∷◌, drop, Option, Some, None}
use Rattle.refusal_places.specs.Left.{left_of}
use Rattle.refusal_places.specs.Starts.{places_of, statement_position}
use Rattle.output_words.specs.declared.lines.Position.{Position}
use Rattle.play_explained.specs.declared.places.Passed.{Passed}
use Rattle.std.specs.Prelude.{ℕ}

-- so many were passed, the last of them starts there, and these are behind it
pub record IsAt (text : List ℕ) (p : Passed) : Type 0 where
  pub left : left_of p.left ≡ drop p.count (places_of text)
  pub last : p.last ≡ statement_position text p.count

-- one more was passed, or there was none
pub record PassesTo (before after : Passed) : Type 0 where
  pub position : Position
  pub count : after.count ≡ before.count + 1
  pub last : after.last ≡ Some position
  pub left : left_of before.left ≡ position ∷ left_of after.left

abbrev pub PassesOne : Passed → Option Passed → Type 0
PassesOne before None = left_of before.left ≡ []
PassesOne before (Some after) = PassesTo before after
