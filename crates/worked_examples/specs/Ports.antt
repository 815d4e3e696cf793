-- The ports that an entity declares (IEEE Std 1149.1-2001, Annex B.8.3).
use Rattle.std.specs.Prelude.{◌≡◌, ℕ, ◌≤◌, Bool, true, false, List, [], ◌∷◌, ◌++◌, map, codes, Option, Some, None}
use Rattle.bsdl_text.specs.Cutting.{Lexeme}
use Rattle.bsdl_text.specs.Marks.{comma, opening, closing, semi, colon}
use Rattle.bsdl_text.specs.Reading.{whole_number}
use Rattle.bsdl_device.specs.declared.PortMode.{PortMode}
use Rattle.bsdl_entity.specs.Keywords.{mode_of, is_vector, is_rising}
use Rattle.bsdl_entity.specs.Ports.{Range, Port, concat}
use Rattle.worked_examples.specs.Lists.{IsMark, Spells, StandsFor, IsOneWord, IsChain, IsList}

-- the first number of a range and the second one: it rises by `to` and falls by `downto`
abbrev pub first_of : Bool → Range → ℕ
first_of true r = r.low
first_of false r = r.high

abbrev pub second_of : Bool → Range → ℕ
second_of true r = r.high
second_of false r = r.low

-- ( int to int ), ( int downto int )
abbrev pub IsRange : Range → List Lexeme → Type 0
IsRange r ts =
    (opener first way second closer : Lexeme) × (rising : Bool) × (ts ≡ opener ∷ first ∷ way ∷ second ∷ closer ∷ [])
    × IsMark opening opener × StandsFor whole_number (first_of rising r) first × StandsFor is_rising rising way
    × StandsFor whole_number (second_of rising r) second × IsMark closing closer × (r.low ≤ r.high)

-- bit, or bit_vector and its range
abbrev pub IsKind : Option Range → List Lexeme → Type 0
IsKind None ts = (bit : Lexeme) × (ts ≡ bit ∷ []) × StandsFor is_vector false bit
IsKind (Some r) ts =
    (vector : Lexeme) × (range : List Lexeme) × (ts ≡ vector ∷ range) × StandsFor is_vector true vector
    × IsRange r range

-- name {, name} : mode kind
abbrev pub IsGroup : List Port → List Lexeme → Type 0
IsGroup ps ts =
    (names : List Lexeme) × (mode : PortMode) × (range : Option Range) × (listed kind : List Lexeme)
    × (colon_mark mode_word : Lexeme) × (ts ≡ listed ++ colon_mark ∷ mode_word ∷ kind)
    × IsChain IsOneWord comma names listed × IsMark colon colon_mark × StandsFor mode_of mode mode_word
    × IsKind range kind × (ps ≡ map (λ n. record { name = n; mode = mode; range = range }) names)

-- port ( group {; group} [;] ) ;
abbrev pub IsPorts : List Port → List Lexeme → Type 0
IsPorts ps ts =
    (port opener closer end : Lexeme) × (groups : List (List Port)) × (listed : List Lexeme)
    × (ts ≡ port ∷ opener ∷ (listed ++ closer ∷ end ∷ [])) × Spells (codes "PORT") port × IsMark opening opener
    × IsList IsGroup semi groups listed × IsMark closing closer × IsMark semi end × (ps ≡ concat groups)
