-- The ports that an entity declares (IEEE Std 1149.1-2001, Annex B.8.3).
use Rattle.std.specs.Prelude.{ℕ, nat_le, min, max, Bool, if◌then◌else◌, List, [], ◌∷◌, ◌++◌, map, codes}
use Rattle.std.specs.Prelude.{Option, Some, None}
use Rattle.bsdl_text.specs.Cutting.{Lexeme}
use Rattle.bsdl_text.specs.Reading.{Read, fits, ◌>>=◌, refused_at, word, mark, stands, keyword, number, joined_by}
use Rattle.bsdl_text.specs.Reading.{separated}
use Rattle.bsdl_text.specs.Marks.{comma, opening, closing, semi, colon}
use Rattle.bsdl_device.specs.declared.PortMode.{PortMode}
use Rattle.bsdl_entity.specs.Keywords.{this_word, mode_of, is_vector, is_rising}

pub record Range : Type 0 where
  pub low : ℕ
  pub high : ℕ

pub record Port : Type 0 where
  pub name : Lexeme
  pub mode : PortMode
  pub range : Option Range

-- two numbers as a range, where they run this way
abbrev pub in_order : ℕ → ℕ → Bool → Option Range
in_order first second rising =
    if (if rising then nat_le first second else nat_le second first)
    then Some (record { low = min first second; high = max first second }) else None

abbrev pub ordered : Option Range → List Lexeme → List Lexeme → Read Range
ordered None ts rest = refused_at ts
ordered (Some r) ts rest = fits r rest

-- the range's second number, which lies on the stated side of the first
abbrev pub upto : ℕ → Bool → List Lexeme → Read Range
upto first rising ts = number ts >>= λ second rest. ordered (in_order first second rising) ts rest

-- `( int to int )`, `( int downto int )`
abbrev pub range : List Lexeme → Read (Option Range)
range ts =
    mark opening ts >>= λ m a. number a >>= λ first b. keyword is_rising b >>= λ rising c. upto first rising c >>=
    λ r d. mark closing d >>= λ k e. fits (Some r) e

-- `bit`, or `bit_vector` and its range
abbrev pub kind_of_port : List Lexeme → Read (Option Range)
kind_of_port ts = keyword is_vector ts >>= λ vector a. if vector then range a else fits None a

-- name {, name} : mode kind
abbrev pub port_group : List Lexeme → Read (List Port)
port_group ts =
    joined_by word comma ts >>= λ names a. mark colon a >>= λ m b. keyword mode_of b >>= λ mode c. kind_of_port c >>=
    λ r d.
    fits (map (λ n. record { name = n; mode = mode; range = r }) names) d

abbrev pub concat : {A : Type 0} → List (List A) → List A
concat [] = []
concat (xs ∷ xss) = xs ++ concat xss

-- port ( group {; group} [;] ) ;
abbrev pub ports : List Lexeme → Read (List Port)
ports ts =
    this_word (codes "PORT") ts >>= λ p a. mark opening a >>= λ m b. separated port_group semi (stands closing) b >>=
    λ groups c. mark closing c >>= λ k d.
    mark semi d >>= λ s e. fits (concat groups) e
