-- The rows of a boundary register (IEEE Std 1149.1-2001, Annex B.8.14):
-- num (cell, port or *, function, safe [, ccell, disval, rslt]).
use Rattle.std.specs.Prelude.{ℕ, if◌then◌else◌, List, Option, Some, None}
use Rattle.bsdl_text.specs.Cutting.{Lexeme}
use Rattle.bsdl_text.specs.Words.{upper}
use Rattle.bsdl_text.specs.Marks.{comma, opening, closing}
use Rattle.bsdl_text.specs.Reading.{Read, fits, ◌>>=◌, word, mark, stands, keyword, number}
use Rattle.bsdl_device.specs.declared.Function.{Function}
use Rattle.bsdl_device.specs.declared.Control3.{Control3}
use Rattle.bsdl_device.specs.Device.{Name}
use Rattle.bsdl_values.specs.CellKeywords.{function_of, disabled_of, safe_of, bit_of}

-- a port bit by its name, in upper case, and its index
pub record PortName : Type 0 where
  pub name : Name
  pub index : Option ℕ

pub record CellRow : Type 0 where
  pub number : ℕ
  pub port : Option PortName
  pub function : Function
  pub control : Option Control3

-- `(index)`, if it stands there
abbrev pub port_index : List Lexeme → Read (Option ℕ)
port_index ts =
    if stands opening ts then (mark opening ts >>= λ m a. number a >>= λ n b. mark closing b >>=
    λ k c. fits (Some n) c) else fits None ts

abbrev pub named_port : List Lexeme → Read (Option PortName)
named_port ts = word ts >>= λ p a. port_index a >>= λ i b. fits (Some (record { name = upper p.text; index = i })) b

-- `*` is 42
abbrev pub cell_port : List Lexeme → Read (Option PortName)
cell_port ts = if stands 42 ts then (mark 42 ts >>= λ m a. fits None a) else named_port ts

abbrev pub control : List Lexeme → Read Control3
control ts =
    number ts >>= λ n a. mark comma a >>= λ m b. keyword bit_of b >>= λ d c. mark comma c >>=
    λ k e. keyword disabled_of e >>= λ z f.
    fits (record { cell = n; disabling = d; leaves = z }) f

abbrev pub cell_control : List Lexeme → Read (Option Control3)
cell_control ts =
    if stands comma ts then (mark comma ts >>= λ m a. control a >>= λ c b. fits (Some c) b) else fits None ts

abbrev pub cell_row : List Lexeme → Read CellRow
cell_row ts =
    number ts >>= λ n a. mark opening a >>= λ m b. word b >>= λ type c. mark comma c >>= λ k d. cell_port d >>=
    λ p e. mark comma e >>= λ j f.
    keyword function_of f >>= λ u g. mark comma g >>= λ i h. keyword safe_of h >>= λ s o. cell_control o >>=
    λ t q. mark closing q >>= λ z r.
    fits (record { number = n; port = p; function = u; control = t }) r
