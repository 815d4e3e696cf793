-- Words, in any case.
use Rattle.std.specs.Prelude.{ℕ, Bool, List, [], ◌∷◌, map, length, take, drop, ◌-◌, Option, Some, None, if◌then◌else◌}
use Rattle.std.specs.Prelude.{bytes_eq}
use Rattle.std.specs.List.{flat_map}
use Rattle.std.specs.Char.{to_ascii_uppercase}
use Rattle.bsdl_text.specs.Cutting.{Lexeme}
use Rattle.std.specs.List.{list_any}

-- a name in upper case
abbrev pub upper : List ℕ → List ℕ
upper word = map to_ascii_uppercase word

-- two names are the same
abbrev pub same_name : List ℕ → List ℕ → Bool
same_name a b = bytes_eq (upper a) (upper b)

-- what a word stands for in a table of words
abbrev pub stands_for : {A : Type 0} → List (List ℕ × A) → List ℕ → Option A
stands_for [] word = None
stands_for (row ∷ rows) word = if same_name word row.0 then Some row.1 else stands_for rows word

-- the bytes between a string's quotes
abbrev pub inner : Lexeme → List ℕ
inner t = take (length t.text - 2) (drop 1 t.text)

-- the text of strings that `&` joins
abbrev pub text_within : List Lexeme → List ℕ
text_within strings = flat_map inner strings

-- whether a name is one of these
abbrev pub is_among : List (List ℕ) → List ℕ → Bool
is_among names name = list_any (bytes_eq name) names
