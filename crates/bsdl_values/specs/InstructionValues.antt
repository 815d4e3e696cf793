-- What stands within the quotes of the attributes of instructions (IEEE Std 1149.1-2001, Annex B.8.11 to B.8.13).
use Rattle.std.specs.Prelude.{ℕ, ◌==◌, Bool, true, false, ◌||◌, if◌then◌else◌, List, [], ◌∷◌, ◌++◌, map, reverse, drop}
use Rattle.std.specs.Prelude.{codes, Option, Some, None}
use Rattle.std.specs.List.{list_all}
use Rattle.bsdl_text.specs.Cutting.{Lexeme}
use Rattle.bsdl_text.specs.Words.{upper, same_name}
use Rattle.bsdl_text.specs.Marks.{comma, opening, closing}
use Rattle.bsdl_text.specs.Reading.{Read, fits, ◌>>=◌, refused_at, one, word, mark, stands, is_over, number, separated}
use Rattle.bsdl_device.specs.Device.{Name, Pattern}

-- `one {, one} [,]` to the end of the text, and between brackets
abbrev pub rows : {A : Type 0} → (List Lexeme → Read A) → List Lexeme → Read (List A)
rows item ts = separated item comma is_over ts

abbrev pub bracketed : {A : Type 0} → (List Lexeme → Read A) → List Lexeme → Read (List A)
bracketed item ts =
    mark opening ts >>= λ m a. separated item comma (stands closing) a >>= λ xs b. mark closing b >>= λ n c. fits xs c

-- ---- patterns

-- `0`, `1`, and `X` in either case
abbrev pub zero_digit : ℕ
zero_digit = 48

abbrev pub one_digit : ℕ
one_digit = 49

abbrev pub either_digit : ℕ
either_digit = 88

abbrev pub small_either_digit : ℕ
small_either_digit = 120

abbrev pub is_digit : ℕ → Bool
is_digit c = c == zero_digit || (c == one_digit || (c == either_digit || c == small_either_digit))

abbrev pub are_digits : Lexeme → Bool
are_digits t = list_all is_digit t.text

abbrev pub bit : ℕ → Option Bool
bit c = if c == zero_digit then Some false else if c == one_digit then Some true else None

-- as written, so the rightmost is bit 0
abbrev pub pattern_of : List ℕ → Pattern
pattern_of digits = reverse (map bit digits)

-- digits, as far as they stand; white space between them separates tokens alone
unfoldable pub digits_on : List Lexeme → Read (List ℕ)
digits_on [] = fits [] []
digits_on (t ∷ ts) = if are_digits t then (digits_on ts >>= λ ds rest. fits (t.text ++ ds) rest) else fits [] (t ∷ ts)

abbrev pub pattern : List Lexeme → Read Pattern
pattern ts = one are_digits ts >>= λ t a. digits_on a >>= λ ds b. fits (pattern_of (t.text ++ ds)) b

-- ---- INSTRUCTION_OPCODE: name (pattern {, pattern})

pub record OpcodeRow : Type 0 where
  pub name : Lexeme
  pub patterns : List Pattern

abbrev pub opcode_row : List Lexeme → Read OpcodeRow
opcode_row ts = word ts >>= λ n a. bracketed pattern a >>= λ ps b. fits (record { name = n; patterns = ps }) b

-- ---- INSTRUCTION_PRIVATE: a name

abbrev pub private_name : List Lexeme → Read Name
private_name ts = word ts >>= λ n a. fits (upper n.text) a

-- ---- REGISTER_ACCESS: register (instr {, instr}), with an instr a name or name CAPTURES pattern

pub record Instr : Type 0 where
  pub name : Lexeme
  pub captures : Option Pattern

-- a register and, for one of the device's own, its length
pub record AccessRow : Type 0 where
  pub register : Name
  pub len : Option ℕ
  pub instrs : List Instr

abbrev pub begins : List ℕ → List Lexeme → Bool
begins keyword_text [] = false
begins keyword_text (t ∷ ts) = same_name t.text keyword_text

abbrev pub instr : List Lexeme → Read Instr
instr ts =
    word ts >>= λ n a.
    if begins (codes "CAPTURES") a
    then (pattern (drop 1 a) >>= λ p b. fits (record { name = n; captures = Some p }) b)
    else fits (record { name = n; captures = None }) a

-- a register that is no register of the device's own
abbrev pub is_public : List ℕ → Bool
is_public name =
    same_name name (codes "BOUNDARY") || (same_name name (codes "BYPASS") || same_name name (codes "DEVICE_ID"))

-- `[n]`, which only a public register goes without
abbrev pub register_len : Lexeme → List Lexeme → Read (Option ℕ)
register_len name ts =
    if stands 91 ts then (mark 91 ts >>= λ m a. number a >>= λ n b. mark 93 b >>= λ k c. fits (Some n) c)
    else if is_public name.text then fits None ts
    else refused_at ts

abbrev pub access_row : List Lexeme → Read AccessRow
access_row ts =
    word ts >>= λ r a. register_len r a >>= λ n b. bracketed instr b >>=
    λ is c. fits (record { register = upper r.text; len = n; instrs = is }) c
