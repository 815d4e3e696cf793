-- Names as they are told.
use Rattle.std.specs.Prelude.{ℕ, ◌==◌, ◌||◌, ◌&&◌, nat_lt, nat_le, Bool, List, [], ◌∷◌, ◌++◌, codes, if◌then◌else◌}
use Rattle.output_words.specs.Digits.{hex_byte}

abbrev pub first_printed : ℕ
first_printed = 32

abbrev pub delete : ℕ
delete = 127

abbrev pub backslash : ℕ
backslash = 92

-- a control byte, which a terminal would take for itself, and the backslash
abbrev pub is_escaped : ℕ → Bool
is_escaped b = nat_lt b first_printed || b == delete || b == backslash

-- Unicode has more control characters, 128 to 159. In UTF-8 each is two bytes: c2, and its own number.
abbrev pub high_control_lead : ℕ
high_control_lead = 194

abbrev pub first_high_control : ℕ
first_high_control = 128

abbrev pub last_high_control : ℕ
last_high_control = 159

-- whether two bytes are a control character
abbrev pub is_high_control : ℕ → ℕ → Bool
is_high_control a b = a == high_control_lead && nat_le first_high_control b && nat_le b last_high_control

-- a byte by its digits
abbrev pub escaped : ℕ → List ℕ
escaped b = codes "\\x" ++ hex_byte b

abbrev pub shown_byte : ℕ → List ℕ
shown_byte b = if is_escaped b then escaped b else b ∷ []

-- A name as it is told: each byte of a control character and the backslash as `\x` and two digits, so that a name is
-- never told as two lines, moves no cursor, and no two names are told alike.
abbrev pub shown : List ℕ → List ℕ
shown [] = []
shown (b ∷ []) = shown_byte b
shown (a ∷ b ∷ rest) =
    if is_high_control a b then escaped a ++ escaped b ++ shown rest else shown_byte a ++ shown (b ∷ rest)
