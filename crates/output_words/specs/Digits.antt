-- Bits and bytes as digits.
use Rattle.std.specs.Prelude.{Bool, true, false, ℕ, zero, suc, ◌/◌, ◌%◌, List, [], ◌∷◌, codes, map, reverse}
use Rattle.std.specs.Prelude.{slice_index}
use Rattle.jt_bits.specs.Hex.{hex_digit_of}

-- the digits `1` and `0`
abbrev pub one_digit : ℕ
one_digit = 49

abbrev pub zero_digit : ℕ
zero_digit = 48

abbrev pub digit : Bool → ℕ
digit true = one_digit
digit false = zero_digit

-- bits as digits, the highest first
abbrev pub digits : List Bool → List ℕ
digits bits = map digit (reverse bits)

-- the lowest n hexadecimal digits of bits, the highest of them first
abbrev pub hexadecimal : (n : ℕ) → List Bool → List ℕ
hexadecimal zero bits = []
hexadecimal (suc n) bits = hex_digit_of bits n ∷ hexadecimal n bits

-- two lower-case hexadecimal digits
abbrev pub hex_byte : ℕ → List ℕ
hex_byte b = slice_index (codes "0123456789abcdef") (b / 16) ∷ slice_index (codes "0123456789abcdef") (b % 16) ∷ []
