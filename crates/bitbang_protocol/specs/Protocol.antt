-- The bytes of OpenOCD's remote_bitbang protocol, both ways, and the bytes of one cycle of TCK.
use Rattle.std.specs.Prelude.{◌≡◌, Bool, true, false, ℕ, ◌+◌, ◌*◌, ◌==◌, List, [], ◌∷◌, ◌++◌, Option, Some, None}
use Rattle.std.specs.Prelude.{if◌then◌else◌}
use Rattle.bitbang_protocol.specs.declared.Message.{Message}
use Rattle.bitbang_protocol.specs.declared.Message.TheVariants.{Write, Ask, Quit, Light, Lines}
use Rattle.bitbang_protocol.specs.declared.Cycle.{Cycle}

-- The bytes: the digit of three low lines, which answers a low TDO too, and that of a high TDO; `R`, `Q`, `B`, `b`; and
-- `r`, of two low reset lines.
abbrev pub zero_byte : ℕ
zero_byte = 48

abbrev pub one_byte : ℕ
one_byte = 49

abbrev pub ask_byte : ℕ
ask_byte = 82

abbrev pub quit_byte : ℕ
quit_byte = 81

abbrev pub light_byte : ℕ
light_byte = 66

abbrev pub dark_byte : ℕ
dark_byte = 98

abbrev pub low_resets_byte : ℕ
low_resets_byte = 114

-- A line's value in a digit.
abbrev pub value : Bool → ℕ
value true = 1
value false = 0

-- The byte of a message: the digit 4 tck + 2 tms + tdi for written lines; `R`, `Q`, `B`, `b`; `r` to `u` for the two
-- reset lines, counted as a number with trst its higher digit.
abbrev pub encode : Message → ℕ
encode (Write tck tms tdi) = zero_byte + 4 * value tck + 2 * value tms + value tdi
encode Ask = ask_byte
encode Quit = quit_byte
encode (Light true) = light_byte
encode (Light false) = dark_byte
encode (Lines trst srst) = low_resets_byte + 2 * value trst + value srst

-- Every message once.
abbrev pub messages : List Message
messages =
    Write false false false ∷ Write false false true ∷ Write false true false ∷ Write false true true
    ∷ Write true false false ∷ Write true false true ∷ Write true true false ∷ Write true true true
    ∷ Ask ∷ Quit ∷ Light true ∷ Light false
    ∷ Lines false false ∷ Lines false true ∷ Lines true false ∷ Lines true true ∷ []

-- The first of these messages that a byte spells.
abbrev pub spelt : ℕ → List Message → Option Message
spelt byte [] = None
spelt byte (m ∷ ms) = if encode m == byte then Some m else spelt byte ms

-- The message that a byte spells, if it spells one.
abbrev pub decode : ℕ → Option Message
decode byte = spelt byte messages

-- The law that the table is one both ways: every message is the one that its byte spells.
abbrev pub DecodesWhatIsEncoded : Type 0
DecodesWhatIsEncoded = (m : Message) → decode (encode m) ≡ Some m

-- The byte that answers an `R`.
abbrev pub answer : Bool → ℕ
answer true = one_byte
answer false = zero_byte

-- The bit that an answer's byte tells.
abbrev pub read_answer : ℕ → Option Bool
read_answer byte = if byte == zero_byte then Some false else if byte == one_byte then Some true else None

-- One cycle: TCK low with the cycle's TMS and TDI, `R` where the cycle reads TDO, and TCK high with the same two.
abbrev pub cycle_messages : Cycle → List Message
cycle_messages c = Write false c.tms c.tdi ∷ (if c.read then Ask ∷ [] else []) ++ Write true c.tms c.tdi ∷ []
