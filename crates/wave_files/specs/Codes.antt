-- How variables and states are written in a value change dump (IEEE Std 1364-2001, clause 18).
use Rattle.std.specs.Prelude.{ℕ, ◌+◌, ◌/◌, ◌%◌, ◌==◌, List, [], ◌∷◌, ◌++◌, codes, map, if◌then◌else◌}
use Rattle.std.specs.Int.Digits.{digits_of}
use Rattle.output_words.specs.Digits.{zero_digit}
use Rattle.jt_tap.specs.declared.State.{State}
use Rattle.jt_tap.specs.Words.{word}
use Rattle.jt_tap.specs.declared.State.TheVariants.{Reset, Idle, DrSelect, DrCapture, DrShift, DrExit1, DrPause}
use Rattle.jt_tap.specs.declared.State.TheVariants.{DrExit2, DrUpdate, IrSelect, IrCapture, IrShift, IrExit1, IrPause}
use Rattle.jt_tap.specs.declared.State.TheVariants.{IrExit2, IrUpdate}

-- the printable bytes but the blank, `!` to `~`, are the digits of a code
abbrev pub first_digit : ℕ
first_digit = 33

abbrev pub base : ℕ
base = 94

abbrev pub code_digit : ℕ → ℕ
code_digit n = n % base + first_digit

-- a number's digits from the third on: one or two
abbrev pub last_digits : ℕ → List ℕ
last_digits n = code_digit n ∷ (if n / base == 0 then [] else code_digit (n / base) ∷ [])

-- and from the second on: up to three
abbrev pub further_digits : ℕ → List ℕ
further_digits n = code_digit n ∷ (if n / base == 0 then [] else last_digits (n / base))

-- A variable's code is its number in that base, the lowest digit first, of one to four digits.
abbrev pub code : ℕ → List ℕ
code n = code_digit n ∷ (if n / base == 0 then [] else further_digits (n / base))

abbrev pub digit_byte : ℕ → ℕ
digit_byte d = zero_digit + d

-- a number above 0 as its binary digits, the highest first
abbrev pub binary : ℕ → List ℕ
binary n = map digit_byte (digits_of 2 n)

-- the codes of the states in the standard's own example of a controller (IEEE Std 1149.1-2001, clause 6.1)
abbrev pub state_code : State → List ℕ
state_code DrExit2 = codes "0000"
state_code DrExit1 = codes "0001"
state_code DrShift = codes "0010"
state_code DrPause = codes "0011"
state_code IrSelect = codes "0100"
state_code DrUpdate = codes "0101"
state_code DrCapture = codes "0110"
state_code DrSelect = codes "0111"
state_code IrExit2 = codes "1000"
state_code IrExit1 = codes "1001"
state_code IrShift = codes "1010"
state_code IrPause = codes "1011"
state_code Idle = codes "1100"
state_code IrUpdate = codes "1101"
state_code IrCapture = codes "1110"
state_code Reset = codes "1111"

-- the line of a state up to its variable's code: `b1100 `
abbrev pub state_bits : State → List ℕ
state_bits s = codes "b" ++ (state_code s ++ codes " ")

-- the two lines of a state, with a blank for each of the codes
abbrev pub state_form : State → List ℕ
state_form s = state_bits s ++ (codes " \ns" ++ (word s ++ codes "  \n"))
