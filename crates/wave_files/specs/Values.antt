-- The values of variables as a value change dump writes them, each on a line with its variable's code (IEEE Std
-- 1364-2001, clause 18).
use Rattle.std.specs.Prelude.{ℕ, ◌+◌, ◌*◌, ◌==◌, Bool, true, false, not, List, [], ◌∷◌, ◌++◌, codes, length}
use Rattle.std.specs.Prelude.{Option, Some, None, if◌then◌else◌}
use Rattle.std.specs.Cmp.Lexicographic.{pointwise}
use mathlib.Core.Bool.{beq}
use Rattle.jt_tap.specs.declared.State.{State}
use Rattle.jt_tap.specs.Controller.{is_at}
use Rattle.jt_tap.specs.Words.{word}
use Rattle.pin_nets.specs.Wired.{Net}
use Rattle.pin_nets.specs.declared.Level.{Level}
use Rattle.pin_nets.specs.declared.Level.TheVariants.{Zero, One, Contend, Float}
use Rattle.board_model.specs.Chain.{ChipState}
use Rattle.output_words.specs.Digits.{digit, digits}
use Rattle.wave_files.specs.declared.shown.Shown.{Shown}
use Rattle.wave_files.specs.Codes.{code, state_code}

-- ---- single levels

-- `z`
abbrev pub undriven : ℕ
undriven = 122

-- `x`
abbrev pub unknown : ℕ
unknown = 120

-- a line of the TAP, or what stands for it where it has no level
abbrev pub wire : (none : ℕ) → Option Bool → ℕ
wire none (Some b) = digit b
wire none None = none

-- TRST is low while it is asserted.
abbrev pub trst_byte : Bool → ℕ
trst_byte asserted = digit (not asserted)

abbrev pub level_byte : Level → ℕ
level_byte Zero = digit false
level_byte One = digit true
level_byte Float = undriven
level_byte Contend = unknown

-- TDO is that of the device nearest it.
abbrev pub first_tdo : List ChipState → Option Bool
first_tdo [] = None
first_tdo (c ∷ cs) = c.tdo

-- what the lines of the TAP show, of which a level is unknown where there is none
abbrev pub shown_of : (tck tms tdi : Option Bool) → (trst : Bool) → List ChipState → Shown
shown_of tck tms tdi trst cs = record {
  tck = wire unknown tck;
  tms = wire unknown tms;
  tdi = wire unknown tdi;
  tdo = wire undriven (first_tdo cs);
  trst = trst_byte trst;
}

-- ---- lines

-- what ends each line: the code of the variable of this number
abbrev pub ended : ℕ → List ℕ
ended n = code n ++ codes "\n"

-- one level: `0!`
abbrev pub byte_line : ℕ → (value : ℕ) → List ℕ
byte_line n value = value ∷ ended n

-- bits from the highest on: `b1100 &`
abbrev pub bits_line : ℕ → (bits : List ℕ) → List ℕ
bits_line n bits = codes "b" ++ (bits ++ (codes " " ++ ended n))

-- a word, as GTKWave takes it beside the standard: `sIDLE '`
abbrev pub word_line : ℕ → (letters : List ℕ) → List ℕ
word_line n letters = codes "s" ++ (letters ++ (codes " " ++ ended n))

-- ---- devices

-- A device has three variables: its controller's state in the standard's coding, the same as a word, and its
-- instruction.
abbrev pub variables_of_device : ℕ
variables_of_device = 3

abbrev pub state_lines : ℕ → State → List ℕ
state_lines n s = bits_line n (state_code s) ++ word_line (n + 1) (word s)

abbrev pub latch : ChipState → List Bool
latch c = c.member.registers.latch

abbrev pub instruction_line : ℕ → List Bool → List ℕ
instruction_line n bits = bits_line (n + 2) (digits bits)

-- all that is shown of a device, from the variable n on
abbrev pub device_lines : ℕ → ChipState → List ℕ
device_lines n c = state_lines n c.state ++ instruction_line n (latch c)

-- ---- changes

-- a level, where it differs from the one before
abbrev pub byte_change : ℕ → (before after : ℕ) → List ℕ
byte_change n before after = if before == after then [] else byte_line n after

abbrev pub state_change : ℕ → (before after : State) → List ℕ
state_change n before after = if is_at before after then [] else state_lines n after

abbrev pub instruction_change : ℕ → (before after : List Bool) → List ℕ
instruction_change n before after = if pointwise beq before after then [] else instruction_line n after

-- a device before and after
abbrev pub device_change : ℕ → ChipState × ChipState → List ℕ
device_change n c = state_change n c.0.state c.1.state ++ instruction_change n (latch c.0) (latch c.1)

-- ---- variables, numbered in order

-- what is said of each, the first by the number n, the next by one that is so much larger
abbrev pub by_numbers : {X : Type 0} → (ℕ → X → List ℕ) → (step n : ℕ) → List X → List ℕ
by_numbers say step n [] = []
by_numbers say step n (x ∷ xs) = say n x ++ by_numbers say step (n + step) xs

-- the lines of the TAP come first: TCK 0, TMS 1, TDI 2, TDO 3, TRST 4; behind them the number of the statement
abbrev pub statement_variable : ℕ
statement_variable = 5

abbrev pub first_of_devices : ℕ
first_of_devices = 6

-- then the named nets
abbrev pub first_of_nets : List ChipState → ℕ
first_of_nets cs = first_of_devices + variables_of_device * length cs

-- and where they are drawn, what is told of the bits that scans want
abbrev pub first_of_notes : List ChipState → List Net → ℕ
first_of_notes cs nets = first_of_nets cs + length nets

abbrev pub variables_of_notes : ℕ
variables_of_notes = 4

-- Behind these, whether they are drawn or not, each device has two variables more: the name of its instruction, and its
-- TDO ..
abbrev pub extras_of_device : ℕ
extras_of_device = 2

abbrev pub first_of_extras : List ChipState → List Net → ℕ
first_of_extras cs nets = first_of_notes cs nets + variables_of_notes

-- .. and last each pin of the named nets has one, net after net.
abbrev pub first_of_drives : List ChipState → List Net → ℕ
first_of_drives cs nets = first_of_extras cs nets + extras_of_device * length cs
