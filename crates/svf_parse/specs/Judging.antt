-- What a statement says that is written in a form, or the refusal with the lowest number among those that it has.
use Rattle.std.specs.Prelude.{ℕ, Bool, false, not, if◌then◌else◌, List, take, Option, Some, None, option_map}
use Rattle.std.specs.Prelude.{Result, Ok, Err}
use Rattle.std.specs.List.{list_all}
use Rattle.std.specs.Char.{is_ascii_hexdigit}
use Rattle.jt_tap.specs.declared.State.{State}
use Rattle.jt_bits.specs.Hex.{binary, has_one_beyond}
use Rattle.jt_limits.specs.declared.Limits.{Limits}
use Rattle.jt_limits.specs.Limits.{limits}
use Rattle.svf_words.specs.declared.fault.Code.{Code}
use Rattle.svf_words.specs.declared.fault.Code.TheVariants as code
use Rattle.svf_words.specs.declared.keywords.TrstWord.{TrstWord}
use Rattle.svf_words.specs.declared.keywords.Which.{Which}
use Rattle.svf_words.specs.declared.keywords.Clock.{Clock}
use Rattle.svf_words.specs.declared.keywords.Clock.TheVariants as clock
use Rattle.svf_words.specs.Words.{Word}
use Rattle.svf_words.specs.Faults.{lower_code}
use Rattle.svf_parse.specs.Fields.{Fields}
use Rattle.svf_parse.specs.RunTests.{RunTest}
use Rattle.svf_words.specs.Numbers.{period_says_within, time_says_within, count_says_within, len_says_within}
use Rattle.svf_words.specs.Numbers.{len_value}
use Rattle.svf_parse.specs.Forms.{Form, end_dr_form, end_ir_form, frequency_form, scan_form, run_test_form, states_form}
use Rattle.svf_parse.specs.Forms.{trst_form, port_form}

-- a statement, without where it lies in memory
pub data Said : Type 0 where
  end_dr : State → Said
  end_ir : State → Said
  frequency : Option ℕ → Said
  scan : Which → ℕ → Option (List Bool) → Option (List Bool) → Option (List Bool) → Option (List Bool) → Said
  run_test : Option State → Option ℕ → Option ℕ → Option ℕ → Option State → Said
  states : List State → Said
  trst : TrstWord → Said

infixl 10 ◌>>=◌
abbrev pub ◌>>=◌ : {A B E : Type 0} → Result A E → (A → Result B E) → Result B E
(Ok x) >>= f = f x
(Err e) >>= f = Err e

-- what this says, but for a refusal beside it, of which a lower number comes first
abbrev pub checked : {A : Type 0} → Option Code → Result A Code → Result A Code
checked None says = says
checked (Some c) (Ok x) = Err c
checked (Some c) (Err d) = Err (lower_code c d)

-- what two say, or the lower refusal
abbrev pub both : {A B : Type 0} → Result A Code → Result B Code → Result (A × B) Code
both (Ok x) (Ok y) = Ok (x, y)
both (Ok x) (Err d) = Err d
both (Err c) (Ok y) = Err c
both (Err c) (Err d) = Err (lower_code c d)

-- what this says of what is given, if anything is
abbrev pub given : {A B : Type 0} → (A → Result B Code) → Option A → Result (Option B) Code
given says None = Ok None
given says (Some x) = says x >>= λ y. Ok (Some y)

-- ---- scans

abbrev pub is_misspelt : List ℕ → Bool
is_misspelt h = not (list_all is_ascii_hexdigit h)

abbrev pub is_wider : Option ℕ → List ℕ → Bool
is_wider None h = false
is_wider (Some n) h = has_one_beyond n h

-- the refusal of a field of a scan whose length has this value, or none
abbrev pub field_fault : Option ℕ → Option (List ℕ) → Option Code
field_fault n None = None
field_fault n (Some h) = if is_misspelt h then Some code.BadNumber else if is_wider n h then Some code.TooWide else None

-- the length of a scan
unfoldable pub scan_says_within : Limits → Word → Fields → Result ℕ Code
scan_says_within l w fs =
    let n = len_value w in
    checked (field_fault n fs.tdi)
    (checked (field_fault n fs.tdo)
    (checked (field_fault n fs.mask) (checked (field_fault n fs.smask) (len_says_within l w))))

-- the binary digits that a field of n bits writes, lowest first: those above them are 0, and are not kept
abbrev pub bits_written : ℕ → List ℕ → List Bool
bits_written n h = take n (binary h)

-- the bits of a field
abbrev pub bits : ℕ → Option (List ℕ) → Option (List Bool)
bits n h = option_map (bits_written n) h

abbrev pub scan_with : Which → Fields → ℕ → Said
scan_with which fs n = scan which n (bits n fs.tdi) (bits n fs.tdo) (bits n fs.mask) (bits n fs.smask)

-- ---- runs

-- there is no free-running system clock
abbrev pub clock_fault : Clock → Option Code
clock_fault clock.Tck = None
clock_fault clock.Sck = Some code.Unsupported

abbrev pub cycles_say_within : Limits → Word × Clock → Result ℕ Code
cycles_say_within l c = checked (clock_fault c.1) (count_says_within l c.0)

abbrev pub run_test_with : RunTest → Option ℕ × (Option ℕ × Option ℕ) → Said
run_test_with r p = run_test r.run p.0 p.1.0 p.1.1 r.end

unfoldable pub run_test_says_within : Limits → RunTest → Result Said Code
run_test_says_within l r =
    both (given (cycles_say_within l) r.count)
    (both (given (time_says_within l) r.min) (given (time_says_within l) r.max)) >>= λ p. Ok (run_test_with r p)

-- ---- each form

abbrev pub form_says_within : Limits → Form → Result Said Code
form_says_within l (end_dr_form s) = Ok (end_dr s)
form_says_within l (end_ir_form s) = Ok (end_ir s)
form_says_within l (frequency_form n) = given (period_says_within l) n >>= λ p. Ok (frequency p)
form_says_within l (scan_form which w fs) = scan_says_within l w fs >>= λ n. Ok (scan_with which fs n)
form_says_within l (run_test_form r) = run_test_says_within l r
form_says_within l (states_form ss) = Ok (states ss)
form_says_within l (trst_form t) = Ok (trst t)
form_says_within l port_form = Err code.Unsupported

-- ---- within the limits that stand

abbrev pub scan_says : Word → Fields → Result ℕ Code
scan_says w fs = scan_says_within limits w fs

abbrev pub cycles_say : Word × Clock → Result ℕ Code
cycles_say c = cycles_say_within limits c

abbrev pub run_test_says : RunTest → Result Said Code
run_test_says r = run_test_says_within limits r

abbrev pub form_says : Form → Result Said Code
form_says f = form_says_within limits f
