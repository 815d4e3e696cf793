-- The two lines of a state, by their form.
use Rattle.std.proofs.Common.{◌≡◌, ◌<◌, ◌+◌, ◌-◌, ◌/◌, ◌==◌, ℕ, List, [], ◌∷◌, ◌++◌, length, take, set, refl, sym, ap, ◌∙◌, append_assoc, arith}
use Rattle.std.specs.Prelude.{codes, if◌then◌else◌}
use Rattle.jt_tap.specs.declared.State.{State}
use Rattle.jt_tap.specs.declared.State.TheVariants.{Reset, Idle, DrSelect, DrCapture, DrShift, DrExit1, DrPause, DrExit2, DrUpdate, IrSelect, IrCapture, IrShift, IrExit1, IrPause, IrExit2, IrUpdate}
use Rattle.jt_tap.specs.Words.{word}
use Rattle.wave_files.specs.Codes.{base, code_digit, further_digits, state_bits, state_code, state_form}
use Rattle.wave_files.specs.Values.{ended, state_lines}

-- what ends the first line, and what follows it
pub in_parts : (s : State) (end rest : List ℕ) → state_bits s ++ (end ++ rest) ≡ (codes "b" ++ (state_code s ++ (codes " " ++ end))) ++ rest
in_parts s end rest =
    ap (λ (l : List ℕ). codes "b" ++ l)
    (append_assoc (state_code s) (codes " ") (end ++ rest) ∙ sym (append_assoc (state_code s) (codes " " ++ end) rest))

ended_short : (n : ℕ) → n < base → ended n ≡ code_digit n ∷ codes "\n"
ended_short n less =
    let none : n / base ≡ 0 = omega (arith, less) in
    ap (λ (q : ℕ). (code_digit n ∷ (if q == 0 then [] else further_digits q)) ++ codes "\n") none

pub form_begins : (s : State) → take 6 (state_form s) ≡ state_bits s
form_begins Reset = refl
form_begins Idle = refl
form_begins DrSelect = refl
form_begins DrCapture = refl
form_begins DrShift = refl
form_begins DrExit1 = refl
form_begins DrPause = refl
form_begins DrExit2 = refl
form_begins DrUpdate = refl
form_begins IrSelect = refl
form_begins IrCapture = refl
form_begins IrShift = refl
form_begins IrExit1 = refl
form_begins IrPause = refl
form_begins IrExit2 = refl
form_begins IrUpdate = refl

-- a form with its codes
abbrev filled : State → (first second : ℕ) → List ℕ
filled s c d = (codes "b" ++ (state_code s ++ (codes " " ++ (c ∷ codes "\n")))) ++ (codes "s" ++ (word s ++ (codes " " ++ (d ∷ codes "\n"))))

form_filled : (s : State) (c d : ℕ) (rest : List ℕ)
    → take (length (state_form s)) (set (set (state_form s ++ rest) 6 c) (length (state_form s) - 2) d) ≡ filled s c d
form_filled Reset c d rest = refl
form_filled Idle c d rest = refl
form_filled DrSelect c d rest = refl
form_filled DrCapture c d rest = refl
form_filled DrShift c d rest = refl
form_filled DrExit1 c d rest = refl
form_filled DrPause c d rest = refl
form_filled DrExit2 c d rest = refl
form_filled DrUpdate c d rest = refl
form_filled IrSelect c d rest = refl
form_filled IrCapture c d rest = refl
form_filled IrShift c d rest = refl
form_filled IrExit1 c d rest = refl
form_filled IrPause c d rest = refl
form_filled IrExit2 c d rest = refl
form_filled IrUpdate c d rest = refl

-- both codes have one digit
pub short_lines : (n : ℕ) (s : State) (rest : List ℕ) → n + 1 < base
    → take (length (state_form s)) (set (set (state_form s ++ rest) 6 (code_digit n)) (length (state_form s) - 2) (code_digit (n + 1))) ≡ state_lines n s
short_lines n s rest less =
    form_filled s (code_digit n) (code_digit (n + 1)) rest
    ∙ (λ i. (codes "b" ++ (state_code s ++ (codes " " ++ sym (ended_short n (omega (arith, less))) i)))
    ++ (codes "s" ++ (word s ++ (codes " " ++ sym (ended_short (n + 1) less) i))))
