-- The refusals that a statement has of its own, all of them, and that the one with the lowest number is told.
use Rattle.std.specs.Prelude.{◌≡◌, ℕ, ◌≤◌, ◌⊎◌, true, List, Option, Some, None, Ok, Err}
use Rattle.svf_words.specs.declared.fault.Code.{Code}
use Rattle.svf_words.specs.declared.fault.Code.TheVariants as code
use Rattle.svf_words.specs.declared.keywords.Clock.{Clock}
use Rattle.svf_words.specs.declared.keywords.Clock.TheVariants as clock
use Rattle.svf_words.specs.Words.{Word}
use Rattle.svf_words.specs.Faults.{number}
use Rattle.svf_words.specs.Numbers.{period_says, time_says, count_says, len_says, len_value}
use Rattle.svf_parse.specs.Forms.{Form, end_dr_form, end_ir_form, frequency_form, scan_form, run_test_form, states_form}
use Rattle.svf_parse.specs.Forms.{trst_form, port_form}
use Rattle.svf_parse.specs.Judging.{Said, is_misspelt, is_wider, form_says}

-- what is given has this refusal
abbrev pub GivenHas : {A : Type 0} → (A → Code → Type 0) → Option A → Code → Type 0
GivenHas Has None c = ⊥
GivenHas Has (Some x) c = Has x c

-- A number has one refusal at most: S5 where it is misspelt, S15 where it has too many digits or too large an exponent,
-- and else by its value.
abbrev pub FrequencyHas : Word → Code → Type 0
FrequencyHas w c = period_says w ≡ Err c

abbrev pub TimeHas : Word → Code → Type 0
TimeHas w c = time_says w ≡ Err c

abbrev pub LengthHas : Word → Code → Type 0
LengthHas w c = len_says w ≡ Err c

-- a field of a scan whose length has this value: a digit is misspelt, or a 1 stands beyond the length
abbrev pub FieldHas : Option ℕ → List ℕ → Code → Type 0
FieldHas n h c = ((c ≡ code.BadNumber) × (is_misspelt h ≡ true)) ⊎ ((c ≡ code.TooWide) × (is_wider n h ≡ true))

-- a count of the cycles of a clock: the number's refusal, and that there is no system clock
abbrev pub CountHas : Word × Clock → Code → Type 0
CountHas p c = ((c ≡ code.Unsupported) × (p.1 ≡ clock.Sck)) ⊎ (count_says p.0 ≡ Err c)

-- a statement that is written in this form has this refusal
abbrev pub Has : Form → Code → Type 0
Has (end_dr_form s) c = ⊥
Has (end_ir_form s) c = ⊥
Has (frequency_form n) c = GivenHas FrequencyHas n c
Has (scan_form which w fs) c =
    GivenHas (FieldHas (len_value w)) fs.tdi c ⊎ (GivenHas (FieldHas (len_value w)) fs.tdo c
    ⊎ (GivenHas (FieldHas (len_value w)) fs.mask c ⊎ (GivenHas (FieldHas (len_value w)) fs.smask c ⊎ LengthHas w c)))
Has (run_test_form r) c = GivenHas CountHas r.count c ⊎ (GivenHas TimeHas r.min c ⊎ GivenHas TimeHas r.max c)
Has (states_form ss) c = ⊥
Has (trst_form t) c = ⊥
Has port_form c = c ≡ code.Unsupported

-- a statement that is refused has the refusal that is told, and none of its refusals has a lower number
abbrev pub LeastIsTold : Type 0
LeastIsTold = (f : Form) (c : Code) → form_says f ≡ Err c → Has f c × ((d : Code) → Has f d → number c ≤ number d)

-- a statement that is accepted has no refusal
abbrev pub AcceptedHasNone : Type 0
AcceptedHasNone = (f : Form) (s : Said) (d : Code) → form_says f ≡ Ok s → ¬ Has f d
