-- Which single faults give just what a log says, as lines tell it.
use Rattle.std.specs.Prelude.{◌≡◌, ◌==◌, Bool, ℕ, List, [], ◌∷◌, ◌++◌, codes, flat_map, length}
use Rattle.std.specs.Prelude.{if◌then◌else◌}
use Rattle.std.specs.List.{list_all, list_any}
use Rattle.output_words.specs.declared.status.Status.{Status}
use Rattle.output_words.specs.declared.status.Status.TheVariants as exits
use Rattle.output_words.specs.Statuses.{number}
use Rattle.svf_programs.specs.Steps.{Program}
use Rattle.board_plan.specs.Planned.{Wiring}
use Rattle.board_faults.specs.declared.kinds.Fault.{Fault}
use Rattle.board_faults.specs.Faults.{faults}
use Rattle.fault_serving.specs.Words.{fault_words, way_words}
use Rattle.play_diagnosis.specs.declared.fitting.TriedWay.{TriedWay}
use Rattle.play_diagnosis.specs.Fitting.{TriesFault}
use Rattle.play_diagnosis.specs.Reading.{Verdict}

-- ---- the line of a fault

abbrev pub any_fits : List TriedWay → Bool
any_fits ts = list_any (λ (t : TriedWay). t.fits) ts

abbrev pub all_fit : List TriedWay → Bool
all_fit ts = list_all (λ (t : TriedWay). t.fits) ts

abbrev pub fitting_words : TriedWay → List ℕ
fitting_words t = if t.fits then way_words t.way else []

-- the ways that fit, where not all do
abbrev pub fitting_ways : List TriedWay → List ℕ
fitting_ways ts = if all_fit ts then [] else flat_map fitting_words ts

-- `open U2.Q(5) at 1`; nothing where no way fits
abbrev pub fault_line : Wiring → Fault → List TriedWay → List ℕ
fault_line w fault ts =
    if any_fits ts then fault_words w fault ++ (fitting_ways ts ++ codes "\n") else []

-- ---- all faults, one after another

pub record TellsFault (said : Verdict) (program : Program) (w : Wiring) (fault : Fault) (line : List ℕ) : Type 0 where
  pub ways : List TriedWay
  pub tries : TriesFault said program w fault ways
  pub tells : line ≡ fault_line w fault ways

-- behind a text
abbrev pub PutsFault : Verdict → Program → Wiring → Fault → (before after : List ℕ) → Type 0
PutsFault said program w fault before after =
    (line : List ℕ) × TellsFault said program w fault line × (after ≡ before ++ line)

abbrev pub TellsFaults : Verdict → Program → Wiring → List Fault → (told : List ℕ) → Type 0
TellsFaults said program w [] told = told ≡ []
TellsFaults said program w (fault ∷ faults) told =
    (line : List ℕ) × TellsFault said program w fault line
    × ((rest : List ℕ) × TellsFaults said program w faults rest × (told ≡ line ++ rest))

-- behind a text
abbrev pub PutsFaults : Verdict → Program → Wiring → List Fault → (before after : List ℕ) → Type 0
PutsFaults said program w faults before after =
    (told : List ℕ) × TellsFaults said program w faults told × (after ≡ before ++ told)

-- where no fault is told
abbrev pub none_line : List ℕ
none_line = codes "none: no single fault gives these bits\n"

abbrev pub diagnosis : (told : List ℕ) → List ℕ
diagnosis told = if length told == 0 then none_line else told

abbrev pub diagnosis_status : (told : List ℕ) → Status
diagnosis_status told = if length told == 0 then exits.Fail else exits.Pass

-- What is printed, and the exit status: a line for each fault of the board that gives just what the log says.
pub record IsDiagnosis (said : Verdict) (program : Program) (w : Wiring) (out : List ℕ) (status : ℕ) : Type 0 where
  pub told : List ℕ
  pub tells : TellsFaults said program w (faults w.nets) told
  pub lines : out ≡ diagnosis told
  pub is_status : status ≡ number (diagnosis_status told)
