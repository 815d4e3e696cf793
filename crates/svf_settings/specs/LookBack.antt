-- What holds at a statement of the Serial Vector Format (revision E), by looking back at the statements before it. How
-- TDI and MASK are taken over from one scan to the next is the project's own reading.
-- `before` has these, the nearest first: each definition looks at the nearest one, and else further back.
use Rattle.std.specs.Prelude.{ℕ, ◌==◌, Bool, true, false, max, List, [], ◌∷◌, Option, Some, None, unwrap_or}
use Rattle.std.specs.Prelude.{if◌then◌else◌}
use Rattle.std.specs.Int.{div_ceil}
use Rattle.jt_tap.specs.declared.Column.{Column}
use Rattle.jt_tap.specs.declared.Column.TheVariants.{Dr, Ir}
use Rattle.jt_tap.specs.declared.State.{State}
use Rattle.jt_tap.specs.declared.State.TheVariants.{Reset, Idle}
use Rattle.svf_words.specs.declared.keywords.TrstWord.{TrstWord}
use Rattle.svf_words.specs.declared.keywords.Which.{Which}
use Rattle.svf_words.specs.declared.keywords.Which.TheVariants.{Hdr, Hir, Tdr, Tir, Sdr, Sir}
use Rattle.svf_parse.specs.Judging.{Said}
use Rattle.svf_parse.specs.Judging as said
use Rattle.scan_vectors.specs.Vector.{VectorBit}
use Rattle.scan_vectors.specs.Fields.{Fields, no_fields, vector_of}
use Rattle.svf_programs.specs.Steps.{Step, Scan, Go, Path, Run, Trst, place_after}
pub use Rattle.svf_programs.specs.Periods.{default_period}

-- ---- where scans and runs end

-- ENDDR: where scans of data registers end
abbrev pub dr_end : List Said → State
dr_end [] = Idle
dr_end (said.end_dr s ∷ before) = s
dr_end (_ ∷ before) = dr_end before

-- ENDIR: where scans of the instruction register end
abbrev pub ir_end : List Said → State
ir_end [] = Idle
ir_end (said.end_ir s ∷ before) = s
ir_end (_ ∷ before) = ir_end before

-- The state in which a RUNTEST runs: the one that it names, or else the last one.
abbrev pub runs_in : (run : Option State) → (last : State) → State
runs_in run last = unwrap_or run last

-- The state in which it ends: the end that it names, or else the state to run in that it names, or else the last end.
abbrev pub ends_in : (run end : Option State) → (last : State) → State
ends_in run end last = unwrap_or end (unwrap_or run last)

-- where the last RUNTEST runs
abbrev pub run_state : List Said → State
run_state [] = Idle
run_state (said.run_test run count min max end ∷ before) = runs_in run (run_state before)
run_state (_ ∷ before) = run_state before

-- where it ends
abbrev pub run_end : List Said → State
run_end [] = Idle
run_end (said.run_test run count min max end ∷ before) = ends_in run end (run_end before)
run_end (_ ∷ before) = run_end before

-- ---- time

-- the period of TCK in picoseconds
abbrev pub period : List Said → ℕ
period [] = default_period
period (said.frequency p ∷ before) = unwrap_or p default_period
period (_ ∷ before) = period before

-- the cycles of a RUNTEST: at least its count, and at least its least time
abbrev pub cycle_count : ℕ → Option ℕ → Option ℕ → ℕ
cycle_count period count min = max (unwrap_or count 0) (div_ceil (unwrap_or min 0) period)

-- ---- the line TRST

-- what the last TRST statement says, if there is one
abbrev pub trst_word : List Said → Option TrstWord
trst_word [] = None
trst_word (said.trst w ∷ before) = Some w
trst_word (_ ∷ before) = trst_word before

-- ---- the fields of scans

abbrev pub is_same : Which → Which → Bool
is_same Hdr Hdr = true
is_same Hir Hir = true
is_same Tdr Tdr = true
is_same Tir Tir = true
is_same Sdr Sdr = true
is_same Sir Sir = true
is_same _ _ = false

-- a field of n bits: the one that is given, or else that in force at the command's previous statement, if that was as
-- long
abbrev pub field_or : (Fields → Option (List Bool)) → ℕ → Option (List Bool) → Option Fields → Option (List Bool)
field_or field n (Some bits) previous = Some bits
field_or field n None None = None
field_or field n None (Some f) = if f.len == n then field f else None

-- The fields in force at a statement of a scan command, by those of the command's previous statement. A TDO is not
-- taken over.
abbrev pub in_force : ℕ → (tdi tdo mask : Option (List Bool)) → Option Fields → Fields
in_force n tdi tdo mask previous =
    record {
      len = n;
      tdi = field_or (λ f. f.tdi) n tdi previous;
      tdo = tdo;
      mask = field_or (λ f. f.mask) n mask previous;
    }

-- these fields where this is so, and else the previous ones
abbrev pub if_so : Bool → Fields → Option Fields → Option Fields
if_so true fields previous = Some fields
if_so false fields previous = previous

-- the fields in force at the last statement of a scan command, if there is one
abbrev pub last_scan : Which → List Said → Option Fields
last_scan command [] = None
last_scan command (said.scan which n tdi tdo mask smask ∷ before) =
    let previous = last_scan command before in if_so (is_same which command) (in_force n tdi tdo mask previous) previous
last_scan command (_ ∷ before) = last_scan command before

-- ---- all of it

-- What the statements before a statement set for it.
pub record Settings : Type 0 where
  pub dr_end : State
  pub ir_end : State
  pub run_state : State
  pub run_end : State
  pub period : ℕ
  pub trst : Option TrstWord
  pub hdr : Option Fields
  pub hir : Option Fields
  pub tdr : Option Fields
  pub tir : Option Fields
  pub sdr : Option Fields
  pub sir : Option Fields

abbrev pub settings : List Said → Settings
settings before = record {
  dr_end = dr_end before;
  ir_end = ir_end before;
  run_state = run_state before;
  run_end = run_end before;
  period = period before;
  trst = trst_word before;
  hdr = last_scan Hdr before;
  hir = last_scan Hir before;
  tdr = last_scan Tdr before;
  tir = last_scan Tir before;
  sdr = last_scan Sdr before;
  sir = last_scan Sir before;
}

-- the fields in force at the last statement of a scan command
abbrev pub last_of_command : Which → Settings → Option Fields
last_of_command Hdr s = s.hdr
last_of_command Hir s = s.hir
last_of_command Tdr s = s.tdr
last_of_command Tir s = s.tir
last_of_command Sdr s = s.sdr
last_of_command Sir s = s.sir

-- ---- steps

-- The whole vector of a scan with these fields: those of the last header, its own, and those of the last trailer.
abbrev pub whole : Column → Settings → Fields → List VectorBit
whole Dr s body = vector_of (unwrap_or s.hdr no_fields) body (unwrap_or s.tdr no_fields)
whole Ir s body = vector_of (unwrap_or s.hir no_fields) body (unwrap_or s.tir no_fields)

-- one state to go to, or a path
abbrev pub path_step : List State → Option Step
path_step [] = None
path_step (s ∷ []) = Some (Go s)
path_step (s ∷ t ∷ path) = Some (Path (s ∷ t ∷ path))

-- The step that a statement makes at these settings, if it makes one.
abbrev pub step : Settings → Said → Option Step
step s (said.scan Sdr n tdi tdo mask smask) = Some (Scan Dr (whole Dr s (in_force n tdi tdo mask s.sdr)) s.dr_end)
step s (said.scan Sir n tdi tdo mask smask) = Some (Scan Ir (whole Ir s (in_force n tdi tdo mask s.sir)) s.ir_end)
step s (said.run_test run count min max end) =
    Some (Run (runs_in run s.run_state) (cycle_count s.period count min) (ends_in run end s.run_end))
step s (said.states path) = path_step path
step s (said.trst w) = Some (Trst w)
step s _ = None

abbrev pub place_after_some : State → Option Step → State
place_after_some place None = place
place_after_some place (Some step) = place_after place step

-- where the program rests: in RESET at first, and then where the last step rests
abbrev pub place : List Said → State
place [] = Reset
place (s ∷ before) = place_after_some (place before) (step (settings before) s)
