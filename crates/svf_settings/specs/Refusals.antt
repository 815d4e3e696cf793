-- Why a statement is refused, by the settings at it and the place where the program rests before it.
use Rattle.std.specs.Prelude.{◌≡◌, ℕ, ◌+◌, ◌*◌, ◌≤◌, Bool, true, false, not, ◌&&◌, ◌==◌, nat_lt, List, [], ◌∷◌, Option}
use Rattle.std.specs.Prelude.{Some, None, is_some, if◌then◌else◌}
use Rattle.jt_limits.specs.declared.Limits.{Limits}
use Rattle.jt_limits.specs.Limits.{limits}
use Rattle.jt_tap.specs.Controller.{is_stable}
use Rattle.jt_tap.specs.declared.State.{State}
use Rattle.jt_tap.specs.Paths.{last_of}
use Rattle.jt_tap.specs.Stated.{first_gap}
use Rattle.svf_words.specs.declared.fault.Code.{Code}
use Rattle.svf_words.specs.declared.fault.Code.TheVariants as code
use Rattle.svf_words.specs.declared.keywords.TrstWord.{TrstWord}
use Rattle.svf_words.specs.declared.keywords.TrstWord.TheVariants as word
use Rattle.svf_words.specs.declared.keywords.Which.TheVariants.{Sdr, Sir}
use Rattle.svf_words.specs.Faults.{number}
use Rattle.svf_parse.specs.Judging.{Said}
use Rattle.svf_parse.specs.Judging as said
use Rattle.scan_vectors.specs.Fields.{Fields}
use Rattle.svf_programs.specs.Steps.{Step, Trst}
use Rattle.svf_programs.specs.Legal.{leaves_reset}
use Rattle.svf_settings.specs.LookBack.{Settings, settings, cycle_count, field_or, last_of_command, runs_in, ends_in}
use Rattle.svf_settings.specs.LookBack.{step}
use Rattle.svf_settings.specs.LookBack.{place}

-- S7: a scan of some bits has no TDI, and none is in force
abbrev pub misses_tdi : Settings → Said → Bool
misses_tdi st (said.scan which n tdi tdo mask smask) =
    not (n == 0) && not (is_some (field_or (λ f. f.tdi) n tdi (last_of_command which st)))
misses_tdi st _ = false

-- S8: a state to end in, to run in or to go to is not stable
abbrev pub is_unstable : Settings → State → Said → Bool
is_unstable st place (said.end_dr s) = not (is_stable s)
is_unstable st place (said.end_ir s) = not (is_stable s)
is_unstable st place (said.run_test run count min max end) =
    not (is_stable (runs_in run st.run_state) && is_stable (ends_in run end st.run_end))
is_unstable st place (said.states path) = not (is_stable (last_of place path))
is_unstable st place _ = false

-- S9: two states of a path of several are more than one cycle apart, the first from where the program rests
abbrev pub is_broken : State → Said → Bool
is_broken place (said.states []) = false
is_broken place (said.states (s ∷ [])) = false
is_broken place (said.states (s ∷ t ∷ path)) = is_some (first_gap place (s ∷ t ∷ path))
is_broken place _ = false

-- TRST is held active
abbrev pub is_held : Option TrstWord → Bool
is_held (Some word.On) = true
is_held _ = false

-- a step that enters a state other than RESET, or says that there is no TRST
abbrev pub needs_release : Option Step → Bool
needs_release None = false
needs_release (Some (Trst word.Absent)) = true
needs_release (Some step) = leaves_reset step

-- S10: that, while TRST is held
abbrev pub is_stopped : Settings → Said → Bool
is_stopped st s = is_held st.trst && needs_release (step st s)

-- S11: TRST is used where it was said to be absent
abbrev pub is_absent : Option TrstWord → Bool
is_absent (Some word.Absent) = true
is_absent _ = false

abbrev pub uses_absent : Settings → Said → Bool
uses_absent st (said.trst w) = is_absent st.trst && not (is_absent (Some w))
uses_absent st _ = false

-- S12: a scan of a register of no bits
abbrev pub is_empty : Said → Bool
is_empty (said.scan Sdr n tdi tdo mask smask) = n == 0
is_empty (said.scan Sir n tdi tdo mask smask) = n == 0
is_empty _ = false

-- S14: a run takes longer than its MAXIMUM
abbrev pub is_slower : ℕ → Option ℕ → Bool
is_slower time None = false
is_slower time (Some most) = nat_lt most time

abbrev pub is_too_slow : Settings → Said → Bool
is_too_slow st (said.run_test run count min max end) = is_slower (cycle_count st.period count min * st.period) max
is_too_slow st _ = false

-- S15: a whole vector or a run is too long
abbrev pub len_of : Option Fields → ℕ
len_of None = 0
len_of (Some f) = f.len

abbrev pub is_above : Limits → Settings → Said → Bool
is_above l st (said.scan Sdr n tdi tdo mask smask) = nat_lt l.vector_bits (len_of st.hdr + n + len_of st.tdr)
is_above l st (said.scan Sir n tdi tdo mask smask) = nat_lt l.vector_bits (len_of st.hir + n + len_of st.tir)
is_above l st (said.run_test run count min max end) = nat_lt l.cycles (cycle_count st.period count min)
is_above l st _ = false

abbrev pub is_too_large : Settings → Said → Bool
is_too_large st s = is_above limits st s

-- a statement has this refusal
abbrev pub Has : Settings → State → Said → Code → Type 0
Has st place s code.MissingTdi = misses_tdi st s ≡ true
Has st place s code.BadState = is_unstable st place s ≡ true
Has st place s code.BadPath = is_broken place s ≡ true
Has st place s code.TrstHeld = is_stopped st s ≡ true
Has st place s code.TrstAbsent = uses_absent st s ≡ true
Has st place s code.EmptyScan = is_empty s ≡ true
Has st place s code.TooSlow = is_too_slow st s ≡ true
Has st place s code.TooLarge = is_too_large st s ≡ true
Has st place s _ = ⊥

-- The refusal of a statement: the one with the lowest number among those that it has.
abbrev pub refusal_at_within : Limits → Settings → State → Said → Option Code
refusal_at_within l st place s =
    if misses_tdi st s then Some code.MissingTdi
    else if is_unstable st place s then Some code.BadState
    else if is_broken place s then Some code.BadPath
    else if is_stopped st s then Some code.TrstHeld
    else if uses_absent st s then Some code.TrstAbsent
    else if is_empty s then Some code.EmptyScan
    else if is_too_slow st s then Some code.TooSlow
    else if is_above l st s then Some code.TooLarge
    else None

-- The refusal of a statement behind those before it, the nearest first.
abbrev pub refusal_within : Limits → List Said → Said → Option Code
refusal_within l before s = refusal_at_within l (settings before) (place before) s

-- ---- within the limits that stand

abbrev pub refusal_at : Settings → State → Said → Option Code
refusal_at st place s = refusal_at_within limits st place s

abbrev pub refusal : List Said → Said → Option Code
refusal before s = refusal_within limits before s

-- a statement that is refused has that refusal, and none of its refusals has a lower number
abbrev pub LeastIsTold : Type 0
LeastIsTold = (st : Settings) (place : State) (s : Said) (c : Code) → refusal_at st place s ≡ Some c
    → Has st place s c × ((d : Code) → Has st place s d → number c ≤ number d)

-- a statement that is not refused has no refusal
abbrev pub AcceptedHasNone : Type 0
AcceptedHasNone = (st : Settings) (place : State) (s : Said) (d : Code) → refusal_at st place s ≡ None
    → ¬ Has st place s d
