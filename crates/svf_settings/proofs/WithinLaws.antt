-- What is accepted within some limits and lies within others is accepted within those too.
use Rattle.std.specs.Prelude.{⊤}
use Rattle.std.proofs.Common.{◌≡◌, ℕ, ◌+◌, ◌≤◌, Bool, true, false, nat_lt, if◌then◌else◌, List, [], ◌∷◌, ◌++◌, length, reverse, Option, Some, None, refl, sym, ap, subst, arith}
use Rattle.std.proofs.lemmas.Bool.Decides.{nat_tests}
use Rattle.std.specs.List.{AllByRecursion}
use Rattle.jt_limits.specs.declared.Limits.{Limits}
use Rattle.svf_words.specs.declared.fault.Code.{Code}
use Rattle.svf_words.specs.declared.fault.Code.TheVariants as code
use Rattle.svf_words.specs.declared.keywords.Which.TheVariants.{Hdr, Hir, Tdr, Tir, Sdr, Sir}
use Rattle.svf_parse.specs.Judging.{Said}
use Rattle.svf_parse.specs.Judging as said
use Rattle.svf_programs.specs.Steps.{Step, Numbered, Program}
use Rattle.svf_programs.specs.Sound.{StepWithin, StepsWithin}
use Rattle.svf_settings.specs.LookBack.{Settings, settings, place, step, in_force, cycle_count}
use Rattle.svf_settings.specs.Refusals.{misses_tdi, is_unstable, is_broken, is_stopped, uses_absent, is_empty, is_too_slow, is_above, len_of, refusal_within}
use Rattle.svf_settings.specs.Programs.{StandsIn, steps, step_made}
use Rattle.svf_settings.specs.Laws.{ResolvedIsWithin, WhatLiesWithinResolves}
use Rattle.svf_settings.proofs.SoundSteps.{length-whole}
use Rattle.svf_settings.proofs.FirstRefusals.{Within, stands_within, within_stands}

-- ---- the tests of a statement

abbrev tests : (b1 b2 b3 b4 b5 b6 b7 b8 : Bool) → Option Code
tests b1 b2 b3 b4 b5 b6 b7 b8 =
    if b1 then Some code.MissingTdi else if b2 then Some code.BadState else if b3 then Some code.BadPath else if b4 then Some code.TrstHeld
    else if b5 then Some code.TrstAbsent else if b6 then Some code.EmptyScan else if b7 then Some code.TooSlow else if b8 then Some code.TooLarge else None

-- the last one is not met; and where another is not met in its place, none is
last_test : (b1 b2 b3 b4 b5 b6 b7 b8 c8 : Bool) → tests b1 b2 b3 b4 b5 b6 b7 b8 ≡ None → (b8 ≡ false) × (c8 ≡ false → tests b1 b2 b3 b4 b5 b6 b7 c8 ≡ None)
last_test true b2 b3 b4 b5 b6 b7 b8 c8 e = absurd (cc)
last_test false true b3 b4 b5 b6 b7 b8 c8 e = absurd (cc)
last_test false false true b4 b5 b6 b7 b8 c8 e = absurd (cc)
last_test false false false true b5 b6 b7 b8 c8 e = absurd (cc)
last_test false false false false true b6 b7 b8 c8 e = absurd (cc)
last_test false false false false false true b7 b8 c8 e = absurd (cc)
last_test false false false false false false true b8 c8 e = absurd (cc)
last_test false false false false false false false true c8 e = absurd (cc)
last_test false false false false false false false false true e = (refl, λ h. absurd (cc))
last_test false false false false false false false false false e = (refl, λ h. refl)

by_last : (a b : Limits) (past : List Said) (s : Said) → refusal_within b past s ≡ None
    → (is_above b (settings past) s ≡ false) × (is_above a (settings past) s ≡ false → refusal_within a past s ≡ None)
by_last a b past s e =
    let st = settings past in
    last_test (misses_tdi st s) (is_unstable st (place past) s) (is_broken (place past) s) (is_stopped st s) (uses_absent st s) (is_empty s) (is_too_slow st s)
    (is_above b st s) (is_above a st s) e

-- ---- the step of a statement

abbrev StepIfMade : Limits → Option Step → Type 0
StepIfMade l None = ⊤
StepIfMade l (Some x) = StepWithin l x

few : (most n : ℕ) → nat_lt most n ≡ false → n ≤ most
few most n e = grind (arith, nat_tests)

not_above : (most n : ℕ) → n ≤ most → nat_lt most n ≡ false
not_above most n h = grind (arith, nat_tests)

step_within : (l : Limits) (st : Settings) (s : Said) → is_above l st s ≡ false → StepIfMade l (step st s)
step_within l st (said.end_dr t) e = tt
step_within l st (said.end_ir t) e = tt
step_within l st (said.frequency p) e = tt
step_within l st (said.scan Hdr n tdi tdo mask smask) e = tt
step_within l st (said.scan Hir n tdi tdo mask smask) e = tt
step_within l st (said.scan Tdr n tdi tdo mask smask) e = tt
step_within l st (said.scan Tir n tdi tdo mask smask) e = tt
step_within l st (said.scan Sdr n tdi tdo mask smask) e =
    omega (arith, length-whole st.hdr st.tdr (in_force n tdi tdo mask st.sdr), few l.vector_bits (len_of st.hdr + n + len_of st.tdr) e)
step_within l st (said.scan Sir n tdi tdo mask smask) e =
    omega (arith, length-whole st.hir st.tir (in_force n tdi tdo mask st.sir), few l.vector_bits (len_of st.hir + n + len_of st.tir) e)
step_within l st (said.run_test run count min max end) e = few l.cycles (cycle_count st.period count min) e
step_within l st (said.states []) e = tt
step_within l st (said.states (t ∷ [])) e = tt
step_within l st (said.states (t ∷ u ∷ path)) e = tt
step_within l st (said.trst w) e = tt

within_step : (l : Limits) (st : Settings) (s : Said) → StepIfMade l (step st s) → is_above l st s ≡ false
within_step l st (said.end_dr t) h = refl
within_step l st (said.end_ir t) h = refl
within_step l st (said.frequency p) h = refl
within_step l st (said.scan Hdr n tdi tdo mask smask) h = refl
within_step l st (said.scan Hir n tdi tdo mask smask) h = refl
within_step l st (said.scan Tdr n tdi tdo mask smask) h = refl
within_step l st (said.scan Tir n tdi tdo mask smask) h = refl
within_step l st (said.scan Sdr n tdi tdo mask smask) h =
    not_above l.vector_bits (len_of st.hdr + n + len_of st.tdr) (omega (arith, length-whole st.hdr st.tdr (in_force n tdi tdo mask st.sdr), h))
within_step l st (said.scan Sir n tdi tdo mask smask) h =
    not_above l.vector_bits (len_of st.hir + n + len_of st.tir) (omega (arith, length-whole st.hir st.tir (in_force n tdi tdo mask st.sir), h))
within_step l st (said.run_test run count min max end) h = not_above l.cycles (cycle_count st.period count min) h
within_step l st (said.states path) h = refl
within_step l st (said.trst w) h = refl

-- ---- all steps

both : {A : Type 0} (P : A → Type 0) (xs ys : List A) → AllByRecursion P xs → AllByRecursion P ys → AllByRecursion P (xs ++ ys)
both P [] ys one two = two
both P (x ∷ xs) ys one two = (one.0, both P xs ys one.1 two)

parts : {A : Type 0} (P : A → Type 0) (xs ys : List A) → AllByRecursion P (xs ++ ys) → AllByRecursion P xs × AllByRecursion P ys
parts P [] ys h = (tt, h)
parts P (x ∷ xs) ys h = let p = parts P xs ys h.1 in ((h.0, p.0), p.1)

made : (l : Limits) (n : ℕ) (o : Option Step) → StepIfMade l o → StepsWithin l (step_made n o)
made l n None h = tt
made l n (Some x) h = (h, tt)

made_back : (l : Limits) (n : ℕ) (o : Option Step) → StepsWithin l (step_made n o) → StepIfMade l o
made_back l n None h = tt
made_back l n (Some x) h = h.0

abbrev numbered_within : Limits → Numbered → Type 0
numbered_within l s = StepWithin l s.what

all_within : (l : Limits) (xs : List Said) → ((past : List Said) (s : Said) → Within xs past s → refusal_within l past s ≡ None) → StepsWithin l (steps xs)
all_within l [] h = tt
all_within l (x ∷ xs) h =
    let st = settings xs in
    let below = all_within l xs (λ past s w. h past s (x ∷ w.0, ap (λ (ys : List Said). x ∷ ys) w.1)) in
    let here = step_within l st x (by_last l l xs x (h xs x ([], refl))).0 in
    both (numbered_within l) (steps xs) (step_made (length xs + 1) (step st x)) below (made l (length xs + 1) (step st x) here)

step_inside : (l : Limits) (later past : List Said) (s : Said) → StepsWithin l (steps (later ++ s ∷ past)) → StepIfMade l (step (settings past) s)
step_inside l [] past s h =
    made_back l (length past + 1) (step (settings past) s)
    (parts (numbered_within l) (steps past) (step_made (length past + 1) (step (settings past) s)) h).1
step_inside l (x ∷ later) past s h =
    let xs = later ++ s ∷ past in
    step_inside l later past s (parts (numbered_within l) (steps xs) (step_made (length xs + 1) (step (settings xs) x)) h).0

pub resolved_within : ResolvedIsWithin
resolved_within l all p h =
    subst (λ (q : Program). StepsWithin l q.steps) (sym h.1)
    (all_within l (reverse all) (λ past s w. h.0 past s (within_stands all past s w)))

pub lies_within : WhatLiesWithinResolves
lies_within a b all p h within = (accepted, h.1)
  where
    all_steps : StepsWithin a (steps (reverse all))
    all_steps = subst (λ (q : Program). StepsWithin a q.steps) h.1 within

    accepted : (past : List Said) (s : Said) → StandsIn all past s → refusal_within a past s ≡ None
    accepted past s stands =
        let v = stands_within all past s stands in
        let inside : StepsWithin a (steps (v.0 ++ s ∷ past)) = subst (λ (xs : List Said). StepsWithin a (steps xs)) v.1 all_steps in
        (by_last a b past s (h.0 past s stands)).1 (within_step a (settings past) s (step_inside a v.0 past s inside))
