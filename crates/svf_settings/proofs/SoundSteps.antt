-- Every accepted program is legal, and within the limits.
use Rattle.std.specs.Prelude.{⊤}
use Rattle.std.proofs.Common.{◌≡◌, ℕ, zero, suc, ◌+◌, ◌==◌, ◌<◌, ◌≤◌, Bool, true, false, not, ◌&&◌, List, [], ◌∷◌, ◌++◌, length, refl, sym, ap, ◌∙◌, Option, Some, None, arith, if◌then◌else◌, subst}
use Rattle.std.specs.Prelude.{nat_lt, is_some, unwrap_or}
use Rattle.std.proofs.lemmas.List.{append-nil}
use Rattle.std.proofs.lemmas.Bool.Decides.{nat_tests}
use Rattle.jt_tap.specs.declared.Column.{Column}
use Rattle.jt_tap.specs.declared.Column.TheVariants.{Dr, Ir}
use Rattle.jt_tap.specs.declared.State.{State}
use Rattle.jt_tap.specs.declared.State.TheVariants.{Reset}
use Rattle.jt_tap.specs.Controller.{is_stable}
use Rattle.jt_tap.proofs.StatedPaths.{walks}
use Rattle.svf_words.specs.declared.fault.Code.{Code}
use Rattle.svf_words.specs.declared.fault.Code.TheVariants as code
use Rattle.svf_words.specs.declared.fault.SvfFault.{SvfFault}
use Rattle.svf_words.specs.declared.keywords.TrstWord.TheVariants as word
use Rattle.svf_words.specs.declared.keywords.Which.TheVariants.{Hdr, Hir, Tdr, Tir, Sdr, Sir}
use Rattle.svf_parse.specs.Judging.{Said}
use Rattle.svf_parse.specs.Judging as said
use Rattle.scan_vectors.specs.Fields.{Fields, no_fields, vector_of}
use Rattle.scan_vectors.proofs.Places.{length-vector}
use Rattle.svf_programs.specs.Steps.{Step, Scan, Go, Path, Run, Trst, Numbered, place_after, line_after}
use Rattle.svf_programs.specs.Legal.{IsFormed, IsLegalAt, AllLegalFrom, IsLegalProgram}
use Rattle.svf_settings.specs.LookBack.{Settings, settings, step, place, in_force, cycle_count, runs_in, ends_in, trst_word, dr_end, ir_end}
use Rattle.svf_programs.specs.Sound.{vector_limit}
use Rattle.svf_settings.specs.Refusals.{refusal_at, refusal, misses_tdi, is_unstable, is_broken, is_stopped, uses_absent, is_empty, is_too_slow, is_too_large, is_held, needs_release, len_of}
use Rattle.svf_settings.specs.Programs.{steps, first_refusal, or_refused}
use Rattle.svf_programs.specs.Sound.{IsWithin, AllWithin, IsSound}

-- ---- no test holds of a statement that is not refused

record Clear (st : Settings) (at : State) (s : Said) : Type 0 where
  stable : is_unstable st at s ≡ false
  joined : is_broken at s ≡ false
  free : is_stopped st s ≡ false
  some : is_empty s ≡ false
  small : is_too_large st s ≡ false

abbrev tests : (b1 b2 b3 b4 b5 b6 b7 b8 : Bool) → Option Code
tests b1 b2 b3 b4 b5 b6 b7 b8 =
    if b1 then Some code.MissingTdi else if b2 then Some code.BadState else if b3 then Some code.BadPath else if b4 then Some code.TrstHeld
    else if b5 then Some code.TrstAbsent else if b6 then Some code.EmptyScan else if b7 then Some code.TooSlow else if b8 then Some code.TooLarge else None

abbrev Five : (b2 b3 b4 b6 b8 : Bool) → Type 0
Five b2 b3 b4 b6 b8 = (b2 ≡ false) × (b3 ≡ false) × (b4 ≡ false) × (b6 ≡ false) × (b8 ≡ false)

none_of : (b1 b2 b3 b4 b5 b6 b7 b8 : Bool) → tests b1 b2 b3 b4 b5 b6 b7 b8 ≡ None → Five b2 b3 b4 b6 b8
none_of true b2 b3 b4 b5 b6 b7 b8 e = absurd (cc)
none_of false true b3 b4 b5 b6 b7 b8 e = absurd (cc)
none_of false false true b4 b5 b6 b7 b8 e = absurd (cc)
none_of false false false true b5 b6 b7 b8 e = absurd (cc)
none_of false false false false true b6 b7 b8 e = absurd (cc)
none_of false false false false false true b7 b8 e = absurd (cc)
none_of false false false false false false true b8 e = absurd (cc)
none_of false false false false false false false true e = absurd (cc)
none_of false false false false false false false false e = (refl, refl, refl, refl, refl)

clear : (st : Settings) (at : State) (s : Said) → refusal_at st at s ≡ None → Clear st at s
clear st at s e =
    let n = none_of (misses_tdi st s) (is_unstable st at s) (is_broken at s) (is_stopped st s) (uses_absent st s) (is_empty s) (is_too_slow st s) (is_too_large st s) e in
    record { stable = n.0; joined = n.1; free = n.2; some = n.3; small = n.4 }

-- ---- tests

not_false : (b : Bool) → not b ≡ false → b ≡ true
not_false true e = refl
not_false false e = absurd (cc)

both_true : (a b : Bool) → not (a && b) ≡ false → (a ≡ true) × (b ≡ true)
both_true true true e = (refl, refl)
both_true true false e = absurd (cc)
both_true false b e = absurd (cc)

-- what is stopped, once TRST is held
freed : (h n : Bool) → h && n ≡ false → h ≡ true → n ≡ false
freed true n e f = e
freed false n e f = absurd (cc)

released : (h : Bool) → h && true ≡ false → h ≡ false
released true e = absurd (cc)
released false e = refl

not_some : {A : Type 0} (o : Option A) → is_some o ≡ false → o ≡ None
not_some None e = refl
not_some (Some x) e = absurd (cc)

positive : (n : ℕ) → (n == 0) ≡ false → 0 < n
positive zero e = absurd (cc)
positive (suc n) e = omega arith

within : (m n : ℕ) → nat_lt m n ≡ false → n ≤ m
within m n e = grind (arith, nat_tests)

-- ---- a step

-- a step that leaves RESET or says that there is no TRST is not made while TRST is held
legal : (at : State) (line : Bool) (x : Step) → IsFormed at x → line && needs_release (Some x) ≡ false → IsLegalAt at line x
legal at line (Scan c v end) f e = record { formed = f; stays = λ h _. freed line _ e h; not_absent = λ h q. cc }
legal at line (Go s) f e = record { formed = f; stays = λ h _. freed line _ e h; not_absent = λ h q. cc }
legal at line (Path path) f e = record { formed = f; stays = λ h _. freed line _ e h; not_absent = λ h q. cc }
legal at line (Run run n end) f e = record { formed = f; stays = λ h _. freed line _ e h; not_absent = λ h q. cc }
legal at line (Trst word.On) f e = record { formed = f; stays = λ h _. refl; not_absent = λ h q. cc }
legal at line (Trst word.Off) f e = record { formed = f; stays = λ h _. refl; not_absent = λ h q. cc }
legal at line (Trst word.Z) f e = record { formed = f; stays = λ h _. refl; not_absent = λ h q. cc }
legal at line (Trst word.Absent) f e = record { formed = f; stays = λ h _. refl; not_absent = λ h q. let no : line ≡ false = released line e in cc }

len_or_none : (o : Option Fields) → (unwrap_or o no_fields).len ≡ len_of o
len_or_none None = refl
len_or_none (Some f) = refl

pub length-whole : (h t : Option Fields) (b : Fields)
    → length (vector_of (unwrap_or h no_fields) b (unwrap_or t no_fields)) ≡ len_of h + b.len + len_of t
length-whole h t b =
    length-vector (unwrap_or h no_fields) b (unwrap_or t no_fields)
    ∙ ap (λ n. n + b.len + (unwrap_or t no_fields).len) (len_or_none h) ∙ ap (λ n. len_of h + b.len + n) (len_or_none t)

record IsGood (at : State) (line : Bool) (x : Step) : Type 0 where
  legal : IsLegalAt at line x
  within : IsWithin x

scan_good : (at : State) (line : Bool) (column : Column) (h t : Option Fields) (b : Fields) (end : State) → is_stable end ≡ true → 0 < b.len
    → len_of h + b.len + len_of t ≤ vector_limit → line && true ≡ false
    → IsGood at line (Scan column (vector_of (unwrap_or h no_fields) b (unwrap_or t no_fields)) end)
scan_good at line column h t b end s p l e =
    let n = length-whole h t b in
    record { legal = legal at line (Scan column (vector_of (unwrap_or h no_fields) b (unwrap_or t no_fields)) end) (omega arith, s) e; within = omega arith }

abbrev GoodIf : State → Bool → Option Step → Type 0
GoodIf at line None = ⊤
GoodIf at line (Some x) = IsGood at line x

good : (st : Settings) (at : State) (s : Said) → is_stable st.dr_end ≡ true → is_stable st.ir_end ≡ true → Clear st at s
    → GoodIf at (is_held st.trst) (step st s)
good st at (said.end_dr s) d i c = tt
good st at (said.end_ir s) d i c = tt
good st at (said.frequency p) d i c = tt
good st at (said.scan Hdr n tdi tdo mask smask) d i c = tt
good st at (said.scan Hir n tdi tdo mask smask) d i c = tt
good st at (said.scan Tdr n tdi tdo mask smask) d i c = tt
good st at (said.scan Tir n tdi tdo mask smask) d i c = tt
good st at (said.scan Sdr n tdi tdo mask smask) d i c =
    scan_good at (is_held st.trst) Dr st.hdr st.tdr (in_force n tdi tdo mask st.sdr) st.dr_end d (positive n c.some) (within _ _ c.small) c.free
good st at (said.scan Sir n tdi tdo mask smask) d i c =
    scan_good at (is_held st.trst) Ir st.hir st.tir (in_force n tdi tdo mask st.sir) st.ir_end i (positive n c.some) (within _ _ c.small) c.free
good st at (said.run_test run count min max end) d i c =
    let x : Step = Run (runs_in run st.run_state) (cycle_count st.period count min) (ends_in run end st.run_end) in
    record { legal = legal at (is_held st.trst) x (both_true _ _ c.stable) c.free; within = within _ _ c.small }
good st at (said.states []) d i c = tt
good st at (said.states (s ∷ [])) d i c = record { legal = legal at (is_held st.trst) (Go s) (not_false _ c.stable) c.free; within = tt }
good st at (said.states (s ∷ t ∷ path)) d i c =
    let w = walks at (s ∷ t ∷ path) (not_some _ c.joined) in
    record { legal = legal at (is_held st.trst) (Path (s ∷ t ∷ path)) (w, not_false _ c.stable) c.free; within = tt }
good st at (said.trst w) d i c = record { legal = legal at (is_held st.trst) (Trst w) tt c.free; within = tt }

-- ---- all steps

abbrev place_behind : State → List Numbered → State
place_behind at [] = at
place_behind at (s ∷ ss) = place_behind (place_after at s.what) ss

abbrev line_behind : Bool → List Numbered → Bool
line_behind line [] = line
line_behind line (s ∷ ss) = line_behind (line_after line s.what) ss

legal_more : (at : State) (line : Bool) (ss : List Numbered) (x : Numbered) → AllLegalFrom at line ss
    → IsLegalAt (place_behind at ss) (line_behind line ss) x.what → AllLegalFrom at line (ss ++ x ∷ [])
legal_more at line [] x l g = (g, tt)
legal_more at line (s ∷ ss) x l g = (l.0, legal_more (place_after at s.what) (line_after line s.what) ss x l.1 g)

place_more : (at : State) (ss : List Numbered) (x : Numbered) → place_behind at (ss ++ x ∷ []) ≡ place_after (place_behind at ss) x.what
place_more at [] x = refl
place_more at (s ∷ ss) x = place_more (place_after at s.what) ss x

line_more : (line : Bool) (ss : List Numbered) (x : Numbered) → line_behind line (ss ++ x ∷ []) ≡ line_after (line_behind line ss) x.what
line_more line [] x = refl
line_more line (s ∷ ss) x = line_more (line_after line s.what) ss x

within_more : (ss : List Numbered) (x : Numbered) → AllWithin ss → IsWithin x.what → AllWithin (ss ++ x ∷ [])
within_more [] x l g = (g, tt)
within_more (s ∷ ss) x l g = (l.0, within_more ss x l.1 g)

-- what holds behind accepted statements
record Behind (past : List Said) (ss : List Numbered) (at : State) (held : Bool) : Type 0 where
  legal : IsLegalProgram ss
  within : AllWithin ss
  place : place_behind Reset ss ≡ at
  line : line_behind false ss ≡ held
  dr : is_stable (dr_end past) ≡ true
  ir : is_stable (ir_end past) ≡ true

behind_step : (past : List Said) (ss : List Numbered) (at : State) (line : Bool) (n : ℕ) (x : Step) (there : State) (held : Bool) (later : List Said)
    → Behind past ss at line → IsGood at line x → place_after at x ≡ there → line_after line x ≡ held
    → is_stable (dr_end later) ≡ true → is_stable (ir_end later) ≡ true
    → Behind later (ss ++ record { number = n; what = x } ∷ []) there held
behind_step past ss at line n x there held later b g p l d i =
    let y : Numbered = record { number = n; what = x } in
    let moved : IsLegalAt (place_behind Reset ss) (line_behind false ss) x = rw (b.place, b.line) g.legal in
    record {
      legal = legal_more Reset false ss y b.legal moved;
      within = within_more ss y b.within g.within;
      place = place_more Reset ss y ∙ ap (λ q. place_after q x) b.place ∙ p;
      line = line_more false ss y ∙ ap (λ h. line_after h x) b.line ∙ l;
      dr = d;
      ir = i;
    }

behind_none : (past later : List Said) (ss : List Numbered) (at : State) (line : Bool) → Behind past ss at line
    → is_stable (dr_end later) ≡ true → is_stable (ir_end later) ≡ true → Behind later (ss ++ []) at line
behind_none past later ss at line b d i =
    subst (λ (xs : List Numbered). Behind later xs at line) (sym (append-nil ss))
    (record { legal = b.legal; within = b.within; place = b.place; line = b.line; dr = d; ir = i })

abbrev Here : List Said → Type 0
Here past = Behind past (steps past) (place past) (is_held (trst_word past))

-- one statement more
more : (past : List Said) (s : Said) → Here past → Clear (settings past) (place past) s → Here (s ∷ past)
more past (said.end_dr s) b c = behind_none past _ (steps past) _ _ b (not_false _ c.stable) b.ir
more past (said.end_ir s) b c = behind_none past _ (steps past) _ _ b b.dr (not_false _ c.stable)
more past (said.frequency p) b c = behind_none past _ (steps past) _ _ b b.dr b.ir
more past (said.scan Hdr n tdi tdo mask smask) b c = behind_none past _ (steps past) _ _ b b.dr b.ir
more past (said.scan Hir n tdi tdo mask smask) b c = behind_none past _ (steps past) _ _ b b.dr b.ir
more past (said.scan Tdr n tdi tdo mask smask) b c = behind_none past _ (steps past) _ _ b b.dr b.ir
more past (said.scan Tir n tdi tdo mask smask) b c = behind_none past _ (steps past) _ _ b b.dr b.ir
more past (said.scan Sdr n tdi tdo mask smask) b c =
    behind_step past (steps past) (place past) _ (length past + 1) _ _ _ (said.scan Sdr n tdi tdo mask smask ∷ past) b
    (good (settings past) (place past) (said.scan Sdr n tdi tdo mask smask) b.dr b.ir c) refl refl b.dr b.ir
more past (said.scan Sir n tdi tdo mask smask) b c =
    behind_step past (steps past) (place past) _ (length past + 1) _ _ _ (said.scan Sir n tdi tdo mask smask ∷ past) b
    (good (settings past) (place past) (said.scan Sir n tdi tdo mask smask) b.dr b.ir c) refl refl b.dr b.ir
more past (said.run_test run count min max end) b c =
    behind_step past (steps past) (place past) _ (length past + 1) _ _ _ (said.run_test run count min max end ∷ past) b
    (good (settings past) (place past) (said.run_test run count min max end) b.dr b.ir c) refl refl b.dr b.ir
more past (said.states []) b c = behind_none past _ (steps past) _ _ b b.dr b.ir
more past (said.states (s ∷ [])) b c =
    behind_step past (steps past) (place past) _ (length past + 1) _ _ _ (said.states (s ∷ []) ∷ past) b
    (good (settings past) (place past) (said.states (s ∷ [])) b.dr b.ir c) refl refl b.dr b.ir
more past (said.states (s ∷ t ∷ path)) b c =
    behind_step past (steps past) (place past) _ (length past + 1) _ _ _ (said.states (s ∷ t ∷ path) ∷ past) b
    (good (settings past) (place past) (said.states (s ∷ t ∷ path)) b.dr b.ir c) refl refl b.dr b.ir
more past (said.trst word.On) b c =
    behind_step past (steps past) (place past) _ (length past + 1) _ _ _ (said.trst word.On ∷ past) b
    (good (settings past) (place past) (said.trst word.On) b.dr b.ir c) refl refl b.dr b.ir
more past (said.trst word.Off) b c =
    behind_step past (steps past) (place past) _ (length past + 1) _ _ _ (said.trst word.Off ∷ past) b
    (good (settings past) (place past) (said.trst word.Off) b.dr b.ir c) refl refl b.dr b.ir
more past (said.trst word.Z) b c =
    behind_step past (steps past) (place past) _ (length past + 1) _ _ _ (said.trst word.Z ∷ past) b
    (good (settings past) (place past) (said.trst word.Z) b.dr b.ir c) refl refl b.dr b.ir
more past (said.trst word.Absent) b c =
    behind_step past (steps past) (place past) _ (length past + 1) _ _ _ (said.trst word.Absent ∷ past) b
    (good (settings past) (place past) (said.trst word.Absent) b.dr b.ir c) refl (released _ c.free) b.dr b.ir

parted : (n : ℕ) (c : Option Code) (f : Option SvfFault) → or_refused n c f ≡ None → (c ≡ None) × (f ≡ None)
parted n None None e = (refl, refl)
parted n (Some c) None e = absurd (cc)
parted n c (Some f) e = absurd (cc)

here : (past : List Said) → first_refusal past ≡ None → Here past
here [] e = record { legal = tt; within = tt; place = refl; line = refl; dr = refl; ir = refl }
here (s ∷ past) e =
    let p = parted (length past + 1) (refusal past s) (first_refusal past) e in
    more past s (here past p.1) (clear (settings past) (place past) s p.0)

pub sound_steps : (past : List Said) → first_refusal past ≡ None → IsSound (steps past)
sound_steps past e = let h = here past e in record { legal = h.legal; within = h.within }
