-- What is spelled within some limits and lies within others is spelled within those too.
use Rattle.std.proofs.Common.{◌≡◌, ℕ, ◌≤◌, List, [], ◌∷◌, Option, Some, None, Result, Ok, Err, refl, sym, ap, subst, ◌∙◌}
use Rattle.std.specs.List.{AllByRecursion}
use Rattle.jt_limits.specs.declared.Limits.{Limits}
use Rattle.svf_words.specs.declared.fault.Code.{Code}
use Rattle.svf_words.specs.declared.keywords.Clock.{Clock}
use Rattle.svf_words.specs.Words.{Word}
use Rattle.svf_parse.specs.Fields.{Fields}
use Rattle.svf_parse.specs.RunTests.{RunTest}
use Rattle.svf_parse.specs.Forms.{Form, end_dr_form, end_ir_form, frequency_form, scan_form, run_test_form, states_form, trst_form, port_form}
use Rattle.svf_words.specs.Numbers.{period_says_within, time_says_within, count_says_within, len_says_within, len_value}
use Rattle.svf_words.proofs.WithinLaws.{periods_limited, times_limited, counts_limited, lengths_limited}
use Rattle.svf_parse.specs.Judging.{◌>>=◌, Said, end_dr, end_ir, frequency, states, trst, checked, both, given, clock_fault, field_fault, scan_with, run_test_with, scan_says_within, cycles_say_within, run_test_says_within, form_says_within}
use Rattle.svf_parse.specs.Spelling.{EachSpellsWithin}
use Rattle.svf_parse.specs.Within.{IsAtMostIfGiven, SaidWithin, SpelledIsWithin, WhatLiesWithinIsSpelled}
use Rattle.svf_parse.proofs.ScanLaws.{checked_ok}

-- ---- what is given

given_bound : {A : Type 0} (says : A → Result ℕ Code) (most : ℕ) → ((x : A) (n : ℕ) → says x ≡ Ok n → n ≤ most) → (o : Option A) (p : Option ℕ) → given says o ≡ Ok p → IsAtMostIfGiven most p
given_bound says most h None None e = tt
given_bound says most h None (Some n) e = absurd cc
given_bound says most h (Some x) p e = by (says x) refl e
  where
    by : (r : Result ℕ Code) → says x ≡ r → (r >>= λ y. Ok (Some y)) ≡ Ok p → IsAtMostIfGiven most p
    by (Err c) is e = absurd cc
    by (Ok y) is e =
        let same : Some y ≡ p = cc in
        subst (IsAtMostIfGiven most) same (h x y is)

given_kept : {A : Type 0} (says other : A → Result ℕ Code) (most : ℕ) → ((x : A) (n : ℕ) → says x ≡ Ok n → n ≤ most → other x ≡ Ok n)
    → (o : Option A) (p : Option ℕ) → given says o ≡ Ok p → IsAtMostIfGiven most p → given other o ≡ Ok p
given_kept says other most h None p e few = e
given_kept says other most h (Some x) p e few = by (says x) refl e
  where
    by : (r : Result ℕ Code) → says x ≡ r → (r >>= λ y. Ok (Some y)) ≡ Ok p → given other (Some x) ≡ Ok p
    by (Err c) is e = absurd cc
    by (Ok y) is e =
        let same : Some y ≡ p = cc in
        let within : IsAtMostIfGiven most (Some y) = subst (IsAtMostIfGiven most) (sym same) few in
        ap (λ (r : Result ℕ Code). r >>= λ y. Ok (Some y)) (h x y is within) ∙ e

both_ok : {A B : Type 0} (r : Result A Code) (s : Result B Code) (p : A × B) → both r s ≡ Ok p → (r ≡ Ok p.0) × (s ≡ Ok p.1)
both_ok (Ok x) (Ok y) p e =
    let same : (x, y) ≡ p = cc in
    (ap (λ q. Ok q.0) same, ap (λ q. Ok q.1) same)
both_ok (Ok x) (Err d) p e = absurd cc
both_ok (Err c) (Ok y) p e = absurd cc
both_ok (Err c) (Err d) p e = absurd cc

then_ok : {A B : Type 0} (r : Result A Code) (f : A → B) (y : B) → (r >>= λ x. Ok (f x)) ≡ Ok y → (x : A) × (r ≡ Ok x) × (f x ≡ y)
then_ok (Err c) f y e = absurd cc
then_ok (Ok x) f y e = (x, refl, cc)

-- ---- numbers of statements

cycles_bound : (l : Limits) (c : Word × Clock) (n : ℕ) → cycles_say_within l c ≡ Ok n → n ≤ l.cycles
cycles_bound l c n e = counts_limited.bound l c.0 n (checked_ok (clock_fault c.1) (count_says_within l c.0) n e).1

cycles_kept : (a b : Limits) (c : Word × Clock) (n : ℕ) → cycles_say_within b c ≡ Ok n → n ≤ a.cycles → cycles_say_within a c ≡ Ok n
cycles_kept a b c n e few =
    let parts = checked_ok (clock_fault c.1) (count_says_within b c.0) n e in
    ap (λ (o : Option Code). checked o (count_says_within a c.0)) parts.0 ∙ counts_limited.kept a b c.0 n parts.1 few

-- the fields of a scan are fit, and this is its length
record Fit (l : Limits) (w : Word) (fs : Fields) (n : ℕ) : Type 0 where
  tdi : field_fault (len_value w) fs.tdi ≡ None
  tdo : field_fault (len_value w) fs.tdo ≡ None
  mask : field_fault (len_value w) fs.mask ≡ None
  smask : field_fault (len_value w) fs.smask ≡ None
  len : len_says_within l w ≡ Ok n

fit : (l : Limits) (w : Word) (fs : Fields) (n : ℕ) → scan_says_within l w fs ≡ Ok n → Fit l w fs n
unfolding scan_says_within
fit l w fs n e =
    let v = len_value w in
    let r3 = checked (field_fault v fs.smask) (len_says_within l w) in
    let r2 = checked (field_fault v fs.mask) r3 in
    let r1 = checked (field_fault v fs.tdo) r2 in
    let a = checked_ok (field_fault v fs.tdi) r1 n e in
    let b = checked_ok (field_fault v fs.tdo) r2 n a.1 in
    let c = checked_ok (field_fault v fs.mask) r3 n b.1 in
    let d = checked_ok (field_fault v fs.smask) (len_says_within l w) n c.1 in
    record { tdi = a.0; tdo = b.0; mask = c.0; smask = d.0; len = d.1 }

scan_again : (l : Limits) (w : Word) (fs : Fields) (n : ℕ) → Fit l w fs n → scan_says_within l w fs ≡ Ok n
unfolding scan_says_within
scan_again l w fs n f = rw (f.tdi, f.tdo, f.mask, f.smask) f.len

fit_elsewhere : (a b : Limits) (w : Word) (fs : Fields) (n : ℕ) → Fit b w fs n → n ≤ a.scan_bits → Fit a w fs n
fit_elsewhere a b w fs n f few = record { tdi = f.tdi; tdo = f.tdo; mask = f.mask; smask = f.smask; len = lengths_limited.kept a b w n f.len few }

-- ---- statements

abbrev Times : Type 0
Times = Option ℕ × (Option ℕ × Option ℕ)

-- what the numbers of a RUNTEST say
record Timed (l : Limits) (r : RunTest) (p : Times) : Type 0 where
  count : given (cycles_say_within l) r.count ≡ Ok p.0
  min : given (time_says_within l) r.min ≡ Ok p.1.0
  max : given (time_says_within l) r.max ≡ Ok p.1.1

timed : (l : Limits) (r : RunTest) (s : Said) → run_test_says_within l r ≡ Ok s → (p : Times) × Timed l r p × (run_test_with r p ≡ s)
unfolding run_test_says_within
timed l r s e =
    let times = both (given (time_says_within l) r.min) (given (time_says_within l) r.max) in
    let whole = both (given (cycles_say_within l) r.count) times in
    let t = then_ok whole (run_test_with r) s e in
    let one = both_ok (given (cycles_say_within l) r.count) times t.0 t.1 in
    let two = both_ok (given (time_says_within l) r.min) (given (time_says_within l) r.max) t.0.1 one.1 in
    (t.0, record { count = one.0; min = two.0; max = two.1 }, t.2)

timed_again : (l : Limits) (r : RunTest) (p : Times) → Timed l r p → run_test_says_within l r ≡ Ok (run_test_with r p)
unfolding run_test_says_within
timed_again l r p t = rw (t.count, t.min, t.max) refl

form_bound : (l : Limits) (f : Form) (s : Said) → form_says_within l f ≡ Ok s → SaidWithin l s
form_bound l (end_dr_form t) s e =
    let same : end_dr t ≡ s = cc in
    subst (SaidWithin l) same tt
form_bound l (end_ir_form t) s e =
    let same : end_ir t ≡ s = cc in
    subst (SaidWithin l) same tt
form_bound l (frequency_form n) s e =
    let t = then_ok (given (period_says_within l) n) frequency s e in
    subst (SaidWithin l) t.2 (given_bound (period_says_within l) l.picoseconds (periods_limited.bound l) n t.0 t.1)
form_bound l (scan_form which w fs) s e =
    let t = then_ok (scan_says_within l w fs) (scan_with which fs) s e in
    subst (SaidWithin l) t.2 (lengths_limited.bound l w t.0 (fit l w fs t.0 t.1).len)
form_bound l (run_test_form r) s e =
    let t = timed l r s e in
    subst (SaidWithin l) t.2 (
      given_bound (cycles_say_within l) l.cycles (cycles_bound l) r.count t.0.0 t.1.count,
      (
        given_bound (time_says_within l) l.picoseconds (times_limited.bound l) r.min t.0.1.0 t.1.min,
        given_bound (time_says_within l) l.picoseconds (times_limited.bound l) r.max t.0.1.1 t.1.max,
      ),
    )
form_bound l (states_form ss) s e =
    let same : states ss ≡ s = cc in
    subst (SaidWithin l) same tt
form_bound l (trst_form t) s e =
    let same : trst t ≡ s = cc in
    subst (SaidWithin l) same tt
form_bound l port_form s e = absurd cc

form_kept : (a b : Limits) (f : Form) (s : Said) → form_says_within b f ≡ Ok s → SaidWithin a s → form_says_within a f ≡ Ok s
form_kept a b (end_dr_form t) s e within = e
form_kept a b (end_ir_form t) s e within = e
form_kept a b (frequency_form n) s e within =
    let t = then_ok (given (period_says_within b) n) frequency s e in
    let few : IsAtMostIfGiven a.picoseconds t.0 = subst (SaidWithin a) (sym t.2) within in
    ap (λ (r : Result (Option ℕ) Code). r >>= λ p. Ok (frequency p))
    (given_kept (period_says_within b) (period_says_within a) a.picoseconds (periods_limited.kept a b) n t.0 t.1 few) ∙ ap (λ (x : Said). Ok x) t.2
form_kept a b (scan_form which w fs) s e within =
    let t = then_ok (scan_says_within b w fs) (scan_with which fs) s e in
    let few : t.0 ≤ a.scan_bits = subst (SaidWithin a) (sym t.2) within in
    ap (λ (r : Result ℕ Code). r >>= λ n. Ok (scan_with which fs n)) (scan_again a w fs t.0 (fit_elsewhere a b w fs t.0 (fit b w fs t.0 t.1) few))
    ∙ ap (λ (x : Said). Ok x) t.2
form_kept a b (run_test_form r) s e within =
    let t = timed b r s e in
    let few : SaidWithin a (run_test_with r t.0) = subst (SaidWithin a) (sym t.2) within in
    timed_again a r t.0 (record {
      count = given_kept (cycles_say_within b) (cycles_say_within a) a.cycles (cycles_kept a b) r.count t.0.0 t.1.count few.0;
      min = given_kept (time_says_within b) (time_says_within a) a.picoseconds (times_limited.kept a b) r.min t.0.1.0 t.1.min few.1.0;
      max = given_kept (time_says_within b) (time_says_within a) a.picoseconds (times_limited.kept a b) r.max t.0.1.1 t.1.max few.1.1;
    })
    ∙ ap (λ (x : Said). Ok x) t.2
form_kept a b (states_form ss) s e within = e
form_kept a b (trst_form t) s e within = e
form_kept a b port_form s e within = absurd cc

-- ---- texts

each_bound : (l : Limits) (gs : List (List Word)) (ss : List Said) → EachSpellsWithin l gs ss → AllByRecursion (SaidWithin l) ss
each_bound l [] [] h = tt
each_bound l [] (s ∷ ss) h = absurd h
each_bound l ([] ∷ gs) ss h = each_bound l gs ss h
each_bound l ((w ∷ ws) ∷ gs) [] h = tt
each_bound l ((w ∷ ws) ∷ gs) (s ∷ ss) h = (form_bound l h.0.0 s h.0.2, each_bound l gs ss h.1)

each_kept : (a b : Limits) (gs : List (List Word)) (ss : List Said) → EachSpellsWithin b gs ss → AllByRecursion (SaidWithin a) ss → EachSpellsWithin a gs ss
each_kept a b [] [] h within = tt
each_kept a b [] (s ∷ ss) h within = absurd h
each_kept a b ([] ∷ gs) ss h within = each_kept a b gs ss h within
each_kept a b ((w ∷ ws) ∷ gs) [] h within = absurd h
each_kept a b ((w ∷ ws) ∷ gs) (s ∷ ss) h within =
    ((h.0.0, h.0.1, form_kept a b h.0.0 s h.0.2 within.0), each_kept a b gs ss h.1 within.1)

pub spelled_within : SpelledIsWithin
spelled_within l text ss h = record { bytes = h.2; count = h.3; each = each_bound l h.1 ss h.6 }

pub lies_within : WhatLiesWithinIsSpelled
lies_within a b text ss h within = (h.0, h.1, within.bytes, within.count, h.4, h.5, each_kept a b h.1 ss h.6 within.each)
