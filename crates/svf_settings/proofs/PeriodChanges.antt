-- The changes of period that a program keeps.
use Rattle.std.proofs.Common.{◌≡◌, ◌<◌, ◌≤◌, ◌+◌, ◌-◌, ◌==◌, ℕ, suc, Bool, true, false, if◌then◌else◌, nat_lt, List, [], ◌∷◌, ◌++◌, length, reverse, take, refl, sym, ap, ◌∙◌, arith, ⊎_elim, Option, Some, None, length-append}
use Rattle.std.specs.Prelude.{⊤}
use Rattle.std.specs.Prelude.{option_map, slice_get, unwrap_or}
use Rattle.std.proofs.lemmas.Bool.{cases_lt}
use Rattle.std.proofs.lemmas.Bool.Decides.{nat_tests}
use Rattle.std.proofs.lemmas.List.{append-nil, length-reverse, reverse-append, reverse-reverse, take-append-le, take_all}
use Rattle.svf_parse.specs.Judging.{Said}
use Rattle.svf_parse.specs.Judging as said
use Rattle.svf_programs.specs.Held.{step_in}
use Rattle.svf_programs.specs.Periods.{default_period, period_from, period_in}
use Rattle.svf_programs.specs.Steps.{Step}
use Rattle.svf_programs.specs.declared.kept.Kept.{Kept}
use Rattle.svf_programs.specs.declared.periods.PeriodChange.{PeriodChange}
use Rattle.svf_settings.specs.LookBack.{period, settings, step}
use Rattle.svf_settings.specs.Periods.{ChangesAreFew, ChangesTellThePeriod, KeepsPeriods, change_made, changes, last_period, period_at, with_change}

-- ---- the last change

pub ends_last : (now : ℕ) (cs : List PeriodChange)
    → last_period now cs ≡ unwrap_or (option_map (λ (c : PeriodChange). c.period) (slice_get cs (length cs - 1))) now
ends_last now [] = refl
ends_last now (c ∷ []) = refl
ends_last now (c ∷ d ∷ cs) =
    let one : length (d ∷ cs) - 1 ≡ length cs = omega arith in
    let two : length (c ∷ d ∷ cs) - 1 ≡ suc (length cs) = omega arith in
    ends_last c.period (d ∷ cs) ∙ ap (λ i. unwrap_or (option_map (λ (x : PeriodChange). x.period) (slice_get (d ∷ cs) i)) c.period) one
    ∙ within c.period now d cs
    ∙ ap (λ i. unwrap_or (option_map (λ (x : PeriodChange). x.period) (slice_get (c ∷ d ∷ cs) i)) now) (sym two)
  where
    within : (a b : ℕ) (d : PeriodChange) (cs : List PeriodChange)
        → unwrap_or (option_map (λ (x : PeriodChange). x.period) (slice_get (d ∷ cs) (length cs))) a
        ≡ unwrap_or (option_map (λ (x : PeriodChange). x.period) (slice_get (d ∷ cs) (length cs))) b
    within a b d [] = refl
    within a b d (e ∷ cs) = within a b e cs

last_append : (now : ℕ) (xs ys : List PeriodChange) → last_period now (xs ++ ys) ≡ last_period (last_period now xs) ys
last_append now [] ys = refl
last_append now (x ∷ xs) ys = last_append x.period xs ys

same : (a b : ℕ) → (a == b) ≡ true → a ≡ b
same a b e = grind (arith, nat_tests)

alike : (a : ℕ) → (a == a) ≡ true
alike a = grind (arith, nat_tests)

made_if : (n a b : ℕ) (is : Bool) → (a == b) ≡ is → last_period a (if is then [] else record { number = n; period = b } ∷ []) ≡ b
made_if n a b true e = same a b e
made_if n a b false e = refl

last_made : (n a b : ℕ) → last_period a (change_made n a b) ≡ b
last_made n a b = made_if n a b (a == b) refl

pub last_behind : (past : List Said) → last_period default_period (changes past) ≡ period past
last_behind [] = refl
last_behind (s ∷ past) =
    let made = change_made (length past + 1) (period past) (period (s ∷ past)) in
    last_append default_period (changes past) made
    ∙ ap (λ (now : ℕ). last_period now made) (last_behind past)
    ∙ last_made (length past + 1) (period past) (period (s ∷ past))

-- ---- the changes before a statement

abbrev AllBelow : ℕ → List PeriodChange → Type 0
AllBelow n [] = ⊤
AllBelow n (c ∷ cs) = (c.number < n) × AllBelow n cs

less : (a b : ℕ) → a < b → nat_lt a b ≡ true
less a b h = grind (arith, nat_tests)

not_less : (a b : ℕ) → b ≤ a → nat_lt a b ≡ false
not_less a b h = grind (arith, nat_tests)

all_passed : (now : ℕ) (cs : List PeriodChange) (n : ℕ) → AllBelow n cs → period_from now cs n ≡ last_period now cs
all_passed now [] n below = refl
all_passed now (c ∷ cs) n below =
    ap (λ (b : Bool). if b then period_from c.period cs n else now) (less c.number n below.0) ∙ all_passed c.period cs n below.1

below_append : (n : ℕ) (xs ys : List PeriodChange) → AllBelow n xs → AllBelow n ys → AllBelow n (xs ++ ys)
below_append n [] ys one other = other
below_append n (x ∷ xs) ys one other = (one.0, below_append n xs ys one.1 other)

below_made : (n number : ℕ) (is : Bool) (b : ℕ) → number < n → AllBelow n (if is then [] else record { number = number; period = b } ∷ [])
below_made n number true b h = tt
below_made n number false b h = (h, tt)

below : (past : List Said) (n : ℕ) → length past < n → AllBelow n (changes past)
below [] n h = tt
below (s ∷ past) n h =
    below_append n (changes past) (change_made (length past + 1) (period past) (period (s ∷ past))) (below past n (omega (arith, h)))
    (below_made n (length past + 1) (period past == period (s ∷ past)) (period (s ∷ past)) (omega (arith, h)))

over_made : (now number b n : ℕ) (is : Bool) → n ≤ number → period_from now (if is then [] else record { number = number; period = b } ∷ []) n ≡ now
over_made now number b n true h = refl
over_made now number b n false h = ap (λ (l : Bool). if l then b else now) (not_less number n h)

over : (now : ℕ) (cs : List PeriodChange) (number a b n : ℕ) → n ≤ number → period_from now (cs ++ change_made number a b) n ≡ period_from now cs n
over now [] number a b n h = over_made now number b n (a == b) h
over now (c ∷ cs) number a b n h = ap (λ (p : ℕ). if nat_lt c.number n then p else now) (over c.period cs number a b n h)

-- ---- the period at a statement

reversed : (s : Said) (past : List Said) → reverse (s ∷ past) ≡ reverse past ++ s ∷ []
reversed s past = reverse-append (s ∷ []) past

pub tells : (past : List Said) (n : ℕ) → period_in (changes past) n ≡ period_at (reverse past) n
tells [] n = ap (λ (l : List Said). period (reverse l)) (sym (take_all (n - 1) [] (omega arith)))
tells (s ∷ past) n =
    ⊎_elim
    (λ (later : length past + 1 < n).
    all_passed default_period (changes (s ∷ past)) n (below (s ∷ past) n (omega (arith, later)))
    ∙ last_behind (s ∷ past)
    ∙ ap period (sym (reverse-reverse (s ∷ past)))
    ∙ ap (λ (l : List Said). period (reverse l)) (sym (take_all (n - 1) (reverse (s ∷ past)) (omega (arith, later, length-reverse (s ∷ past))))))
    (λ (earlier : n ≤ length past + 1).
    over default_period (changes past) (length past + 1) (period past) (period (s ∷ past)) n earlier
    ∙ tells past n
    ∙ ap (λ (l : List Said). period (reverse l)) (sym (take-append-le (n - 1) (reverse past) (s ∷ []) (omega (arith, earlier, length-reverse past))))
    ∙ ap (λ (l : List Said). period (reverse (take (n - 1) l))) (sym (reversed s past)))
    (cases_lt (length past + 1) n)

pub changes_tell : ChangesTellThePeriod
changes_tell all n = tells (reverse all) n ∙ ap (λ (l : List Said). period_at l n) (reverse-reverse all)

pub keeps_periods : (all : List Said) (kept : List PeriodChange) → kept ≡ changes (reverse all) → KeepsPeriods all kept
keeps_periods all kept are = record {
  changes_are = are;
  at = λ n. ap (λ (cs : List PeriodChange). period_in cs n) are ∙ changes_tell all n;
}

one_made : (n : ℕ) (is : Bool) (b : ℕ) → length {A = PeriodChange} (if is then [] else record { number = n; period = b } ∷ []) ≤ 1
one_made n true b = omega arith
one_made n false b = omega arith

few_made : (past : List Said) → length (changes past) ≤ length past
few_made [] = omega arith
few_made (s ∷ past) =
    let made = change_made (length past + 1) (period past) (period (s ∷ past)) in
    omega (arith, few_made past, one_made (length past + 1) (period past == period (s ∷ past)) (period (s ∷ past)), length-append (changes past) made)

pub changes_few : ChangesAreFew
changes_few all = omega (arith, few_made (reverse all), length-reverse all)

-- ---- one statement more

-- a statement that makes a step leaves the period
steady : (past : List Said) (s : Said) (made : Step) → Some made ≡ step (settings past) s → period (s ∷ past) ≡ period past
steady past (said.frequency p) made e = absurd (cc)
steady past (said.end_dr t) made e = refl
steady past (said.end_ir t) made e = refl
steady past (said.scan which n tdi tdo mask smask) made e = refl
steady past (said.run_test run count min max end) made e = refl
steady past (said.states path) made e = refl
steady past (said.trst w) made e = refl

none_made : (n a : ℕ) → change_made n a a ≡ []
none_made n a = ap (λ (is : Bool). if is then [] else record { number = n; period = a } ∷ []) (alike a)

pub changes_more : (all past : List Said) (s : Said) (made : Option Kept) (n behind : ℕ) (kept : List PeriodChange) → kept ≡ changes past
    → option_map (step_in all) made ≡ step (settings past) s → n ≡ length past + 1 → behind ≡ period (s ∷ past)
    → with_change made n behind kept ≡ changes (s ∷ past)
changes_more all past s None n behind kept are st l is =
    ap (λ (cs : List PeriodChange). cs ++ change_made n (last_period default_period cs) behind) are
    ∙ ap (λ (now : ℕ). changes past ++ change_made n now behind) (last_behind past)
    ∙ ap (λ (m : ℕ). changes past ++ change_made m (period past) behind) l
    ∙ ap (λ (p : ℕ). changes past ++ change_made (length past + 1) (period past) p) is
changes_more all past s (Some what) n behind kept are st l is =
    are ∙ sym (append-nil (changes past))
    ∙ ap (λ (cs : List PeriodChange). changes past ++ cs) (sym (none_made (length past + 1) (period past)))
    ∙ ap (λ (p : ℕ). changes past ++ change_made (length past + 1) (period past) p) (sym (steady past s (step_in all what) st))
