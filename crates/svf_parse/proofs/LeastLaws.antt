-- Of the refusals that a statement has the one with the lowest number is told.
use Rattle.std.proofs.Common.{◌≡◌, ℕ, ◌≤◌, Bool, true, false, cond, ◌⊎◌, inl, inr, nat_le, List, Option, Some, None, Result, Ok, Err, refl, sym, ap, subst, ◌∙◌, arith}
use Rattle.std.proofs.lemmas.Bool.Decides.{nat_tests}
use Rattle.svf_words.specs.declared.fault.Code.{Code}
use Rattle.svf_words.specs.declared.fault.Code.TheVariants as code
use Rattle.svf_words.specs.declared.keywords.Clock.{Clock}
use Rattle.svf_words.specs.declared.keywords.Clock.TheVariants as clock
use Rattle.svf_words.specs.Words.{Word}
use Rattle.svf_words.specs.Faults.{number, lower_code}
use Rattle.svf_parse.specs.Fields.{Fields}
use Rattle.svf_parse.specs.RunTests.{RunTest}
use Rattle.svf_words.specs.Numbers.{period_says, time_says, count_says, len_says, len_value}
use Rattle.svf_parse.specs.Forms.{Form, end_dr_form, end_ir_form, frequency_form, scan_form, run_test_form, states_form, trst_form, port_form}
use Rattle.svf_parse.specs.Judging.{◌>>=◌, scan_says_within, run_test_says_within, checked, both, given, is_misspelt, is_wider, field_fault, clock_fault, cycles_say, scan_says, scan_with, run_test_says, run_test_with, frequency, form_says}
use Rattle.svf_parse.specs.Least.{GivenHas, FrequencyHas, TimeHas, LengthHas, FieldHas, CountHas, Has}

-- what is told of the refusals that H names
pub record Least {A : Type 0} (r : Result A Code) (H : Code → Type 0) : Type 0 where
  pub says : (c : Code) → r ≡ Err c → H c
  pub least : (c d : Code) → r ≡ Err c → H d → number c ≤ number d
  pub none : (x : A) (d : Code) → r ≡ Ok x → H d → ⊥

-- the same of one refusal beside others
record LeastFault (o : Option Code) (H : Code → Type 0) : Type 0 where
  says : (c : Code) → o ≡ Some c → H c
  least : (c d : Code) → o ≡ Some c → H d → number c ≤ number d
  none : (d : Code) → o ≡ None → H d → ⊥

same_number : (c d : Code) → c ≡ d → number c ≤ number d
same_number c d e = subst (λ x. number c ≤ number x) e (omega arith)

refusing : {A : Type 0} → Code → Result A Code
refusing c = Err c

same_err : {A : Type 0} (r : Result A Code) (c d : Code) → r ≡ Err c → r ≡ Err d → c ≡ d
same_err (Ok x) c d e f = absurd cc
same_err (Err b) c d e f = cc

ok_or_err : {A : Type 0} (r : Result A Code) (x : A) (c : Code) → r ≡ Ok x → r ≡ Err c → ⊥
ok_or_err (Ok y) x c e f = cc
ok_or_err (Err b) x c e f = cc

-- a number tells its one refusal
least_one : {A : Type 0} (r : Result A Code) → Least r (λ c. r ≡ Err c)
least_one r = record { says = λ c e. e; least = λ c d e f. same_number c d (same_err r c d e f); none = λ x d e f. ok_or_err r x d e f }

-- of two refusals the lower
lower_by : (c d : Code) (b : Bool) → nat_le (number c) (number d) ≡ b → ((cond b c d ≡ c) ⊎ (cond b c d ≡ d)) × ((number (cond b c d) ≤ number c) × (number (cond b c d) ≤ number d))
lower_by c d true is = (inl refl, (omega arith, grind (arith, nat_tests)))
lower_by c d false is = (inr refl, (grind (arith, nat_tests), omega arith))

lower : (c d : Code) → ((lower_code c d ≡ c) ⊎ (lower_code c d ≡ d)) × ((number (lower_code c d) ≤ number c) × (number (lower_code c d) ≤ number d))
lower c d = lower_by c d (nat_le (number c) (number d)) refl

either : (H K : Code → Type 0) (c d e : Code) → ((e ≡ c) ⊎ (e ≡ d)) → H c → K d → H e ⊎ K e
either H K c d e (inl p) h k = inl (subst H (sym p) h)
either H K c d e (inr p) h k = inr (subst K (sym p) k)

least_then : {A B : Type 0} (r : Result A Code) (f : A → B) (H : Code → Type 0) → Least r H → Least (r >>= λ x. Ok (f x)) H
least_then (Ok x) f H l = record { says = λ c e. absurd cc; least = λ c d e h. absurd cc; none = λ y d e h. l.none x d refl h }
least_then (Err b) f H l = record { says = λ c e. l.says c (let p : b ≡ c = cc in ap (λ x. Err x) p); least = λ c d e h. l.least c d (let p : b ≡ c = cc in ap (λ x. Err x) p) h; none = λ y d e h. absurd cc }

least_checked : {A : Type 0} (o : Option Code) (r : Result A Code) (H K : Code → Type 0) → LeastFault o H → Least r K → Least (checked o r) (λ c. H c ⊎ K c)
least_checked None r H K l m = record { says = λ c e. inr (m.says c e); least = λ c d e h. elim h [ inl p ↦ absurd (l.none d refl p) | inr q ↦ m.least c d e q ]; none = λ x d e h. elim h [ inl p ↦ l.none d refl p | inr q ↦ m.none x d e q ] }
least_checked (Some b) (Ok y) H K l m =
    record {
      says = λ c e. let p : b ≡ c = cc in inl (l.says c (ap (λ x. Some x) p));
      least = λ c d e h. let p : b ≡ c = cc in elim h [ inl q ↦ l.least c d (ap (λ x. Some x) p) q | inr q ↦ absurd (m.none y d refl q) ];
      none = λ x d e h. absurd cc;
    }
least_checked (Some b) (Err a) H K l m =
    let low = lower b a in
    record {
      says = λ c e. let p : lower_code b a ≡ c = cc in subst (λ x. H x ⊎ K x) p (either H K b a (lower_code b a) low.0 (l.says b refl) (m.says a refl));
      least = λ c d e h. let p : lower_code b a ≡ c = cc in subst (λ x. number x ≤ number d) p (elim h [ inl q ↦ omega (arith, low.1.0, l.least b d refl q) | inr q ↦ omega (arith, low.1.1, m.least a d refl q) ]);
      none = λ x d e h. absurd cc;
    }

least_both : {A B : Type 0} (r : Result A Code) (s : Result B Code) (H K : Code → Type 0) → Least r H → Least s K → Least (both r s) (λ c. H c ⊎ K c)
least_both (Ok x) (Ok y) H K l m = record { says = λ c e. absurd cc; least = λ c d e h. absurd cc; none = λ z d e h. elim h [ inl p ↦ l.none x d refl p | inr q ↦ m.none y d refl q ] }
least_both (Ok x) (Err a) H K l m =
    record {
      says = λ c e. let p : a ≡ c = cc in inr (m.says c (ap (λ x. Err x) p));
      least = λ c d e h. let p : a ≡ c = cc in elim h [ inl q ↦ absurd (l.none x d refl q) | inr q ↦ m.least c d (ap (λ x. Err x) p) q ];
      none = λ z d e h. absurd cc;
    }
least_both (Err b) (Ok y) H K l m =
    record {
      says = λ c e. let p : b ≡ c = cc in inl (l.says c (ap (λ x. Err x) p));
      least = λ c d e h. let p : b ≡ c = cc in elim h [ inl q ↦ l.least c d (ap (λ x. Err x) p) q | inr q ↦ absurd (m.none y d refl q) ];
      none = λ z d e h. absurd cc;
    }
least_both (Err b) (Err a) H K l m =
    let low = lower b a in
    record {
      says = λ c e. let p : lower_code b a ≡ c = cc in subst (λ x. H x ⊎ K x) p (either H K b a (lower_code b a) low.0 (l.says b refl) (m.says a refl));
      least = λ c d e h. let p : lower_code b a ≡ c = cc in subst (λ x. number x ≤ number d) p (elim h [ inl q ↦ omega (arith, low.1.0, l.least b d refl q) | inr q ↦ omega (arith, low.1.1, m.least a d refl q) ]);
      none = λ z d e h. absurd cc;
    }

least_given : {A B : Type 0} (says : A → Result B Code) (H : A → Code → Type 0) (o : Option A) → ((x : A) → Least (says x) (H x)) → Least (given says o) (GivenHas H o)
least_given says H None l = record { says = λ c e. absurd cc; least = λ c d e h. absurd h; none = λ x d e h. h }
least_given says H (Some x) l = least_then (says x) (λ y. Some y) (H x) (l x)

-- ---- fields

field_by : (n : Option ℕ) (h : List ℕ) (a b : Bool) → is_misspelt h ≡ a → is_wider n h ≡ b → LeastFault (cond a (Some code.BadNumber) (cond b (Some code.TooWide) None)) (FieldHas n h)
field_by n h true b bad wide =
    record {
      says = λ c e. inl (let p : code.BadNumber ≡ c = cc in sym p, bad);
      least = λ c d e f. let p : code.BadNumber ≡ c = cc in subst (λ x. number x ≤ number d) p (elim f [ inl q ↦ subst (λ x. 5 ≤ number x) (sym q.0) (omega arith) | inr q ↦ subst (λ x. 5 ≤ number x) (sym q.0) (omega arith) ]);
      none = λ d e f. absurd cc;
    }
field_by n h false true bad wide =
    record {
      says = λ c e. inr (let p : code.TooWide ≡ c = cc in sym p, wide);
      least = λ c d e f. let p : code.TooWide ≡ c = cc in subst (λ x. number x ≤ number d) p (elim f [ inl q ↦ absurd (let k : true ≡ false = sym q.1 ∙ bad in cc) | inr q ↦ subst (λ x. 6 ≤ number x) (sym q.0) (omega arith) ]);
      none = λ d e f. absurd cc;
    }
field_by n h false false bad wide =
    record {
      says = λ c e. absurd cc;
      least = λ c d e f. absurd cc;
      none = λ d e f. elim f [ inl q ↦ (let k : true ≡ false = sym q.1 ∙ bad in cc) | inr q ↦ (let k : true ≡ false = sym q.1 ∙ wide in cc) ];
    }

least_field : (n : Option ℕ) (o : Option (List ℕ)) → LeastFault (field_fault n o) (GivenHas (FieldHas n) o)
least_field n None = record { says = λ c e. absurd cc; least = λ c d e f. absurd f; none = λ d e f. f }
least_field n (Some h) = field_by n h (is_misspelt h) (is_wider n h) refl refl

-- ---- clocks

abbrev ClockHas : Clock → Code → Type 0
ClockHas k c = (c ≡ code.Unsupported) × (k ≡ clock.Sck)

least_clock : (k : Clock) → LeastFault (clock_fault k) (ClockHas k)
least_clock clock.Tck = record { says = λ c e. absurd cc; least = λ c d e f. absurd cc; none = λ d e f. (let k : clock.Tck ≡ clock.Sck = f.1 in cc) }
least_clock clock.Sck = record { says = λ c e. (let p : code.Unsupported ≡ c = cc in sym p, refl); least = λ c d e f. let p : code.Unsupported ≡ c = cc in same_number c d (sym p ∙ sym f.0); none = λ d e f. absurd cc }

-- ---- each form

least_scan : (w : Word) (fs : Fields)
    → Least (scan_says w fs) (λ c. GivenHas (FieldHas (len_value w)) fs.tdi c ⊎ (GivenHas (FieldHas (len_value w)) fs.tdo c ⊎ (GivenHas (FieldHas (len_value w)) fs.mask c ⊎ (GivenHas (FieldHas (len_value w)) fs.smask c ⊎ LengthHas w c))))
unfolding scan_says_within
least_scan w fs =
    let n = len_value w in
    least_checked _ _ _ _ (least_field n fs.tdi) (least_checked _ _ _ _ (least_field n fs.tdo) (least_checked _ _ _ _ (least_field n fs.mask) (least_checked _ _ _ _ (least_field n fs.smask) (least_one (len_says w)))))

least_cycles : (p : Word × Clock) → Least (cycles_say p) (CountHas p)
least_cycles p = least_checked _ _ _ _ (least_clock p.1) (least_one (count_says p.0))

least_run_test : (r : RunTest) → Least (run_test_says r) (Has (run_test_form r))
unfolding run_test_says_within
least_run_test r =
    least_then _ (run_test_with r) _ (least_both _ _ _ _ (least_given cycles_say CountHas r.count least_cycles) (least_both _ _ _ _ (least_given time_says TimeHas r.min (λ w. least_one (time_says w))) (least_given time_says TimeHas r.max (λ w. least_one (time_says w)))))

never : {A : Type 0} (x : A) → Least (Ok x) (λ c. ⊥)
never x = record { says = λ c e. absurd cc; least = λ c d e f. absurd f; none = λ y d e f. f }

pub least_form : (f : Form) → Least (form_says f) (Has f)
least_form (end_dr_form s) = never _
least_form (end_ir_form s) = never _
least_form (frequency_form n) = least_then (given period_says n) (λ p. frequency p) _ (least_given period_says FrequencyHas n (λ w. least_one (period_says w)))
least_form (scan_form which w fs) = least_then (scan_says w fs) (scan_with which fs) _ (least_scan w fs)
least_form (run_test_form r) = least_run_test r
least_form (states_form ss) = never _
least_form (trst_form t) = never _
least_form port_form = record { says = λ c e. (let p : code.Unsupported ≡ c = cc in sym p); least = λ c d e f. let p : code.Unsupported ≡ c = cc in same_number c d (sym p ∙ sym f); none = λ x d e f. absurd cc }
