-- What fails in a step, and what is kept of it.
use Rattle.std.proofs.Common.{◌≡◌, ◌+◌, ◌≤◌, ℕ, Bool, true, false, List, [], ◌∷◌, ◌++◌, Some, None, length, take, refl, sym, ap, ◌∙◌, arith}
use Rattle.std.specs.Prelude.{Option, not, ◌==◌}
use Rattle.std.specs.Option.{option_to_list}
use Rattle.std.proofs.lemmas.Bool.Decides.{nat_tests}
use Rattle.jt_tap.specs.declared.Column.{Column}
use Rattle.jt_tap.specs.declared.State.{State}
use Rattle.scan_vectors.specs.declared.failures.Mismatch.{Mismatch}
use Rattle.scan_vectors.specs.declared.part.Part.{Part}
use Rattle.scan_vectors.specs.Failures.{Found, most_listed, none_found, with_found}
use Rattle.scan_vectors.specs.Vector.{VectorBit, judge, tdis}
use Rattle.svf_programs.specs.Sound.{IsWithin, vector_limit}
use Rattle.svf_programs.specs.Steps.{Numbered, Step, Scan, Go, Path, Run, Trst}
use Rattle.board_model.specs.Whole.{AtRest, capture, out, settle}
use Rattle.play_model.specs.declared.kind.Kind.{Kind}
use Rattle.play_model.specs.declared.kind.Kind.TheVariants.{PlaysOn, Stops}
use Rattle.play_model.specs.declared.ending.Ending.TheVariants.{Fail}
use Rattle.play_model.specs.Meaning.{failure}
use Rattle.play_model.specs.PlayingOn.{ending_of, step_failures}
use Rattle.play_model.specs.Streams.{found_of, some_differ, stops_for}
use Rattle.jt_board.proofs.Differing.{few-wanted}
use Rattle.play_model.proofs.AllFailures.{Judged, judged, none, some}

clash : false ≡ true → ⊥
clash e = cc

-- ---- the first bit of a step that fails is the first of all

data First (s : Numbered) (m : AtRest) : Option (Part × ℕ) → Type 0 where
  nothing : step_failures s m ≡ [] → First s m None
  first : (f : Part × ℕ) (rest : List Mismatch) → step_failures s m ≡ record { command = s.number; part = f.0; bit = f.1 } ∷ rest → First s m (Some f)

first-of : (s : Numbered) (m : AtRest) → First s m (failure s.what m)
first-of s m = one s.what
  where
    scanned : (column : Column) (v : List VectorBit) (end : State) (found : Option (Part × ℕ))
        → Judged s.number v (out column (tdis v) (capture column (settle m))) found → First (record s { what = Scan column v end }) m found
    scanned column v end _ (none e) = nothing e
    scanned column v end _ (some f rest e) = first f rest e

    one : (what : Step) → First (record s { what = what }) m (failure what m)
    one (Scan column v end) =
        let bits = out column (tdis v) (capture column (settle m)) in
        scanned column v end (judge v bits) (judged s.number v bits)
    one (Go to) = nothing refl
    one (Path path) = nothing refl
    one (Run run n end) = nothing refl
    one (Trst word) = nothing refl

module _ (s : Numbered) (m : AtRest) where
  pub passed : step_failures s m ≡ [] → failure s.what m ≡ None
  passed e = by (failure s.what m) (first-of s m)
    where
      by : (found : Option (Part × ℕ)) → First s m found → found ≡ None
      by _ (nothing q) = refl
      by _ (first f rest q) = absurd (omega (arith, ap length e, ap length q))

  pub failed : some_differ (step_failures s m) ≡ true → (f : Part × ℕ) × (failure s.what m ≡ Some f) × (ending_of (step_failures s m) ≡ Fail s.number f.0 f.1)
  failed e = by (failure s.what m) (first-of s m)
    where
      by : (found : Option (Part × ℕ)) → First s m found → (f : Part × ℕ) × (found ≡ Some f) × (ending_of (step_failures s m) ≡ Fail s.number f.0 f.1)
      by _ (nothing q) = absurd (clash (sym (ap some_differ q) ∙ e))
      by _ (first f rest q) = (f, refl, ap ending_of q)

-- as many as a vector has bits at most
pub few-in-step : (s : Numbered) (m : AtRest) → IsWithin s.what → length (step_failures s m) ≤ vector_limit
few-in-step s m within = one s.what within
  where
    one : (what : Step) → IsWithin what → length (step_failures (record s { what = what }) m) ≤ vector_limit
    one (Scan column v end) few = omega (arith, few, few-wanted s.number v (out column (tdis v) (capture column (settle m))))
    one (Go to) few = omega arith
    one (Path path) few = omega arith
    one (Run run n end) few = omega arith
    one (Trst word) few = omega arith

-- ---- a play that stops keeps nothing, up to the first step that fails

no-failures : (fs : List Mismatch) → some_differ (take most_listed fs) ≡ false → fs ≡ []
no-failures [] e = refl
no-failures (f ∷ fs) e = absurd (clash (sym e))

some-failures : (fs : List Mismatch) → some_differ (take most_listed fs) ≡ some_differ fs
some-failures [] = refl
some-failures (f ∷ fs) = refl

abbrev is_stops : Kind → Bool
is_stops Stops = true
is_stops PlaysOn = false

module _ (fs : List Mismatch) (old new : Found) (is : new ≡ with_found fs old) (kind : Kind) (before : kind ≡ Stops → old ≡ none_found) where
  kept : kind ≡ Stops → new.list ≡ take most_listed fs
  kept e = ap (λ (f : Found). f.list) is ∙ ap (λ (f : Found). take most_listed (f.list ++ fs)) (before e)

  kept-for : kind ≡ Stops → stops_for kind new.list ≡ some_differ (take most_listed fs)
  kept-for e = ap (λ (k : Kind). stops_for k new.list) e ∙ ap some_differ (kept e)

  -- it goes on where the step fails nowhere
  pub quiet : stops_for kind new.list ≡ false → kind ≡ Stops → fs ≡ []
  quiet calm e = no-failures fs (sym (kept-for e) ∙ calm)

  pub still : stops_for kind new.list ≡ false → kind ≡ Stops → new ≡ none_found
  still calm e = is ∙ (λ i. with_found (quiet calm e i) (before e i))

  -- and stops where it fails
  pub stopped : stops_for kind new.list ≡ true → kind ≡ Stops
  stopped = by kind
    where
      by : (k : Kind) → stops_for k new.list ≡ true → k ≡ Stops
      by Stops loud = refl
      by PlaysOn loud = absurd (clash loud)

  pub loud : stops_for kind new.list ≡ true → some_differ fs ≡ true
  loud stops = sym (some-failures fs) ∙ sym (kept-for (stopped stops)) ∙ stops

-- a play that goes on does not stop
pub goes_on_stops : (kind : Kind) → kind ≡ Stops → kind ≡ PlaysOn → ⊥
goes_on_stops kind stops on = clash (sym (ap is_stops on) ∙ ap is_stops stops)

pub some-listed : (fs : List Mismatch) → not (length fs == 0) ≡ some_differ fs
some-listed [] = refl
some-listed (f ∷ fs) = grind (arith, nat_tests)

-- ---- what is kept tells the first

pub ending-kept : (fs : List Mismatch) → ending_of (take most_listed fs) ≡ ending_of fs
ending-kept [] = refl
ending-kept (f ∷ fs) = refl

pub ending-first : (o : Option Mismatch) (fs : List Mismatch) → option_to_list o ≡ take 1 fs → ending_of (option_to_list o) ≡ ending_of fs
ending-first o fs e = ap ending_of e ∙ one fs
  where
    one : (fs : List Mismatch) → ending_of (take 1 fs) ≡ ending_of fs
    one [] = refl
    one (f ∷ fs) = refl

-- all, kept from the first on
pub kept-all : (all : List Mismatch) → with_found all none_found ≡ found_of PlaysOn all
kept-all all =
    let total : 0 + length all ≡ length all = omega arith in
    (λ k. record { list = take most_listed all; total = total k })
