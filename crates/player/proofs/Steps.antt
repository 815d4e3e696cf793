-- The fields of a player from one turn to the next.
use Rattle.std.proofs.Common.{◌≡◌, Bool, true, false, ℕ, zero, suc, ◌+◌, ◌<◌, List, [], ◌∷◌, length, take, drop, refl, sym, ap, subst, ◌∙◌, arith, Some, None}
use Rattle.std.proofs.lemmas.List.{length-map}
use Rattle.std.specs.Prelude.{filter, is_some, slice_get}
use Rattle.jt_tap.specs.declared.State.{State}
use Rattle.bitbang_protocol.specs.Protocol.{encode}
use Rattle.bitbang.specs.Left.{behind}
use Rattle.bitbang.specs.StepMessages.{step_bytes, step_messages}
use Rattle.bitbang.specs.declared.step_bytes.Spot.{Spot}
use Rattle.svf_programs.specs.Sound.{AllWithin, IsWithin}
use Rattle.svf_programs.specs.Legal.{AllLegalFrom, IsLegalAt}
use Rattle.svf_programs.specs.Steps.{Step, Scan, Go, Path, Run, Trst, Numbered, Program, line_after, place_after}
use Rattle.tck_cycles.specs.Cycles.{cycles}
use Rattle.play_model.specs.Play.{Turn, step_turns, turns, wants_of}
use Rattle.play_model.proofs.Legality.{place-stable}
use Rattle.player.specs.declared.progress.Phase.TheVariants.{Within}
use Rattle.player.specs.declared.progress.Progress.{Progress}
use Rattle.player.specs.Progress.{InStep, Rests, IsProgressOf, gone, state_of, vector_bits}
use Rattle.player.specs.PlaceInPlay.{reads, state_at}

-- the step at a place stands first of those from there on
pub cut : (steps : List Numbered) (at : ℕ) (s : Numbered) → slice_get steps at ≡ Some s → drop at steps ≡ s ∷ drop (suc at) steps
cut [] zero s e = absurd (cc)
cut [] (suc at) s e = absurd (cc)
cut (x ∷ steps) zero s e = let same : x ≡ s = cc in ap (λ y. y ∷ steps) same
cut (x ∷ steps) (suc at) s e = cut steps at s e

-- what holds of it
pub record IsFirst (place : State) (line : Bool) (s : Numbered) (later : List Numbered) : Type 0 where
  pub legal : IsLegalAt place line s.what
  pub legal_on : AllLegalFrom (place_after place s.what) (line_after line s.what) later
  pub within : IsWithin s.what
  pub within_on : AllWithin later

pub first : (steps : List Numbered) (at : ℕ) (place : State) (r : Rests steps at place) (s : Numbered) (later : List Numbered)
    → drop at steps ≡ s ∷ later → IsFirst place r.line s later
first steps at place r s later e =
    let legal : AllLegalFrom place r.line (s ∷ later) = subst (AllLegalFrom place r.line) e r.legal in
    let within : AllWithin (s ∷ later) = subst AllWithin e r.within in
    record { legal = legal.0; legal_on = legal.1; within = within.0; within_on = within.1 }

-- where the next one begins
pub next-rests : (steps : List Numbered) (at : ℕ) (place : State) → Rests steps at place → (s : Numbered) → drop at steps ≡ s ∷ drop (suc at) steps
    → Rests steps (suc at) (place_after place s.what)
next-rests steps at place r s e =
    let f = first steps at place r s (drop (suc at) steps) e in
    record {
      stable = place-stable s.what place r.stable f.legal.formed;
      line = line_after r.line s.what;
      legal = f.legal_on;
      within = f.within_on;
      turns_are = further (suc at) (turns steps) (step_turns place (drop at steps)) r.turns_are
          ∙ ap (λ (l : List Numbered). drop 1 (step_turns place l)) e;
    }
  where
    further : (n : ℕ) (ts rest : List Turn) → drop n ts ≡ rest → drop (suc n) ts ≡ drop 1 rest
    further zero ts rest is = ap (drop 1) is
    further (suc n) [] rest is = ap (drop 1) is
    further (suc n) (t ∷ ts) rest is = further n ts rest is

-- a turn of which nothing is out
abbrev pub start : Spot → ℕ → State → Progress
start spot at place = record { phase = Within spot; at = at; place = place; heard = 0; owed = 0; judged = 0; stopped = false; bad = None }

pub wants-of-vector : (s : Step) → filter (λ v. is_some v.wanted) (vector_bits s) ≡ wants_of s
wants-of-vector (Scan column v end) = refl
wants-of-vector (Go s) = refl
wants-of-vector (Path path) = refl
wants-of-vector (Run run n end) = refl
wants-of-vector (Trst w) = refl

module _ (spot : Spot) (at : ℕ) (place : State) (s : Numbered) (later : List Numbered) (all : behind spot (cycles place s.what) ≡ step_bytes place s.what) where
  pub nothing-gone : gone (s ∷ later) (start spot at place) ≡ 0
  nothing-gone = omega (arith, ap length all, length-map (step_messages place s.what) encode)

  begins : InStep spot (s ∷ later) (start spot at place)
  begins =
      let none = nothing-gone in record {
        step = s;
        later = later;
        is = refl;
        left = all ∙ ap (λ n. drop n (step_bytes place s.what)) (sym none);
        some = omega (arith, ap length all, length-map (step_messages place s.what) encode);
        asked = ap (λ n. reads (take n (step_bytes place s.what))) none;
        allowed = omega arith;
        judged = λ e. wants-of-vector s.what;
        fair = λ e. absurd (cc);
        bad = λ e. absurd (cc);
      }

pub enters : (steps : List Numbered) (spot : Spot) (at : ℕ) (place : State) (s : Numbered) (later : List Numbered) → Rests steps at place
    → drop at steps ≡ s ∷ later → behind spot (cycles place s.what) ≡ step_bytes place s.what → IsProgressOf steps (start spot at place)
enters steps spot at place s later r e all = record {
  rests = r;
  phase = subst (λ (l : List Numbered). InStep spot l (start spot at place)) (sym e) (begins spot at place s later all);
}

pub enters-same : (program : Program) (spot : Spot) (at : ℕ) (place : State) (s : Numbered) (later : List Numbered)
    → drop at program.steps ≡ s ∷ later → behind spot (cycles place s.what) ≡ step_bytes place s.what
    → state_of program (start spot at place) ≡ state_at program (record { over = suc at; gone = 0; heard = 0; stopped = false; bad = None })
enters-same program spot at place s later e all =
    ap (λ (n : ℕ). state_at program (record { over = suc at; gone = n; heard = 0; stopped = false; bad = None }))
    (ap (λ (l : List Numbered). gone l (start spot at place)) e ∙ nothing-gone spot at place s later all)

-- one list has one first member
pub same-first : {A : Type 0} (rest : List A) (s t : A) (later more : List A) → rest ≡ s ∷ later → rest ≡ t ∷ more → s ≡ t
same-first [] s t later more e f = absurd (cc)
same-first (x ∷ rest) s t later more e f = let a : x ≡ s = cc in let b : x ≡ t = cc in sym a ∙ b

-- nothing is left, or something
pub none-first : (l : List ℕ) → is_some (slice_get l 0) ≡ false → l ≡ []
none-first [] e = refl
none-first (x ∷ l) e = absurd (cc)

pub some-first : (l : List ℕ) → is_some (slice_get l 0) ≡ true → l ≡ [] → ⊥
some-first [] e none = cc
some-first (x ∷ l) e none = cc

-- a step that stands first is one of them
pub below : (steps : List Numbered) (at : ℕ) (s : Numbered) (later : List Numbered) → drop at steps ≡ s ∷ later → at < length steps
below [] zero s later e = absurd (cc)
below [] (suc at) s later e = absurd (cc)
below (x ∷ steps) zero s later e = omega arith
below (x ∷ steps) (suc at) s later e = let less = below steps at s later e in omega arith

pub length-below : (steps : List Numbered) (at : ℕ) (s : Numbered) (later : List Numbered) → drop at steps ≡ s ∷ later → length later + at + 1 ≡ length steps
length-below [] zero s later e = absurd (cc)
length-below [] (suc at) s later e = absurd (cc)
length-below (x ∷ steps) zero s later e = let n = ap length e in omega (arith, n)
length-below (x ∷ steps) (suc at) s later e = let n = length-below steps at s later e in omega (arith, n)
