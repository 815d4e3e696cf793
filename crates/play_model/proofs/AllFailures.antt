-- The first of all failures is the first failure.
use Rattle.std.proofs.Common.{◌≡◌, Bool, true, false, ℕ, ◌≤◌, List, [], ◌∷◌, ◌++◌, length, map, drop, refl, sym, ap, ◌∙◌, arith, Option, Some, None}
use Rattle.std.proofs.Math.Seq.{drop-append_seam}
use Rattle.std.specs.Prelude.{if◌then◌else◌}
use Rattle.board_model.specs.Chain.{BoardState, hear}
use Rattle.bitbang.specs.Steps.{Step, Scan, Go, Path, Run, Trst}
use Rattle.play_model.specs.Meaning.{after_step, Outcome, outcome}
use Rattle.scan_vectors.specs.Vector.{VectorBit, differs, judge, tdis}
use Rattle.board_model.specs.Whole.{AtRest, capture, out, settle}
use Rattle.scan_vectors.specs.declared.part.Part.{Part}
use Rattle.play_model.specs.declared.ending.Ending.TheVariants.{Fail}
use Rattle.play_model.specs.Play.{Turn, full_play, turns}
use Rattle.play_model.proofs.Asks.{AllAsk, asks, hear-asks, turns-ask, played_of}
use Rattle.play_model.specs.AllFailures.{FirstOfAllIsTheFirst, FirstOfAllPlayedIsTheFirst}
use Rattle.play_model.specs.PlayingOn.{Mismatch, any_value, differing, ending_of, failures, outcome_of_all, unjudged}

-- what `judge` finds is the first that differs
pub data Judged (command : ℕ) (vs : List VectorBit) (bits : List Bool) : Option (Part × ℕ) → Type 0 where
  none : differing command vs bits ≡ [] → Judged command vs bits None
  some : (f : Part × ℕ) (rest : List Mismatch) → differing command vs bits ≡ record { command = command; part = f.0; bit = f.1 } ∷ rest
      → Judged command vs bits (Some f)

pub judged : (command : ℕ) (vs : List VectorBit) (bits : List Bool) → Judged command vs bits (judge vs bits)
judged command [] bits = none (empty bits)
  where
    empty : (bits : List Bool) → differing command [] bits ≡ []
    empty [] = refl
    empty (b ∷ bits) = refl
judged command (v ∷ vs) [] = none refl
judged command (v ∷ vs) (b ∷ bits) = one (differs v.wanted b) refl (judged command vs bits)
  where
    one : (d : Bool) → differs v.wanted b ≡ d → Judged command vs bits (judge vs bits)
        → Judged command (v ∷ vs) (b ∷ bits) (if d then Some (v.part, v.place) else judge vs bits)
    one true e j = some (v.part, v.place) (differing command vs bits)
        (ap (λ q. if q then record { command = command; part = v.part; bit = v.place } ∷ differing command vs bits else differing command vs bits) e)
    one false e j = later (judge vs bits) j
      where
        skipped : differing command (v ∷ vs) (b ∷ bits) ≡ differing command vs bits
        skipped = ap (λ q. if q then record { command = command; part = v.part; bit = v.place } ∷ differing command vs bits else differing command vs bits) e

        later : (found : Option (Part × ℕ)) → Judged command vs bits found → Judged command (v ∷ vs) (b ∷ bits) found
        later _ (none q) = none (skipped ∙ q)
        later _ (some f rest q) = some f rest (skipped ∙ q)

abbrev pub decided : ℕ → Option (Part × ℕ) → Outcome → AtRest → Outcome
decided number found rest after = elim found [ None ↦ rest | Some f ↦ record { ending = Fail number f.0 f.1; after = after } ]

-- Over whole registers.
pub first_of_all : FirstOfAllIsTheFirst
first_of_all [] m = refl
first_of_all (s ∷ ss) m = one s.what (first_of_all ss (after_step s.what m))
  where
    scanned : (found : Option (Part × ℕ)) (v : List VectorBit) (bits : List Bool) (more : List Mismatch) (o : Outcome) (after : AtRest)
        → Judged s.number v bits found → ending_of more ≡ o.ending
        → ending_of (differing s.number v bits ++ more)
        ≡ (decided s.number found o after).ending
    scanned _ v bits more o after (none e) rest = ap (λ l. ending_of (l ++ more)) e ∙ rest
    scanned _ v bits more o after (some f later e) rest = ap (λ l. ending_of (l ++ more)) e

    one : (what : Step) → ending_of (outcome_of_all ss (after_step what m)).failures ≡ (outcome ss (after_step what m)).ending
        → ending_of (outcome_of_all (record s { what = what } ∷ ss) m).failures ≡ (outcome (record s { what = what } ∷ ss) m).ending
    one (Scan column v end) rest =
        let bits = out column (tdis v) (capture column (settle m)) in
        let next = after_step (Scan column v end) m in
        scanned (judge v bits) v bits (outcome_of_all ss next).failures (outcome ss next) next (judged s.number v bits) rest
    one (Go to) rest = rest
    one (Path path) rest = rest
    one (Run run n end) rest = rest
    one (Trst word) rest = rest

-- Edge by edge.
pub never : (vs : List VectorBit) (bits : List Bool) → judge (map any_value vs) bits ≡ None
never [] bits = empty bits
  where
    empty : (bits : List Bool) → judge [] bits ≡ None
    empty [] = refl
    empty (b ∷ bits) = refl
never (v ∷ vs) [] = refl
never (v ∷ vs) (b ∷ bits) = never vs bits

differing-more : (command : ℕ) (vs : List VectorBit) (bits more : List Bool) → length vs ≤ length bits → differing command vs (bits ++ more) ≡ differing command vs bits
differing-more command [] bits more le = empty bits
  where
    nothing : (bits : List Bool) → differing command [] bits ≡ []
    nothing [] = refl
    nothing (b ∷ bits) = refl

    empty : (bits : List Bool) → differing command [] (bits ++ more) ≡ differing command [] bits
    empty bits = nothing (bits ++ more) ∙ sym (nothing bits)
differing-more command (v ∷ vs) [] more le = absurd (omega arith)
differing-more command (v ∷ vs) (b ∷ bits) more le =
    let rest = differing-more command vs bits more (omega arith) in
    λ i. if differs v.wanted b then record { command = command; part = v.part; bit = v.place } ∷ rest i else rest i

-- what a turn of the play to the end adds
pub failures-turn : (t : Turn) (ts : List Turn) (b : BoardState) → asks t.messages ≡ length t.wants
    → failures (t ∷ ts) (full_play (map unjudged (t ∷ ts)) b).answers
    ≡ differing t.command t.wants (hear t.messages b).answers ++ failures ts (full_play (map unjudged ts) (hear t.messages b).board).answers
failures-turn t ts b fits =
    let H = (hear t.messages b).answers in
    let R = (full_play (map unjudged ts) (hear t.messages b).board).answers in
    let long : length H ≡ length t.wants = hear-asks t.messages b ∙ fits in
    ap (λ found. failures (t ∷ ts) (played_of (unjudged t) (map unjudged ts) (hear t.messages b) found).answers) (never t.wants H)
    ∙ (λ i. differing-more t.command t.wants H R (omega (arith, long)) i ++ failures ts ((ap (λ n. drop n (H ++ R)) (sym long) ∙ drop-append_seam H R) i))

played-first : (ts : List Turn) (b : BoardState) → AllAsk ts → ending_of (failures ts (full_play (map unjudged ts) b).answers) ≡ (full_play ts b).ending
played-first [] b all = refl
played-first (t ∷ ts) b all =
    ap ending_of (failures-turn t ts b all.0) ∙ one (judge t.wants H) (judged t.command t.wants H) (played-first ts (hear t.messages b).board all.1)
  where
    H : List Bool
    H = (hear t.messages b).answers

    more : List Mismatch
    more = failures ts (full_play (map unjudged ts) (hear t.messages b).board).answers

    one : (found : Option (Part × ℕ)) → Judged t.command t.wants H found → ending_of more ≡ (full_play ts (hear t.messages b).board).ending
        → ending_of (differing t.command t.wants H ++ more) ≡ (played_of t ts (hear t.messages b) found).ending
    one _ (none e) rest = ap (λ l. ending_of (l ++ more)) e ∙ rest
    one _ (some f later e) rest = ap (λ l. ending_of (l ++ more)) e

pub first_of_all_played : FirstOfAllPlayedIsTheFirst
first_of_all_played steps b = played-first (turns steps) b (turns-ask steps)
