-- A play to the end finds all failures that the program means, and leaves the board where it means.
use Rattle.std.proofs.Common.{◌≡◌, Bool, ℕ, ◌<◌, List, [], ◌∷◌, ◌++◌, map, length, filter, is_some, refl, sym, ap, ◌∙◌, subst, Option, Some, None}
use Rattle.std.specs.Prelude.{if◌then◌else◌}
use Rattle.jt_tap.specs.declared.State.{State}
use Rattle.jt_tap.specs.declared.State.TheVariants.{Reset}
use Rattle.board_model.specs.Chain.{BoardState, hear}
use Rattle.board_model.specs.Resting.{board_at_rest}
use Rattle.bitbang_protocol.specs.Cycles.{opening}
use Rattle.bitbang.specs.Steps.{place_after, Step, Scan, Go, Path, Run, Trst, Numbered}
use Rattle.bitbang.specs.StepMessages.{step_messages}
use Rattle.play_model.specs.Meaning.{after_step}
use Rattle.scan_vectors.specs.Vector.{VectorBit, differs, tdis}
use Rattle.board_model.specs.Whole.{AtRest, capture, out, settle}
use Rattle.board_model.proofs.FiveOnes.{opening-rests}
use Rattle.play_model.proofs.Vectors.{picked}
use Rattle.play_model.specs.Play.{Turn, full_play, step_turns, turns, wants_of}
use Rattle.play_model.proofs.Asks.{asks-step, played_of}
use Rattle.play_model.proofs.Direct.{AllPlayed, asked_of}
use Rattle.play_model.proofs.Legality.{legal-from}
use Rattle.play_model.proofs.Programs.{all-played, opened-count, opened-is, opened_to}
use Rattle.play_model.specs.AllFailures.{APlayToTheEndMeansAll, EveryScheduleMeansAll}
use Rattle.play_model.specs.ScheduleLaws.{full}
use Rattle.play_model.specs.PlayingOn.{differing, failures, outcome_of_all, step_failures, unjudged}
use Rattle.play_model.proofs.AllFailures.{failures-turn, never}
use Rattle.play_model.proofs.SafetyLaws.{whole_at_end}

-- what differs is found in the whole out or among the answers
differing-picked : (c : ℕ) (v : List VectorBit) (bits : List Bool) → differing c (filter (λ b. is_some b.wanted) v) (picked v bits) ≡ differing c v bits
differing-picked c [] bits = refl
differing-picked c (v ∷ vs) [] = empty (filter (λ b. is_some b.wanted) (v ∷ vs))
  where
    empty : (ws : List VectorBit) → differing c ws [] ≡ []
    empty [] = refl
    empty (w ∷ ws) = refl
differing-picked c (v ∷ vs) (b ∷ bits) = one-bit v.wanted (differing-picked c vs bits)
  where
    one-bit : (w : Option Bool) → differing c (filter (λ b. is_some b.wanted) vs) (picked vs bits) ≡ differing c vs bits
        → differing c (filter (λ b. is_some b.wanted) (record v { wanted = w } ∷ vs)) (picked (record v { wanted = w } ∷ vs) (b ∷ bits))
        ≡ differing c (record v { wanted = w } ∷ vs) (b ∷ bits)
    one-bit None e = e
    one-bit (Some w) e = ap (λ r. if differs (Some w) b then record { command = c; part = v.part; bit = v.place } ∷ r else r) e

step-differs : (s : Numbered) (m : AtRest) (answers : List Bool) → answers ≡ asked_of s.what m
    → differing s.number (wants_of s.what) answers ≡ step_failures s m
step-differs s m answers e = one s.what (ap (differing s.number (wants_of s.what)) e)
  where
    one : (what : Step) → differing s.number (wants_of what) answers ≡ differing s.number (wants_of what) (asked_of what m)
        → differing s.number (wants_of what) answers ≡ step_failures (record s { what = what }) m
    one (Scan column v end) e = e ∙ differing-picked s.number v (out column (tdis v) (capture column (settle m)))
    one (Go to) e = e
    one (Path path) e = e
    one (Run run n end) e = e
    one (Trst word) e = e

-- the play to the end from rest
record IsAll (ts : List Turn) (ss : List Numbered) (b : BoardState) (m : AtRest) : Type 0 where
  found : failures ts (full_play (map unjudged ts) b).answers ≡ (outcome_of_all ss m).failures
  board : (full_play (map unjudged ts) b).board ≡ board_at_rest (outcome_of_all ss m).after

steps-all : (ss : List Numbered) (m : AtRest) → AllPlayed ss m → IsAll (step_turns m.place ss) ss (board_at_rest m) m
steps-all [] m played = record { found = refl; board = refl }
steps-all (s ∷ ss) m (answers, p, played) =
    let t : Turn = record { command = s.number; messages = step_messages m.place s.what; wants = wants_of s.what } in
    let ts = step_turns (place_after m.place s.what) ss in
    let after = after_step s.what m in
    let rest : IsAll ts ss (board_at_rest after) after =
    subst (λ (place : State). IsAll (step_turns place ss) ss (board_at_rest after) after) p.place (steps-all ss after played) in
    record {
      found = failures-turn t ts (board_at_rest m) (asks-step m.place s.what)
          ∙ (λ i. differing s.number (wants_of s.what) (p.heard i).answers ++ failures ts (full_play (map unjudged ts) (p.heard i).board).answers)
          ∙ (λ i. step-differs s m answers p.said i ++ rest.found i);
      board = ap (λ found. (played_of (unjudged t) (map unjudged ts) (hear t.messages (board_at_rest m)) found).board) (never t.wants (hear t.messages (board_at_rest m)).answers)
          ∙ ap (λ h. (full_play (map unjudged ts) h.board).board) p.heard
          ∙ rest.board;
    }

pub plays_all : APlayToTheEndMeansAll
plays_all steps b sound some legal =
    let m = opened_to b in
    let is = opened-is b sound in
    let devices : 0 < length m.members = subst (λ (n : ℕ). 0 < n) (sym (opened-count b)) some in
    let all = steps-all steps m (all-played steps m is.rest is.sound devices (legal-from steps m refl legal)) in
    let ts = step_turns Reset steps in
    let t : Turn = record { command = 0; messages = opening; wants = [] } in
    record {
      opened = m;
      rests = is.board;
      failures = failures-turn t ts b refl
          ∙ (λ i. differing 0 [] (opening-rests b i).answers ++ failures ts (full_play (map unjudged ts) (opening-rests b i).board).answers)
          ∙ all.found;
      board = ap (λ found. (played_of (unjudged t) (map unjudged ts) (hear opening b) found).board) (never [] (hear opening b).answers)
          ∙ ap (λ h. (full_play (map unjudged ts) h.board).board) (opening-rests b)
          ∙ all.board;
    }

pub every_schedule_all : EveryScheduleMeansAll
every_schedule_all l on steps b es sound some legal quit =
    let whole = whole_at_end l steps b es quit in
    let all = plays_all steps b sound some legal in
    record {
      opened = all.opened;
      rests = all.rests;
      failures = ap (failures (turns steps)) (whole.answers ∙ ap (λ k. (full k steps b).answers) on) ∙ all.failures;
      board = whole.board ∙ ap (λ k. (full k steps b).board) on ∙ all.board;
    }
