-- The full play gives the outcome by whole registers.
use Rattle.std.specs.Prelude.{⊤}
use Rattle.std.proofs.Common.{◌≡◌, Bool, false, ℕ, List, [], ◌∷◌, ◌++◌, refl, sym, ap, ◌∙◌, subst}
use Rattle.std.specs.Prelude.{Option, Some, None, if◌then◌else◌, is_some, filter}
use Rattle.jt_tap.specs.declared.State.{State}
use Rattle.jt_tap.specs.declared.State.TheVariants.{Reset}
use Rattle.bitbang_protocol.specs.declared.Message.TheVariants.{Quit, Lines}
use Rattle.board_model.specs.Chain.{BoardState, Heard, hear, after_message}
use Rattle.board_model.specs.Whole.{AtRest, capture, out, settle}
use Rattle.scan_vectors.specs.declared.part.Part.{Part}
use Rattle.scan_vectors.specs.Vector.{VectorBit, judge, differs, tdis}
use Rattle.bitbang.specs.Steps.{Step, Scan, Go, Path, Run, Trst, Numbered, place_after}
use Rattle.play_model.specs.Meaning.{after_step, failure, outcome, Outcome}
use Rattle.play_model.specs.declared.ending.Ending.TheVariants.{Fail}
use Rattle.bitbang.specs.StepMessages.{step_messages}
use Rattle.play_model.specs.Play.{Turn, Played, wants_of, step_turns, turns, full_play}
use Rattle.board_model.specs.Resting.{board_at_rest}
use Rattle.play_model.proofs.Vectors.{picked}
use Rattle.board_model.proofs.FiveOnes.{opening-rests, reset_from_here}

-- the first wanted bit that differs is the same, found in the whole out or among the answers
pub judge-picked : (v : List VectorBit) (bits : List Bool) → judge (filter (λ b. is_some b.wanted) v) (picked v bits) ≡ judge v bits
judge-picked [] bits = refl
judge-picked (v ∷ vs) [] = empty (filter (λ b. is_some b.wanted) (v ∷ vs))
  where
    empty : (ws : List VectorBit) → judge ws [] ≡ None
    empty [] = refl
    empty (w ∷ ws) = refl
judge-picked (v ∷ vs) (b ∷ bits) = one-bit v.wanted v vs b bits (judge-picked vs bits)
  where
    one-bit : (w : Option Bool) (v : VectorBit) (vs : List VectorBit) (b : Bool) (bits : List Bool)
        → judge (filter (λ b. is_some b.wanted) vs) (picked vs bits) ≡ judge vs bits
        → judge (filter (λ b. is_some b.wanted) (record v { wanted = w } ∷ vs)) (picked (record v { wanted = w } ∷ vs) (b ∷ bits))
        ≡ judge (record v { wanted = w } ∷ vs) (b ∷ bits)
    one-bit None v vs b bits e = e
    one-bit (Some w) v vs b bits e = ap (λ r. if differs (Some w) b then Some (v.part, v.place) else r) e

-- what a step's questions are answered
abbrev pub asked_of : Step → AtRest → List Bool
asked_of (Scan column v end) m = picked v (out column (tdis v) (capture column (settle m)))
asked_of _ m = []

-- what one step's law says: the answers, the board at rest, and the place
pub record IsPlayed (step : Step) (m : AtRest) (answers : List Bool) : Type 0 where
  pub heard : hear (step_messages m.place step) (board_at_rest m) ≡ record { answers = answers; board = board_at_rest (after_step step m) }
  pub said : answers ≡ asked_of step m
  pub place : (after_step step m).place ≡ place_after m.place step

-- so the first wanted bit that differs is the one that whole registers name
pub judged-of : (step : Step) (m : AtRest) (answers : List Bool) → answers ≡ asked_of step m → judge (wants_of step) answers ≡ failure step m
judged-of (Scan column v end) m answers e =
    ap (judge (wants_of (Scan column v end))) e ∙ judge-picked v (out column (tdis v) (capture column (settle m)))
judged-of (Go s) m answers e = ap (judge []) e
judged-of (Path path) m answers e = ap (judge []) e
judged-of (Run run n end) m answers e = ap (judge []) e
judged-of (Trst word) m answers e = ap (judge []) e

abbrev pub AllPlayed : List Numbered → AtRest → Type 0
AllPlayed [] m = ⊤
AllPlayed (s ∷ ss) m = (answers : List Bool) × IsPlayed s.what m answers × AllPlayed ss (after_step s.what m)

pub record Same (p : Played) (o : Outcome) : Type 0 where
  pub ending : p.ending ≡ o.ending
  pub board : p.board ≡ board_at_rest o.after

abbrev after_turn : Turn → List Turn → Heard → Option (Part × ℕ) → Played
after_turn t ts heard found =
    let rest = full_play ts heard.board in
    elim found [
      | None ↦ record { messages = t.messages ++ rest.messages; answers = heard.answers ++ rest.answers; ending = rest.ending; board = rest.board }
      | Some f ↦ record { messages = t.messages ++ Quit ∷ []; answers = heard.answers; ending = Fail t.command f.0 f.1; board = heard.board }
    ]

abbrev decided : Numbered → List Numbered → AtRest → Option (Part × ℕ) → Outcome
decided s ss m found =
    let rest = outcome ss (after_step s.what m) in
    elim found [
      | None ↦ rest
      | Some f ↦ record { ending = Fail s.number f.0 f.1; after = after_step s.what m }
    ]

combine : (t : Turn) (ts : List Turn) (s : Numbered) (ss : List Numbered) (m : AtRest) (answers : List Bool)
    → Same (full_play ts (board_at_rest (after_step s.what m))) (outcome ss (after_step s.what m)) → (found : Option (Part × ℕ)) → t.command ≡ s.number
    → Same (after_turn t ts (record { answers = answers; board = board_at_rest (after_step s.what m) }) found) (decided s ss m found)
combine t ts s ss m answers rest None number = record { ending = rest.ending; board = rest.board }
combine t ts s ss m answers rest (Some f) number = record { ending = λ i. Fail (number i) f.0 f.1; board = refl }

steps-law : (ss : List Numbered) (m : AtRest) → AllPlayed ss m → Same (full_play (step_turns m.place ss) (board_at_rest m)) (outcome ss m)
steps-law [] m legal = record { ending = refl; board = refl }
steps-law (s ∷ ss) m (answers, p, legal) =
    let t : Turn = record { command = s.number; messages = step_messages m.place s.what; wants = wants_of s.what } in
    let ts = step_turns (place_after m.place s.what) ss in
    let after = after_step s.what m in
    let heard : Heard = record { answers = answers; board = board_at_rest after } in
    let rest : Same (full_play ts (board_at_rest after)) (outcome ss after) =
    subst (λ (place : State). Same (full_play (step_turns place ss) (board_at_rest after)) (outcome ss after)) p.place (steps-law ss after legal) in
    let path : full_play (t ∷ ts) (board_at_rest m) ≡ after_turn t ts heard (failure s.what m) =
    (λ i. after_turn t ts (p.heard i) (judge t.wants (p.heard i).answers)) ∙ (λ i. after_turn t ts heard (judged-of s.what m answers p.said i)) in
    subst (λ (q : Played). Same q (outcome (s ∷ ss) m)) (sym path) (combine t ts s ss m answers rest (failure s.what m) refl)

-- Direct play: from every board, whatever bytes it took before, the full play ends as the register meaning says, from
-- the state after the opening.
pub program-law : (ss : List Numbered) (b : BoardState) → AllPlayed ss (reset_from_here (after_message (Lines false false) b))
    → Same (full_play (turns ss) b) (outcome ss (reset_from_here (after_message (Lines false false) b)))
program-law ss b legal =
    let m = reset_from_here (after_message (Lines false false) b) in
    let rest = steps-law ss m legal in
    let ts = step_turns Reset ss in
    record {
      ending = ap (λ h. (full_play ts h.board).ending) (opening-rests b) ∙ rest.ending;
      board = ap (λ h. (full_play ts h.board).board) (opening-rests b) ∙ rest.board;
    }
