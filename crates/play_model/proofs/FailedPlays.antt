-- What follows a step that fails is not played.
use Rattle.std.proofs.Common.{◌≡◌, ◌≢◌, ◌∙◌, ℕ, List, [], ◌∷◌, ◌++◌, Option, Some, None, refl, ap}
use Rattle.jt_tap.specs.declared.State.{State}
use Rattle.jt_tap.specs.declared.State.TheVariants.{Reset}
use Rattle.scan_vectors.specs.declared.part.Part.{Part}
use Rattle.scan_vectors.specs.Vector.{judge}
use Rattle.bitbang_protocol.specs.Cycles.{opening}
use Rattle.bitbang.specs.Steps.{Numbered, place_after}
use Rattle.bitbang.specs.StepMessages.{step_messages}
use Rattle.board_model.specs.Chain.{BoardState, hear}
use Rattle.board_model.specs.Whole.{AtRest}
use Rattle.play_model.specs.declared.ending.Ending.TheVariants.{Pass}
use Rattle.play_model.specs.Meaning.{after_step, failure, outcome}
use Rattle.play_model.specs.Play.{Turn, full_play, step_turns, turns, wants_of}
use Rattle.play_model.specs.PlayLaws.{WhatFollowsAFailureIsNotPlayed}
use Rattle.play_model.proofs.AllFailures.{decided}
use Rattle.play_model.proofs.Asks.{played_of}

-- the steps that follow, from some place on
followed : (place : State) (steps more : List Numbered) → (rest : List Turn) × (step_turns place (steps ++ more) ≡ step_turns place steps ++ rest)
followed place [] more = (step_turns place more, refl)
followed place (s ∷ ss) more =
    let later = followed (place_after place s.what) ss more in
    let turn : Turn = record { command = s.number; messages = step_messages place s.what; wants = wants_of s.what } in
    (later.0, ap (λ (ts : List Turn). turn ∷ ts) later.1)

turns-stop : (ts rest : List Turn) (b : BoardState) → (full_play ts b).ending ≢ Pass → full_play (ts ++ rest) b ≡ full_play ts b
turns-stop [] rest b fails = absurd (fails refl)
turns-stop (t ∷ ts) rest b fails = one (judge t.wants (hear t.messages b).answers) (turns-stop ts rest (hear t.messages b).board) fails
  where
    one : (found : Option (Part × ℕ))
        → ((full_play ts (hear t.messages b).board).ending ≢ Pass → full_play (ts ++ rest) (hear t.messages b).board ≡ full_play ts (hear t.messages b).board)
        → (played_of t ts (hear t.messages b) found).ending ≢ Pass
        → played_of t (ts ++ rest) (hear t.messages b) found ≡ played_of t ts (hear t.messages b) found
    one None later fails-later =
        let same = later fails-later in
        λ i. record {
          messages = t.messages ++ (same i).messages;
          answers = (hear t.messages b).answers ++ (same i).answers;
          ending = (same i).ending;
          board = (same i).board;
        }
    one (Some f) later fails-now = refl

steps-stop : (steps more : List Numbered) (m : AtRest) → (outcome steps m).ending ≢ Pass → outcome (steps ++ more) m ≡ outcome steps m
steps-stop [] more m fails = absurd (fails refl)
steps-stop (s ∷ ss) more m fails = one (failure s.what m) (steps-stop ss more (after_step s.what m)) fails
  where
    next : AtRest
    next = after_step s.what m

    one : (found : Option (Part × ℕ)) → ((outcome ss next).ending ≢ Pass → outcome (ss ++ more) next ≡ outcome ss next)
        → (decided s.number found (outcome ss next) next).ending ≢ Pass
        → decided s.number found (outcome (ss ++ more) next) next ≡ decided s.number found (outcome ss next) next
    one None later fails-later = later fails-later
    one (Some f) later fails-now = refl

pub not_played : WhatFollowsAFailureIsNotPlayed
not_played = record {
  played = λ steps more b fails.
      let later = followed Reset steps more in
      let first : Turn = record { command = 0; messages = opening; wants = [] } in
      ap (λ (ts : List Turn). full_play (first ∷ ts) b) later.1 ∙ turns-stop (turns steps) later.0 b fails;
  meant = steps-stop;
}
