-- A program played on whole registers, step after step, and its full play.
use Rattle.std.proofs.Common.{◌≡◌, true, ℕ, ◌<◌, ◌≤◌, List, ◌∷◌, ◌++◌, Some, None, length, refl, sym, ap, ◌∙◌, subst, arith}
use Rattle.std.proofs.lemmas.List.{length-take}
use Rattle.bitbang.specs.StepMessages.{step_bytes}
use Rattle.bitbang_protocol.specs.Cycles.{opening}
use Rattle.scan_vectors.specs.declared.failures.Mismatch.{Mismatch}
use Rattle.scan_vectors.specs.declared.part.Part.{Part}
use Rattle.scan_vectors.specs.Failures.{Found, most_listed, none_found, with_found}
use Rattle.scan_vectors.specs.Vector.{judge}
use Rattle.scan_vectors.proofs.Listing.{found-twice}
use Rattle.svf_programs.specs.Legal.{IsLegalProgram}
use Rattle.svf_programs.specs.Steps.{Numbered, Program}
use Rattle.board_model.specs.Chain.{BoardState, hear}
use Rattle.board_model.specs.Resting.{IsAtRest, IsRest, board_at_rest}
use Rattle.board_model.specs.Sound.{AllSound, HasDevice, IsSoundBoard}
use Rattle.board_model.specs.Whole.{AtRest}
use Rattle.board_model.proofs.BytesAndMessages.{after_all-encoded}
use Rattle.board_model.proofs.SoundEdges.{count-bytes}
use Rattle.play_model.specs.declared.kind.Kind.{Kind}
use Rattle.play_model.specs.declared.kind.Kind.TheVariants.{PlaysOn, Stops}
use Rattle.play_model.specs.declared.ending.Ending.{Ending}
use Rattle.play_model.specs.declared.ending.Ending.TheVariants.{Fail}
use Rattle.play_model.specs.DirectPlay.{MeansFromOpening, opened_state}
use Rattle.play_model.specs.Legal.{AllLegal}
use Rattle.play_model.specs.LegalPlays.{IsOpened}
use Rattle.play_model.specs.Meaning.{after_step, failure}
use Rattle.play_model.specs.Play.{Played, full_play, play, wants_of}
use Rattle.play_model.specs.PlayingOn.{ending_of, outcome_of_all, step_failures}
use Rattle.play_model.specs.Streams.{found_of, stops_for}
use Rattle.play_model.proofs.DescribedPlays as Described
use Rattle.play_model.proofs.Direct.{IsPlayed, judged-of}
use Rattle.play_model.proofs.Legality.{legal-from}
use Rattle.play_model.proofs.AfterOpening.{opened-is-reset}
use Rattle.play_model.proofs.Programs.{opened-count, program_means}
use Rattle.play_model.proofs.StepLaws.{IsDone, step-done}
use Rattle.play_model.specs.AllFailures.{MeansAllFromOpening}
use Rattle.play_model.specs.ScheduleLaws.{full}
use Rattle.play_model.proofs.AllFailures.{first_of_all_played}
use Rattle.play_model.proofs.AllMeaning.{plays_all}
use Rattle.play_direct.specs.ToTheEnd.{all_failures}
use Rattle.play_direct.proofs.Failing.{ending-kept, failed, kept-all, loud, stopped}
use Rattle.play_direct.proofs.Turns.{GoesOn, fails, heard-of, opening_bytes, opens, over, passes, turns_from}

-- ---- where the opening leaves a board

pub opened : (b : BoardState) → IsSoundBoard b → HasDevice b → IsOpened b (opened_state b)
opened b sound some = (program_means b sound some).0

all_legal : (b : BoardState) (steps : List Numbered) → IsLegalProgram steps → AllLegal steps (opened_state b)
all_legal b steps legal = legal-from steps (opened_state b) refl legal

-- the opening comes first, and leaves the board there
pub goes_from_opening : (kind : Kind) (steps : List Numbered) (b : BoardState) → IsAtRest (hear opening b).board (opened_state b)
    → GoesOn (full kind steps b) (full_play (turns_from kind (opened_state b).place steps) (board_at_rest (opened_state b))) opening_bytes
goes_from_opening kind steps b is =
    subst (λ (x : BoardState). GoesOn (full kind steps b) (full_play (turns_from kind (opened_state b).place steps) x) opening_bytes) is
    (opens kind steps b)

-- ---- a program means what its full play comes to

-- what ends as the full play does means what the program means
pub played_so : (program : Program) (b : BoardState) → IsSoundBoard b → HasDevice b → IsLegalProgram program.steps
    → (ending : Ending) (after : BoardState)
    → ending ≡ (play program b).ending → after ≡ (play program b).board → MeansFromOpening program b ending after
played_so program b sound some legal ending after same-ending same-board =
    subst (λ (e : Ending). MeansFromOpening program b e after) (sym same-ending)
    (subst (λ (a : BoardState). MeansFromOpening program b (play program b).ending a) (sym same-board)
    (Described.means_from_opening program b sound some legal))

-- and so of a play to the end
pub played_all : (program : Program) (b : BoardState) → IsSoundBoard b → HasDevice b → IsLegalProgram program.steps
    → (after : BoardState) → after ≡ (full PlaysOn program.steps b).board → MeansAllFromOpening program.steps b (all_failures program b) after
played_all program b sound some legal after same =
    subst (λ (a : BoardState). MeansAllFromOpening program.steps b (all_failures program b) a) (sym same) (plays_all program.steps b sound some legal)

-- what fails in a play to the end is what fails over whole registers, from the state after the opening on
pub meant_all : (program : Program) (b : BoardState) → IsSoundBoard b → HasDevice b → IsLegalProgram program.steps
    → (outcome_of_all program.steps (opened_state b)).failures ≡ all_failures program b
meant_all program b sound some legal =
    let all = plays_all program.steps b sound some legal in
    let there : HasDevice (hear opening b).board =
    subst (λ (x : BoardState). 0 < length x.chips) (after_all-encoded opening b) (subst (λ (n : ℕ). 0 < n) (sym (count-bytes opening_bytes b)) some) in
    ap (λ (m : AtRest). (outcome_of_all program.steps m).failures) (Described.one_state (hear opening b).board (opened_state b) all.opened there (opened b sound some).board all.rests)
    ∙ sym all.failures

module _ (program : Program) (b : BoardState) (sound : IsSoundBoard b) (some : HasDevice b) (legal : IsLegalProgram program.steps) (now : Found)
    (noted : now ≡ with_found (outcome_of_all program.steps (opened_state b)).failures none_found) where
  pub kept_all : now ≡ found_of PlaysOn (all_failures program b)
  kept_all = noted ∙ ap (λ (l : List Mismatch). with_found l none_found) (meant_all program b sound some legal) ∙ kept-all (all_failures program b)

  pub kept_first : ending_of now.list ≡ (play program b).ending
  kept_first = ap (λ (f : Found). ending_of f.list) kept_all ∙ ending-kept (all_failures program b) ∙ first_of_all_played program.steps b

-- ---- one step after another, from where the board rests

-- these steps may be played from here
pub record CanPlay (ss : List Numbered) (m : AtRest) : Type 0 where
  pub rest : IsRest m
  pub sound : AllSound m.members
  pub some : 0 < length m.members
  pub legal : AllLegal ss m

pub can_open : (b : BoardState) (steps : List Numbered) → IsSoundBoard b → HasDevice b → IsLegalProgram steps
    → CanPlay steps (opened_state b)
can_open b steps sound some legal =
    let is = opened b sound some in
    record {
      rest = is.rest;
      sound = is.sound;
      some = subst (λ (m : AtRest). 0 < length m.members) (opened-is-reset b)
          (subst (λ (n : ℕ). 0 < n) (sym (opened-count b)) some);
      legal = all_legal b steps legal;
    }

-- no more are listed than there is room for
pub listed_few : (fs : List Mismatch) (old new : Found) → new ≡ with_found fs old → length new.list ≤ most_listed
listed_few fs old new is = omega (arith, ap (λ (f : Found). length f.list) is, length-take most_listed (old.list ++ fs))

-- what a step adds, and then what the others add
pub noted_more : (s : Numbered) (ss : List Numbered) (m : AtRest) (old new all : Found) → with_found (outcome_of_all (s ∷ ss) m).failures old ≡ all
    → new ≡ with_found (step_failures s m) old → with_found (outcome_of_all ss (after_step s.what m)).failures new ≡ all
noted_more s ss m old new all so_far is =
    let rest = (outcome_of_all ss (after_step s.what m)).failures in
    ap (with_found rest) is ∙ found-twice (step_failures s m) rest old ∙ so_far

module _ (s : Numbered) (ss : List Numbered) (m : AtRest) (can : CanPlay (s ∷ ss) m) where
  done : IsDone s.what m
  done = step-done s.what m.place m.trst m.nets m.members can.rest can.sound can.some can.legal.0

  played : IsPlayed s.what m done.answers
  played = done.played

  pub can_play_on : CanPlay ss (after_step s.what m)
  can_play_on = record {
    rest = done.rest;
    sound = done.sound;
    some = subst (λ (n : ℕ). 0 < n) (sym done.count) can.some;
    legal = can.legal.1;
  }

  judged-is : judge (wants_of s.what) (heard-of m.place s (board_at_rest m)).answers ≡ failure s.what m
  judged-is = ap (λ h. judge (wants_of s.what) h.answers) played.heard ∙ judged-of s.what m done.answers played.said

  -- a step that the play does not stop for
  pub goes_past : (kind : Kind) (whole : Played) (sent : List ℕ) → (kind ≡ Stops → failure s.what m ≡ None)
      → GoesOn whole (full_play (turns_from kind m.place (s ∷ ss)) (board_at_rest m)) sent
      → GoesOn whole (full_play (turns_from kind (after_step s.what m).place ss) (board_at_rest (after_step s.what m))) (sent ++ step_bytes m.place s.what)
  goes_past kind whole sent none g =
      subst (λ (p : Played). GoesOn whole p (sent ++ step_bytes m.place s.what))
      (λ i. full_play (turns_from kind (sym played.place i) ss) (played.heard i).board)
      (passes m.place s ss (board_at_rest m) whole sent kind (λ e. judged-is ∙ none e) g)

  -- the step that it stops for
  pub goes_until : (whole : Played) (sent : List ℕ) (f : Part × ℕ) → failure s.what m ≡ Some f
      → GoesOn whole (full_play (turns_from Stops m.place (s ∷ ss)) (board_at_rest m)) sent
      → GoesOn whole (over (Fail s.number f.0 f.1) (board_at_rest (after_step s.what m))) (sent ++ step_bytes m.place s.what)
  goes_until whole sent f some g =
      subst (λ (x : BoardState). GoesOn whole (over (Fail s.number f.0 f.1) x) (sent ++ step_bytes m.place s.what)) (ap (λ h. h.board) played.heard)
      (fails m.place s ss (board_at_rest m) whole sent f (judged-is ∙ some) g)

  -- where it stops, it is over, and ends by the first that was noted
  pub record Stopped (whole : Played) (sent : List ℕ) (new : Found) : Type 0 where
    pub ending : Ending
    pub goes : GoesOn whole (over ending (board_at_rest (after_step s.what m))) (sent ++ step_bytes m.place s.what)
    pub first : ending_of new.list ≡ ending

  pub stops_here : (kind : Kind) (whole : Played) (sent : List ℕ) (old new : Found) → new ≡ with_found (step_failures s m) old
      → stops_for kind new.list ≡ true → (kind ≡ Stops → old ≡ none_found)
      → GoesOn whole (full_play (turns_from kind m.place (s ∷ ss)) (board_at_rest m)) sent → Stopped whole sent new
  stops_here kind whole sent old new is stops none g =
      let stop = stopped (step_failures s m) old new is kind none stops in
      let f = failed s m (loud (step_failures s m) old new is kind none stops) in
      record {
        ending = Fail s.number f.0.0 f.0.1;
        goes = goes_until whole sent f.0 f.1 (subst (λ (k : Kind). GoesOn whole (full_play (turns_from k m.place (s ∷ ss)) (board_at_rest m)) sent) stop g);
        first = ap (λ (f : Found). ending_of f.list) is ∙ ap (λ (f : Found). ending_of (with_found (step_failures s m) f).list) (none stop)
            ∙ ending-kept (step_failures s m) ∙ f.2;
      }
