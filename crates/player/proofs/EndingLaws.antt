-- What a player tells of its play.
use Rattle.std.proofs.Common.{◌≡◌, ◌⊎◌, Bool, true, false, ℕ, zero, suc, ◌+◌, ◌<◌, List, [], ◌∷◌, length, take, drop, refl, sym, ap, ◌∙◌, arith, inl, inr, Some, None}
use Rattle.std.proofs.Math.Seq.{take-append-add}
use Rattle.std.specs.Prelude.{◌||◌, is_some, slice_get, if◌then◌else◌}
use Rattle.jt_tap.specs.declared.State.TheVariants.{Reset}
use Rattle.bitbang_protocol.specs.declared.Message.TheVariants.{Quit}
use Rattle.bitbang.specs.StepMessages.{step_messages}
use Rattle.bitbang.specs.declared.step_bytes.Spot.{Spot}
use Rattle.svf_programs.specs.Steps.{Numbered, Program, place_after}
use Rattle.play_model.specs.declared.ending.Ending.TheVariants.{BadAnswer}
use Rattle.play_model.specs.Play.{Turn, step_turns, turns, wants_of}
use Rattle.play_model.specs.PlayingOn.{ending_of}
use Rattle.play_model.specs.Streams as stream
use Rattle.play_model.proofs.Quits.{has_quit, quit-append, turns-no-quit}
use Rattle.player.specs.declared.progress.Phase.{Phase}
use Rattle.player.specs.declared.progress.Phase.TheVariants.{Opening, Within, Over}
use Rattle.player.specs.declared.progress.Progress.{Progress}
use Rattle.player.specs.Progress.{IsOver, IsProgressOf, gone, is_out, first_step_length, rest_of, standing_at, state_of}
use Rattle.bitbang_protocol.specs.Protocol.{value}
use Rattle.player.specs.PlaceInPlay.{finding_of}
use Rattle.player.proofs.Ahead.{ahead}
use Rattle.player.proofs.Ends.{command-here, ends, quits, quits-behind, works-in, works-past-all, works-stopped}
use Rattle.player.proofs.TurnPlaces.{no-quit, quit-of, reached}
use Rattle.player.proofs.Pieced.{fair-end, first, gone-end, is-over, opened, start, stops-is, turns-end}
use Rattle.player.proofs.Steps.{cut, same-first}
use Rattle.player.proofs.PlayerPlaces.{gone-is, in-opening, in-step, is-in, later, no-elements, opens, turn, within}

module _ (program : Program) (p : Progress) (out : Bool) (is : p.phase ≡ Over out) (stands : IsProgressOf program.steps p) where
  one-out : has_quit (take (value out) (Quit ∷ [])) ≡ out
  one-out = by out
    where
      by : (b : Bool) → has_quit (take (value b) (Quit ∷ [])) ≡ b
      by true = refl
      by false = refl

  quit-out : has_quit (take (gone (drop p.at program.steps) p) (ahead program (standing_at program.steps p) (fair-end program p out is stands))) ≡ out
  quit-out = by p.stopped refl
    where
      i : IsOver (drop p.at program.steps) p
      i = is-over program p out is stands

      by : (b : Bool) → p.stopped ≡ b
          → has_quit (take (gone (drop p.at program.steps) p) (ahead program (standing_at program.steps p) (fair-end program p out is stands))) ≡ out
      by false e =
          let none = i.passed e in
          let nothing = turns-end program p out is stands ∙ ap (step_turns p.place) none.0 in
          let g : gone (drop p.at program.steps) p ≡ value out =
          gone-end program p out is stands ∙ ap (λ (l : List Numbered). first_step_length p.place l + value out) none.0 ∙ omega arith in
          (λ k. has_quit (take (g k) (quits program (standing_at program.steps p) (fair-end program p out is stands) nothing k))) ∙ one-out
      by true e =
          let some = i.stopped e in
          let ms = step_messages p.place some.0.what in
          let t : Turn = record { command = some.0.number; messages = ms; wants = wants_of some.0.what } in
          let rest = step_turns (place_after p.place some.0.what) some.1 in
          let here = turns-end program p out is stands ∙ ap (step_turns p.place) some.2 in
          let g : gone (drop p.at program.steps) p ≡ length ms + value out =
          gone-end program p out is stands ∙ ap (λ (l : List Numbered). first_step_length p.place l + value out) some.2 in
          (λ k. has_quit (take (g k) (quits-behind program (standing_at program.steps p) (fair-end program p out is stands) t rest here some.3
          (stops-is program p out is stands true e) k)))
          ∙ ap has_quit (take-append-add ms (Quit ∷ []) (value out))
          ∙ quit-append ms (take (value out) (Quit ∷ []))
          ∙ (λ k. quit-of _ (turns program.steps) (turns-no-quit program.steps) t rest here k || one-out k)

  pub works-over : stream.working (state_of program p) ≡ suc program.statements
  works-over = by p.stopped refl
    where
      i : IsOver (drop p.at program.steps) p
      i = is-over program p out is stands

      by : (b : Bool) → p.stopped ≡ b → stream.working (state_of program p) ≡ suc program.statements
      by false e =
          works-past-all program (standing_at program.steps p) (fair-end program p out is stands)
          (turns-end program p out is stands ∙ ap (step_turns p.place) (i.passed e).0)
      by true e =
          let some = i.stopped e in
          let ms = step_messages p.place some.0.what in
          let t : Turn = record { command = some.0.number; messages = ms; wants = wants_of some.0.what } in
          works-stopped program (standing_at program.steps p) (fair-end program p out is stands) t (step_turns (place_after p.place some.0.what) some.1)
          (turns-end program p out is stands ∙ ap (step_turns p.place) some.2)
          (omega (arith, gone-end program p out is stands, ap (first_step_length p.place) some.2)) some.3 (stops-is program p out is stands true e)

-- how it ends where no answer was bad
pub ended-good : (program : Program) (p : Progress) → IsProgressOf program.steps p → p.bad ≡ None → stream.ending_of_stream 256 (state_of program p)
    ≡ (if is_out p.phase then Some (ending_of (finding_of p.stopped).list) else None)
ended-good program p stands good = by p.phase refl
  where
    by : (phase : Phase) → p.phase ≡ phase → stream.ending_of_stream 256 (state_of program p) ≡ (if is_out phase then Some (ending_of (finding_of p.stopped).list) else None)
    by (Opening n) is =
        let s = start program p n is stands in
        let i = opened program p n is stands in
        ap (stream.ending_of_stream 256) (opens program p n is stands)
        ∙ ends program s i.fair refl
        ∙ ap (λ (b : Bool). if b then Some (ending_of (finding_of s.stopped).list) else None) (no-quit program s (first program p n is stands) (step_turns Reset program.steps) 0 i)
    by (Within spot) is =
        let s = standing_at program.steps p in
        let i = is-in program p spot is stands in
        ends program s i.fair good
        ∙ ap (λ (b : Bool). if b then Some (ending_of (finding_of s.stopped).list) else None)
        (no-quit program s (turn program p spot is stands) (later program p spot is stands) p.owed i)
    by (Over out) is =
        let s = standing_at program.steps p in
        ends program s (fair-end program p out is stands) good
        ∙ ap (λ (b : Bool). if b then Some (ending_of (finding_of s.stopped).list) else None) (quit-out program p out is stands)

-- the step at work
module _ (program : Program) (p : Progress) (spot : Spot) (is : p.phase ≡ Within spot) (stands : IsProgressOf program.steps p) (s : Numbered)
    (first_is : slice_get program.steps p.at ≡ Some s) where
  same : s ≡ (in-step program p spot is stands).step
  same = same-first (drop p.at program.steps) s _ (drop (suc p.at) program.steps) (in-step program p spot is stands).later
      (cut program.steps p.at s first_is) (in-step program p spot is stands).is

  some-owed : 0 < p.owed → p.heard < length (turn program p spot is stands).wants
  some-owed some = omega (
    arith,
    some,
    reached program (standing_at program.steps p) (turn program p spot is stands) (later program p spot is stands) p.owed (is-in program p spot is stands),
  )

  pub works-within : (rest_of p.place (drop p.at program.steps) spot ≡ [] → 0 < p.owed) → stream.working (state_of program p) ≡ s.number
  works-within ready =
      works-in program (standing_at program.steps p) (is-in program p spot is stands).fair (turn program p spot is stands) (later program p spot is stands)
      (is-in program p spot is stands).here (by (length (rest_of p.place (drop p.at program.steps) spot)) refl)
      ∙ ap (λ (x : Numbered). x.number) (sym same)
    where
      by : (n : ℕ) → length (rest_of p.place (drop p.at program.steps) spot) ≡ n
          → (gone (drop p.at program.steps) p < length (turn program p spot is stands).messages) ⊎ (p.heard < length (turn program p spot is stands).wants)
      by zero e = inr (some-owed (ready (no-elements (rest_of p.place (drop p.at program.steps) spot) e)))
      by (suc n) e = inl (omega (arith, e, gone-is program p spot is stands, within program p spot is stands))

  pub bad-within : (byte : ℕ) → p.bad ≡ Some byte → stream.ending_of_stream 256 (state_of program p) ≡ Some (BadAnswer s.number byte)
  bad-within byte e =
      let some : 0 < p.owed = (in-step program p spot is stands).bad (ap is_some e) in
      (λ k. elim (e k) [
        | Some b ↦ Some (BadAnswer (command-here program (standing_at program.steps p) (turn program p spot is stands) (later program p spot is stands)
            (is-in program p spot is stands).here (some-owed some) k) b)
        | None ↦ stream.ending_of_stream 256 (record (state_of program p) { bad = None })
      ]) ∙ ap (λ (x : Numbered). Some (BadAnswer x.number byte)) (sym same)

pub ended-bad : (program : Program) (p : Progress) → IsProgressOf program.steps p → (s : Numbered) → slice_get program.steps p.at ≡ Some s → (byte : ℕ)
    → p.bad ≡ Some byte → stream.ending_of_stream 256 (state_of program p) ≡ Some (BadAnswer s.number byte)
ended-bad program p stands s first_is byte e = by p.phase refl
  where
    by : (phase : Phase) → p.phase ≡ phase → stream.ending_of_stream 256 (state_of program p) ≡ Some (BadAnswer s.number byte)
    by (Opening n) is = let clash : None ≡ Some byte = sym (in-opening program p n is stands).bad ∙ e in absurd (cc)
    by (Within spot) is = bad-within program p spot is stands s first_is byte e
    by (Over out) is = let clash : None ≡ Some byte = sym (is-over program p out is stands).bad ∙ e in absurd (cc)
