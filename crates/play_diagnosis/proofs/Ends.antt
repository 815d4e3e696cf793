-- What the ending of a play tells of whether it gives what a log says.
use Rattle.std.proofs.Common.{◌≡◌, ◌↔◌, ℕ, Bool, true, false, List, [], ◌∷◌, take, map, Option, Some, None, refl, sym, ap, subst, ◌∙◌}
use Rattle.std.specs.Prelude.{IsTrue}
use Rattle.std.proofs.lemmas.Option.{same_Some}
use Rattle.scan_vectors.specs.declared.failures.Mismatch.{Mismatch}
use Rattle.scan_vectors.specs.declared.part.Part.{Part}
use Rattle.scan_vectors.specs.declared.part.Part.TheVariants.{Header, Data, Trailer}
use Rattle.scan_vectors.specs.Failures.{Found}
use Rattle.svf_programs.specs.Steps.{Program}
use Rattle.board_model.specs.Chain.{BoardState}
use Rattle.play_model.specs.declared.ending.Ending.{Ending}
use Rattle.play_model.specs.declared.ending.Ending.TheVariants.{Pass, Fail, Lost, BadAnswer}
use Rattle.play_model.specs.declared.kind.Kind.TheVariants as kind
use Rattle.play_model.specs.Play.{play}
use Rattle.play_model.specs.PlayingOn.{ending_of}
use Rattle.play_model.specs.Streams.{found_of}
use Rattle.play_model.proofs.AllFailures.{first_of_all_played}
use Rattle.play_direct.specs.ToTheEnd.{all_failures}
use Rattle.play_diagnosis.specs.Ended.{by_ending, by_first, is_first, is_pass}
use Rattle.play_diagnosis.specs.Fitting.{Gives}
use Rattle.play_diagnosis.specs.Reading.{Verdict, Passes, Stops, PlaysOn}

-- of a list of failures of which the first ones begin so, the first is this
first-of : (all : List Mismatch) (m : Mismatch) (ms : List Mismatch) → take 256 all ≡ m ∷ ms → ending_of all ≡ Fail m.command m.part m.bit
first-of [] m ms e = absurd cc
first-of (a ∷ more) m ms e = ap (λ (x : Mismatch). Fail x.command x.part x.bit) (head-is a m (take 255 more) ms e)
  where
    head-is : (a b : Mismatch) (us vs : List Mismatch) → a ∷ us ≡ b ∷ vs → a ≡ b
    head-is a b us vs e = cc

-- a play that gives all these bits ends with the first of them
pub all_begin : (program : Program) (b : BoardState) (f : Found) (m : Mismatch) (ms : List Mismatch) → f.list ≡ m ∷ ms → Gives (PlaysOn f) program b
    → (play program b).ending ≡ Fail m.command m.part m.bit
all_begin program b f m ms begins gives =
    sym (first_of_all_played program.steps b) ∙ first-of (all_failures program b) m ms (ap (λ (x : Found). x.list) gives ∙ begins)

module _ (program : Program) (b : BoardState) (ending : Ending) (is : ending ≡ (play program b).ending)
    (passes : (e : Ending) → IsTrue (is_pass e) ↔ (e ≡ Pass))
    (firsts : (m : Mismatch) (e : Ending) → IsTrue (is_first m e) ↔ (e ≡ Fail m.command m.part m.bit)) where
  by-list : (f : Found) (list : List Mismatch) (told : Bool) → f.list ≡ list → by_first list ending ≡ Some told → IsTrue told ↔ Gives (PlaysOn f) program b
  by-list f [] told e tells = absurd cc
  by-list f (m ∷ ms) told e tells = apart (is_first m ending) refl tells
    where
      apart : (first : Bool) → is_first m ending ≡ first → (elim first [ true ↦ None | false ↦ Some false ]) ≡ Some told → IsTrue told ↔ Gives (PlaysOn f) program b
      apart true h t = absurd cc
      apart false h t =
          (λ holds. absurd cc, λ gives. absurd (differ h ((firsts m ending).1 (is ∙ all_begin program b f m ms e gives))))
        where
          differ : is_first m ending ≡ false → is_first m ending ≡ true → ⊥
          differ fails holds = absurd cc

  pub ended_so : (said : Verdict) (told : Bool) → by_ending said ending ≡ Some told → IsTrue told ↔ Gives said program b
  ended_so Passes told tells =
      let same = same_Some (is_pass ending) told tells in
      (λ holds. sym is ∙ (passes ending).0 (same ∙ holds), λ gives. sym same ∙ (passes ending).1 (is ∙ gives))
  ended_so (Stops m) told tells =
      let same = same_Some (is_first m ending) told tells in
      (λ holds. sym is ∙ (firsts m ending).0 (same ∙ holds), λ gives. sym same ∙ (firsts m ending).1 (is ∙ gives))
  ended_so (PlaysOn f) told tells = by-list f f.list told refl tells
