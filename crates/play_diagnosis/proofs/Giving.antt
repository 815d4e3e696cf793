-- What a play found gives what a log says.
use Rattle.std.proofs.Common.{◌≡◌, ◌↔◌, Bool, sym, subst, ◌∙◌}
use Rattle.std.specs.Prelude.{IsTrue}
use Rattle.scan_vectors.specs.declared.failures.Mismatch.{Mismatch}
use Rattle.scan_vectors.specs.Failures.{Found}
use Rattle.svf_programs.specs.Steps.{Program}
use Rattle.board_model.specs.Chain.{BoardState}
use Rattle.play_model.specs.declared.ending.Ending.{Ending}
use Rattle.play_model.specs.declared.kind.Kind.TheVariants as kind
use Rattle.play_model.specs.Play.{play}
use Rattle.play_model.specs.Streams.{found_of}
use Rattle.play_direct.specs.ToTheEnd.{all_failures}
use Rattle.play_diagnosis.specs.Ended.{are_same, is_first, is_pass}
use Rattle.play_diagnosis.specs.Fitting.{Gives}
use Rattle.play_diagnosis.specs.Reading.{Verdict, Passes, Stops, PlaysOn}
use Rattle.play_diagnosis.proofs.Tests.{firsts, founds, passes}

module _ (program : Program) (b : BoardState) (said : Verdict) (answer : Bool) where
  pub gives_pass : (ending : Ending) → said ≡ Passes → ending ≡ (play program b).ending → answer ≡ is_pass ending → IsTrue answer ↔ Gives said program b
  gives_pass ending is ends tests =
      let so = passes ending in
      subst (λ (v : Verdict). IsTrue answer ↔ Gives v program b) (sym is)
      (λ holds. sym ends ∙ so.0 (sym tests ∙ holds), λ gives. tests ∙ so.1 (ends ∙ gives))

  pub gives_first : (m : Mismatch) (ending : Ending) → said ≡ Stops m → ending ≡ (play program b).ending → answer ≡ is_first m ending → IsTrue answer ↔ Gives said program b
  gives_first m ending is ends tests =
      let so = firsts m ending in
      subst (λ (v : Verdict). IsTrue answer ↔ Gives v program b) (sym is)
      (λ holds. sym ends ∙ so.0 (sym tests ∙ holds), λ gives. tests ∙ so.1 (ends ∙ gives))

  pub gives_all : (f found : Found) → said ≡ PlaysOn f → found ≡ found_of kind.PlaysOn (all_failures program b) → answer ≡ are_same found f → IsTrue answer ↔ Gives said program b
  gives_all f found is finds tests =
      let so = founds found f in
      subst (λ (v : Verdict). IsTrue answer ↔ Gives v program b) (sym is)
      (λ holds. sym finds ∙ so.0 (sym tests ∙ holds), λ gives. tests ∙ so.1 (finds ∙ gives))
