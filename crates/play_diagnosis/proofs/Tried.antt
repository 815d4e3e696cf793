-- Ways and faults that are tried, one after another.
use Rattle.std.proofs.Common.{◌≡◌, ◌↔◌, Bool, List, ℕ, [], ◌∷◌, ◌++◌, refl, sym, ap, subst, ◌∙◌, append_assoc}
use Rattle.std.specs.Prelude.{IsTrue}
use Rattle.std.proofs.lemmas.List.{append-nil}
use Rattle.svf_programs.specs.Steps.{Program}
use Rattle.board_plan.specs.Planned.{Wiring}
use Rattle.board_faults.specs.declared.kinds.Fault.{Fault}
use Rattle.board_faults.specs.declared.kinds.Way.{Way}
use Rattle.play_diagnosis.specs.declared.fitting.TriedWay.{TriedWay}
use Rattle.play_diagnosis.specs.Diagnosis.{TellsFault, TellsFaults}
use Rattle.play_diagnosis.specs.Fitting.{Fits, TriesEach}
use Rattle.play_diagnosis.specs.Reading.{Verdict}

module _ (said : Verdict) (program : Program) (w : Wiring) where
  pub tries_more : (before : List Way) (ts : List TriedWay) (way : Way) (fits : Bool) → TriesEach said program w before ts
      → (IsTrue fits ↔ Fits said program w way) → TriesEach said program w (before ++ way ∷ []) (ts ++ record { way = way; fits = fits } ∷ [])
  tries_more [] [] way fits all is = (refl, is, tt)
  tries_more [] (t ∷ ts) way fits all is = absurd all
  tries_more (v ∷ before) [] way fits all is = absurd all
  tries_more (v ∷ before) (t ∷ ts) way fits all is = (all.0, all.1, tries_more before ts way fits all.2 is)

  pub tells_more : (faults : List Fault) (told : List ℕ) (fault : Fault) (line : List ℕ) → TellsFaults said program w faults told
      → TellsFault said program w fault line → TellsFaults said program w (faults ++ fault ∷ []) (told ++ line)
  tells_more [] told fault line none is = (line, is, ([], refl, ap (λ (l : List ℕ). l ++ line) none ∙ sym (append-nil line)))
  tells_more (f ∷ faults) told fault line all is =
      let rest = all.2.0 in
      (all.0, all.1, (rest ++ line, tells_more faults rest fault line all.2.1 is, ap (λ (l : List ℕ). l ++ line) all.2.2 ∙ append_assoc all.0 rest line))

  pub tells_join : (faults more : List Fault) (told line : List ℕ) → TellsFaults said program w faults told → TellsFaults said program w more line
      → TellsFaults said program w (faults ++ more) (told ++ line)
  tells_join [] more told line none is = subst (λ (l : List ℕ). TellsFaults said program w more (l ++ line)) (sym none) is
  tells_join (f ∷ faults) more told line all is =
      let rest = all.2.0 in
      (all.0, all.1, (rest ++ line, tells_join faults more rest line all.2.1 is, ap (λ (l : List ℕ). l ++ line) all.2.2 ∙ append_assoc all.0 rest line))
