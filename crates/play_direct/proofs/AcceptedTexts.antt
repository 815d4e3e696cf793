-- What a text says, and then what its statements are, is which texts are accepted.
use Rattle.std.proofs.Common.{◌≡◌, ◌≢◌, ℕ, List, Result, Ok, Err, refl, sym, ap, subst, ◌∙◌, inl, inr, ◌⊎◌, ⊎_elim}
use Rattle.std.specs.Prelude.{IfOk, IfErr}
use Rattle.svf_words.specs.declared.fault.SvfFault.{SvfFault}
use Rattle.svf_parse.specs.Judging.{◌>>=◌, Said}
use Rattle.svf_parse.specs.Reading.{text_says}
use Rattle.svf_parse.specs.View.{memory_fault}
use Rattle.svf_parse.proofs.TextLaws.{text_found, text_again}
use Rattle.svf_parse.proofs.RefusalLaws.{no_long, text_refused, text_refused_again}
use Rattle.svf_programs.specs.Sizes.{Holding, program_of}
use Rattle.svf_programs.specs.Steps.{Program}
use Rattle.svf_settings.specs.Periods as periods
use Rattle.svf_settings.specs.Programs.{resolution, text_resolution}
use Rattle.svf_settings.specs.Reading.{Answers}
use Rattle.svf_settings.proofs.FirstRefusals.{refuses_is_function, resolves_is_function}
use Rattle.svf_settings.proofs.KeptTexts.{then_resolved}
use Rattle.play_direct.specs.Accepting.{Accepts, KeepsPeriodsOf, Refuses}

abbrev then_is : Result (List Said) SvfFault → Result Program SvfFault
then_is says = says >>= resolution

resolved_as : (text : List ℕ) (ss : List Said) (r : Result Program SvfFault) → text_says text ≡ Ok ss → resolution ss ≡ r → text_resolution text ≡ r
resolved_as text ss r says is = ap then_is says ∙ is

pub accepts_found : (text : List ℕ) (r : Result Holding SvfFault) → Answers r (text_resolution text) → IfOk r (λ p. Accepts text (program_of p))
accepts_found text (Ok p) e =
    let t = then_resolved (text_says text) (program_of p) e in
    (t.0, text_found text t.0 (no_long text t.0 t.1) t.1, (resolves_is_function t.0 (program_of p)).1 t.2)
accepts_found text (Err f) e = tt

pub accepts_only : (text : List ℕ) (r : Result Holding SvfFault) (p : Program) → Answers r (text_resolution text) → Accepts text p → Answers r (Ok p)
accepts_only text r p e (ss, spells, is) =
    subst (λ (s : Result Program SvfFault). Answers r s) (resolved_as text ss (Ok p) (text_again text ss spells) ((resolves_is_function ss p).0 is)) e

refused_by : (text : List ℕ) (f : SvfFault) (says : Result (List Said) SvfFault) → text_says text ≡ says → then_is says ≡ Err f → Refuses text f
refused_by text f (Ok ss) says e = inr (ss, text_found text ss (no_long text ss says) says, (refuses_is_function ss f).1 e)
refused_by text f (Err g) says e = let same : g ≡ f = cc in inl (text_refused text f (says ∙ ap Err same))

pub accepts_refused : (text : List ℕ) (r : Result Holding SvfFault) → Answers r (text_resolution text) → IfErr r (λ f. f ≢ memory_fault → Refuses text f)
accepts_refused text (Ok p) e = tt
accepts_refused text (Err f) e = λ other. refused_by text f (text_says text) refl (e other)

pub accepts_first : (text : List ℕ) (r : Result Holding SvfFault) (f : SvfFault) → Answers r (text_resolution text) → Refuses text f → Answers r (Err f)
accepts_first text r f e why =
    subst (λ (s : Result Program SvfFault). Answers r s)
    (⊎_elim (λ form. ap then_is (text_refused_again text f form))
    (λ (ss, spells, is). resolved_as text ss (Err f) (text_again text ss spells) ((refuses_is_function ss f).0 is)) why) e

pub accepts_periods : (text : List ℕ) (r : Result Holding SvfFault) → IfOk r (λ p. periods.KeepsPeriodsOf (text_says text) p.periods)
    → IfOk r (λ p. KeepsPeriodsOf text p.periods)
accepts_periods text (Ok p) keeps = λ ss spells. keeps ss (text_again text ss spells)
accepts_periods text (Err f) keeps = tt
