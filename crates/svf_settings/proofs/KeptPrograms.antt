-- What is answered, and the program that is kept.
use Rattle.std.proofs.Common.{◌≡◌, ◌≢◌, ℕ, List, [], ◌∷◌, map, length, reverse, take, min, refl, sym, ap, subst, ◌∙◌, Option, Some, None, Ok, Err, ◌+◌, ◌≤◌, arith, lit≤, length-append}
use Rattle.std.specs.Prelude.{Result, IfOk, IfErr}
use Rattle.std.proofs.lemmas.List.{length-map, length-reverse, length-take}
use Rattle.svf_words.specs.declared.fault.SvfFault.{SvfFault}
use Rattle.svf_parse.specs.Judging.{Said}
use Rattle.svf_parse.specs.View.{memory_fault}
use Rattle.svf_programs.specs.Steps.{Step, Numbered, Program}
use Rattle.svf_settings.specs.Programs.{Resolves, Refuses, resolution, first_refusal, unless, program, steps, step_made}
use Rattle.svf_programs.specs.Sound.{IsSound}
use Rattle.svf_settings.specs.Reading.{Answers}
use Rattle.svf_programs.specs.Sizes.{Holding, content, program_of}
use Rattle.svf_settings.specs.LookBack.{settings, step}
use Rattle.svf_parse.specs.Sizes.{size}
use Rattle.svf_parse.specs.Judging as said
use Rattle.std.specs.List.{sum_by}
use Rattle.std.proofs.lemmas.List.Sums.{sum_by-cons}
use Rattle.svf_settings.proofs.FirstRefusals.{before, resolves_is_function, refuses_is_function, accepted_is_sound}

pub answers_found : (all : List Said) (r : Result Holding SvfFault) → Answers r (resolution all) → IfOk r (λ p. Resolves all (program_of p))
answers_found all (Ok p) e = (resolves_is_function all (program_of p)).1 e
answers_found all (Err f) e = tt

pub answers_only : (all : List Said) (r : Result Holding SvfFault) (p : Program) → Answers r (resolution all) → Resolves all p → Answers r (Ok p)
answers_only all r p e h = subst (λ (s : Result Program SvfFault). Answers r s) ((resolves_is_function all p).0 h) e

pub answers_refused : (all : List Said) (r : Result Holding SvfFault) → Answers r (resolution all) → IfErr r (λ f. f ≢ memory_fault → Refuses all f)
answers_refused all (Ok p) e = tt
answers_refused all (Err f) e = λ n. (refuses_is_function all f).1 (e n)

pub answers_first : (all : List Said) (r : Result Holding SvfFault) (f : SvfFault) → Answers r (resolution all) → Refuses all f → Answers r (Err f)
answers_first all r f e h = subst (λ (s : Result Program SvfFault). Answers r s) ((refuses_is_function all f).0 h) e

pub answers_sound : (all : List Said) (r : Result Holding SvfFault) → Answers r (resolution all) → IfOk r (λ p. IsSound p.steps)
answers_sound all (Ok p) e = accepted_is_sound all (program_of p) ((resolves_is_function all (program_of p)).1 e)
answers_sound all (Err f) e = tt

pub resolved : {A : Type 0} (f : A → Said) (xs : List A) (kept : List Numbered) → first_refusal (reverse (map f xs)) ≡ None → kept ≡ steps (reverse (map f xs))
    → resolution (map f xs) ≡ Ok (record { statements = length xs; steps = kept })
resolved f xs kept none same =
    ap (λ o. unless o (program (map f xs))) none
    ∙ ap (λ n. Ok (record { statements = n; steps = steps (reverse (map f xs)) })) (length-map xs f)
    ∙ ap (λ k. Ok (record { statements = length xs; steps = k })) (sym same)

pub refused : (all : List Said) (f : SvfFault) → first_refusal (reverse all) ≡ Some f → resolution all ≡ Err f
refused all f e = ap (λ o. unless o (program all)) e

-- ---- how much is kept

one_step : (n : ℕ) (o : Option Step) → length (step_made n o) ≤ 1
one_step n None = lit≤ tt
one_step n (Some s) = lit≤ tt

pub few_steps : (past : List Said) → length (steps past) ≤ length past
few_steps [] = lit≤ tt
few_steps (s ∷ past) =
    let made = step_made (length past + 1) (step (settings past) s) in
    omega (arith, few_steps past, one_step (length past + 1) (step (settings past) s), length-append (steps past) made)

pub few_before : (all : List Said) (k : ℕ) → length (steps (before k all)) ≤ k
few_before all k = omega (arith, few_steps (before k all), length-reverse (take k all), length-take k all)

sized : (s : Said) → size s ≡ 1 + content s
sized (said.end_dr s) = refl
sized (said.end_ir s) = refl
sized (said.frequency p) = refl
sized (said.scan which n tdi tdo mask smask) = refl
sized (said.run_test run count min max end) = refl
sized (said.states path) = refl
sized (said.trst w) = refl

pub sizes : (all : List Said) → sum_by size all ≡ length all + sum_by content all
sizes [] = refl
sizes (s ∷ all) = omega (arith, sum_by-cons size s all, sum_by-cons content s all, sized s, sizes all)

pub answers_small : (all : List Said) (r : Result Holding SvfFault) → Answers r (resolution all) → IfOk r (λ p. p.held ≡ sum_by content all)
    → IfOk r (λ p. length p.steps + p.held ≤ sum_by size all)
answers_small all (Ok p) e h =
    let is = ap (λ (q : Program). length q.steps) ((resolves_is_function all (program_of p)).1 e).1 in
    omega (arith, is, few_steps (reverse all), length-reverse all, sizes all, h)
answers_small all (Err f) e h = tt
