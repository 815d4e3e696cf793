-- Marks that are spread along strings, and how many nets have none.
use Rattle.std.proofs.Common.{◌≡◌, ◌<◌, ◌≤◌, ◌+◌, ℕ, zero, suc, Bool, true, false, true≢false, cond, not, ◌&&◌, List, [], ◌∷◌, length, set, replicate, slice_get, Some, MatchBool, refl, sym, ap, subst, ◌∙◌, inl, inr, arith}
use Rattle.std.proofs.lemmas.Bool.{and_parts, cases_eq, false_from_ne_true, false≢true, not-true}
use Rattle.std.proofs.lemmas.List.{get_or-set_same, get_or-set_other}
use Rattle.std.proofs.lemmas.List.Sums.{sum_by-cons, sum_by-set}
use Rattle.board_loops.specs.Loops.{DependsOn, HasNoLoop, HasString, InSteps, IsWithin}
use Rattle.board_loops.specs.Marks.{AreDependents, IsClosed, IsCount, IsGrownBy, is_marked, is_open, unmarked}
use Rattle.board_loops.specs.declared.net_loops.Dependency.{Dependency}
use Rattle.board_loops.proofs.LoopLaws.{all_at, one_step_more}

-- ---- one string

pub open_source : (marks : List Bool) (string : Dependency) → is_open marks string ≡ true → is_marked marks string.source ≡ true
open_source marks string alone = (and_parts (is_marked marks string.source) (not (is_marked marks string.target)) alone).0

pub open_target : (marks : List Bool) (string : Dependency) → is_open marks string ≡ true → is_marked marks string.target ≡ false
open_target marks string alone = not-true (is_marked marks string.target) (and_parts (is_marked marks string.source) (not (is_marked marks string.target)) alone).1

follows : (a b : Bool) → (a && not b) ≡ false → a ≡ true → b ≡ true
follows true true shut on = refl
follows true false shut on = absurd (true≢false shut)
follows false b shut on = absurd (false≢true on)

-- ---- marks that grow

pub grown_none : (strings : List Dependency) (marks : List Bool) → IsGrownBy strings marks marks
grown_none strings marks = record { kept = λ n on. on; only = λ net only. only }

pub grown_more : (strings : List Dependency) (a b c : List Bool) → IsGrownBy strings a b → IsGrownBy strings b c → IsGrownBy strings a c
grown_more strings a b c first second = record {
  kept = λ n on. second.kept n (first.kept n on);
  only = λ net only. second.only net (first.only net only);
}

-- the target's net of a string is marked, since its source's is
pub grown_along : (strings : List Dependency) (string : Dependency) (old new : List Bool) → HasString strings string.target string.source → is_open old string ≡ true → new ≡ set old string.target true
    → IsGrownBy strings old new
grown_along strings string old new there alone is = record {
  kept = λ n on. elim (cases_eq n string.target) [
    | inl same ↦ absurd (false≢true (sym (open_target old string alone) ∙ ap (is_marked old) (sym same) ∙ on))
    | inr other ↦ others n other ∙ on
  ];
  only = λ net only n on. elim (cases_eq n string.target) [
    | inl same ↦
        let back : DependsOn strings string.source net = only string.source (open_source old string alone) in
        let here : HasString strings n string.source = subst (λ (t : ℕ). HasString strings t string.source) (sym same) there in
        (suc back.0, (string.source, here, back.1))
    | inr other ↦ only n (sym (others n other) ∙ on)
  ];
}
  where
    others : (n : ℕ) → (n ≡ string.target → ⊥) → is_marked new n ≡ is_marked old n
    others n other = ap (λ (marks : List Bool). is_marked marks n) is ∙ get_or-set_other old string.target n true false other

-- ---- exactly those that depend on a net

marked_in_steps : (strings : List Dependency) (marks : List Bool) (net : ℕ) → IsClosed strings marks → is_marked marks net ≡ true → (n first : ℕ) → InSteps strings n first net
    → is_marked marks first ≡ true
marked_in_steps strings marks net closed on zero first path = ap (is_marked marks) path ∙ on
marked_in_steps strings marks net closed on (suc n) first path =
    let string : Dependency = record { target = first; source = path.0 } in
    let shut : is_open marks string ≡ false = all_at (λ (s : Dependency). is_open marks s ≡ false) strings closed path.1.0 string path.1.1 in
    follows (is_marked marks path.0) (is_marked marks first) shut (marked_in_steps strings marks net closed on n path.0 path.2)

pub exactly_dependents : (strings : List Dependency) (net : ℕ) (none one two three : List Bool) → net < length none → ((n : ℕ) → is_marked none n ≡ false) → one ≡ set none net true
    → IsGrownBy strings one two → IsGrownBy strings two three → IsClosed strings three → AreDependents strings net three
exactly_dependents strings net none one two three inside empty is first second closed = record {
  only = second.only net (first.only net (λ n on. elim (cases_eq n net) [
    | inl same ↦ (zero, same)
    | inr other ↦
        let off : is_marked one n ≡ false = ap (λ (marks : List Bool). is_marked marks n) is ∙ get_or-set_other none net n true false other ∙ empty n in
        absurd (false≢true (sym off ∙ on))
  ]));
  all = λ n path.
      let on : is_marked one net ≡ true = ap (λ (marks : List Bool). is_marked marks net) is ∙ get_or-set_same none net true false inside in
      marked_in_steps strings three net closed (second.kept net (first.kept net on)) path.0 n path.1;
}

pub none_marked : (nets n : ℕ) → is_marked (replicate nets false) n ≡ false
none_marked zero n = refl
none_marked (suc nets) zero = refl
none_marked (suc nets) (suc n) = none_marked nets n

-- what the mark of a net tells
pub told : (strings : List Dependency) (from net : ℕ) (marks : List Bool) (b : Bool) → AreDependents strings net marks → b ≡ is_marked marks from
    → MatchBool b (DependsOn strings from net) (¬ (DependsOn strings from net))
told strings from net marks true exact is = exact.only from (sym is)
told strings from net marks false exact is = λ path. false≢true (is ∙ exact.all from path)

-- ---- how many nets have no mark

abbrev weight : Bool → ℕ
weight b = cond (not b) 1 0

unmarked-cons : (b : Bool) (marks : List Bool) → unmarked (b ∷ marks) ≡ weight b + unmarked marks
unmarked-cons b marks = sum_by-cons weight b marks

-- a net that is marked now is one fewer
pub one_fewer : (marks new : List Bool) (net : ℕ) → net < length marks → is_marked marks net ≡ false → new ≡ set marks net true → unmarked new < unmarked marks
one_fewer marks new net inside off is =
    let step : unmarked (set marks net true) + weight (is_marked marks net) ≡ unmarked marks + 0 = sum_by-set weight marks net true false inside in
    let one : weight (is_marked marks net) ≡ 1 = ap weight off in
    let same : unmarked new ≡ unmarked (set marks net true) = ap unmarked is in
    omega (arith, step, one, same)

lighter : (a b : Bool) → (b ≡ true → a ≡ true) → weight a ≤ weight b
lighter true true more = omega arith
lighter true false more = omega arith
lighter false true more = absurd (false≢true (more refl))
lighter false false more = omega arith

-- of two lists of marks the one that has all marks of the other
no_more : (more marks : List Bool) → length more ≡ length marks → ((n : ℕ) → is_marked marks n ≡ true → is_marked more n ≡ true) → unmarked more ≤ unmarked marks
no_more [] [] long have = omega arith
no_more [] (b ∷ marks) long have = absurd (omega (arith, long))
no_more (a ∷ more) [] long have = absurd (omega (arith, long))
no_more (a ∷ more) (b ∷ marks) long have =
    let rest : unmarked more ≤ unmarked marks = no_more more marks (omega (arith, long)) (λ n. have (suc n)) in
    omega (arith, unmarked-cons a more, unmarked-cons b marks, lighter a b (have zero), rest)

-- .. and one that the other has not
fewer : (more marks : List Bool) → length more ≡ length marks → ((n : ℕ) → is_marked marks n ≡ true → is_marked more n ≡ true) → (net : ℕ) → net < length marks → is_marked more net ≡ true
    → is_marked marks net ≡ false → unmarked more < unmarked marks
fewer [] [] long have net inside on off = absurd (omega (arith, inside))
fewer [] (b ∷ marks) long have net inside on off = absurd (omega (arith, long))
fewer (a ∷ more) [] long have net inside on off = absurd (omega (arith, long))
fewer (a ∷ more) (b ∷ marks) long have zero inside on off =
    let rest : unmarked more ≤ unmarked marks = no_more more marks (omega (arith, long)) (λ n. have (suc n)) in
    let none : weight a ≡ 0 = ap weight on in
    let one : weight b ≡ 1 = ap weight off in
    omega (arith, unmarked-cons a more, unmarked-cons b marks, none, one, rest)
fewer (a ∷ more) (b ∷ marks) long have (suc net) inside on off =
    let rest : unmarked more < unmarked marks = fewer more marks (omega (arith, long)) (λ n. have (suc n)) net (omega (arith, inside)) on off in
    omega (arith, unmarked-cons a more, unmarked-cons b marks, lighter a b (have zero), rest)

-- fewer nets do not depend on a string's source than on its target, if it is on no loop
pub counts_rise : (strings : List Dependency) (nets k : ℕ) (string : Dependency) (low high : ℕ) → slice_get strings k ≡ Some string → HasNoLoop strings → IsWithin nets string
    → IsCount strings nets string.source low → IsCount strings nets string.target high → low < high
counts_rise strings nets k string low high stands free within source target =
    let rest : unmarked source.marks < unmarked target.marks =
    fewer source.marks target.marks (source.long ∙ sym target.long)
    (λ n on.
    let path = target.dependents.only n on in
    source.dependents.all n (suc path.0, one_step_more strings string.target string.source (k, stands) path.0 n path.1))
    string.source (subst (λ (m : ℕ). string.source < m) (sym target.long) within.source)
    (source.dependents.all string.source (zero, refl))
    (false_from_ne_true (is_marked target.marks string.source) (λ on. free k (record { string = string; stands = stands; back = target.dependents.only string.source on }))) in
    omega (arith, rest, source.counted, target.counted)
