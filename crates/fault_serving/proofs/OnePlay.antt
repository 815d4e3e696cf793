-- What one play tells of a way is what the play on the board with it would.
use Rattle.std.proofs.Common.{◌≡◌, ◌<◌, ◌+◌, ◌==◌, ℕ, zero, suc, Bool, true, false, List, [], ◌∷◌, ◌++◌, length, take, drop, get_or, set, replicate, slice_get, slice_index_or, append_assoc, Option, Some, None, refl, sym, ap, ap₂, subst, ◌∙◌, arith}
use Rattle.std.specs.Prelude.{flat_map}
use Rattle.std.specs.List.{AllByRecursion, list_any}
use Rattle.std.proofs.lemmas.Bool.{or_parts}
use Rattle.std.proofs.lemmas.Bool.Decides.{nat_tests}
use Rattle.std.proofs.Math.Seq.{drop-cons}
use Rattle.std.proofs.lemmas.List.{drop-set-lt, length-append, take_more_set}
use Rattle.std.proofs.lemmas.Option.{same_Some}
use Rattle.svf_programs.specs.Legal.{IsLegalProgram}
use Rattle.svf_programs.specs.Steps.{Program}
use Rattle.pin_nets.specs.Wired.{Net}
use Rattle.board_plan.specs.Planned.{Wiring}
use Rattle.board_loops.proofs.DependingLaws.{no_loop}
use Rattle.play_model.specs.declared.ending.Ending.{Ending}
use Rattle.play_model.specs.declared.ending.Ending.TheVariants.{Pass, Fail, Lost, BadAnswer}
use Rattle.board_faults.specs.declared.judging.Verdict.TheVariants.{Played}
use Rattle.board_faults.specs.declared.kinds.Fault.{Fault}
use Rattle.board_faults.specs.declared.kinds.Way.{Way}
use Rattle.board_faults.specs.Faults.{IsFaultOf, IsWayOf, ways}
use Rattle.board_faults.specs.Faulty.{CanBeJudged}
use Rattle.board_faults.specs.declared.judging.Judged.{Judged}
use Rattle.board_faults.specs.Judging.{JudgesAll, JudgesWayWith, wiring_with}
use Rattle.board_faults.proofs.JudgingLaws.{may_have}
use Rattle.board_faults.proofs.Missed.{every_program_misses}
use Rattle.fault_events.specs.Captures.{Noted, captures}
use Rattle.fault_events.specs.Endings.{and_then, ending_noted}
use Rattle.fault_events.proofs.Cuts.{captures_may_be_cut}
use Rattle.fault_events.proofs.NotedEndings.{noted_faults}
use Rattle.fault_serving.specs.Serving.{AreTold, IsToldOf, Serves, endings_by, is_open, judged_on}
use Rattle.fault_serving.proofs.Plain.{without_strings}

-- ---- what is told is so

module _ (program : Program) (legal : IsLegalProgram program.steps) (w : Wiring) (can : CanBeJudged w) where
  module _ (serves : Serves program w) where
    pub told_of : (its_way : Way) → IsWayOf w.nets its_way → (o : Option Ending) → ending_noted w.nets its_way (captures program w) ≡ o → IsToldOf program w its_way o
    told_of its_way its None e = tt
    told_of its_way its (Some ending) e = (
      no_loop (wiring_with its_way w) serves.plain,
      noted_faults program legal w can.sound (may_have w can) (without_strings w serves.plain) serves.passes its_way its ending e,
      serves.passes,
    )

    pub all_told : (ws : List Way) → AllByRecursion (IsWayOf w.nets) ws → AreTold program w ws (endings_by w.nets (captures program w) ws)
    all_told [] all = tt
    all_told (its_way ∷ ws) all = (told_of its_way all.0 (ending_noted w.nets its_way (captures program w)) refl, all_told ws all.1)

  -- that it ends so is what would be told of it
  pub told_other : (its_way : Way) (ending : Ending) → IsToldOf program w its_way (Some ending) → (ending ≡ Pass → ⊥)
      → JudgesWayWith program w its_way (Some (Played ending))
  told_other its_way ending told other = (
    told.0,
    ((λ unseen. other (sym told.1 ∙ every_program_misses program legal w can.sound its_way unseen ∙ told.2)), sym told.1),
  )

-- ---- one way after another

module _ (program : Program) (w : Wiring) where
  pub none_told : (ws : List Way) (n : ℕ) → AreTold program w ws (replicate n None)
  none_told [] n = tt
  none_told (way ∷ ws) zero = tt
  none_told (way ∷ ws) (suc n) = (tt, none_told ws n)

  pub told_there : (ws : List Way) (os : List (Option Ending)) (k : ℕ) (way : Way) → AreTold program w ws os → slice_get ws k ≡ Some way
      → IsToldOf program w way (slice_index_or os k None)
  told_there [] os k way all is = absurd (cc)
  told_there (x ∷ ws) [] k way all is = tt
  told_there (x ∷ ws) (o ∷ os) zero way all is = subst (λ (y : Way). IsToldOf program w y o) (same_Some x way is) all.0
  told_there (x ∷ ws) (o ∷ os) (suc k) way all is = told_there ws os k way all.1 is

  pub told_first : (ws vs : List Way) (os : List (Option Ending)) → AreTold program w (ws ++ vs) os → AreTold program w ws os
  told_first [] vs os all = tt
  told_first (x ∷ ws) vs [] all = tt
  told_first (x ∷ ws) vs (o ∷ os) all = (all.0, told_first ws vs os all.1)

  none-left : (vs : List Way) → AreTold program w vs []
  none-left [] = tt
  none-left (x ∷ vs) = tt

  pub told_rest : (ws vs : List Way) (os : List (Option Ending)) → AreTold program w (ws ++ vs) os → AreTold program w vs (drop (length ws) os)
  told_rest [] vs os all = all
  told_rest (x ∷ ws) vs [] all = none-left vs
  told_rest (x ∷ ws) vs (o ∷ os) all = told_rest ws vs os all.1

-- ---- block by block

pub all_open : (nets : List Net) (ws : List Way) → replicate (length ws) (Some Pass) ≡ endings_by nets [] ws
all_open nets [] = refl
all_open nets (way ∷ ws) = ap (λ (l : List (Option Ending)). Some Pass ∷ l) (all_open nets ws)

pub judged_more : (nets : List Net) (cs more : List Noted) (ws : List Way)
    → judged_on nets more ws (endings_by nets cs ws) ≡ endings_by nets (cs ++ more) ws
judged_more nets cs more [] = refl
judged_more nets cs more (way ∷ ws) =
    ap₂ (λ (o : Option Ending) (l : List (Option Ending)). o ∷ l) (sym (captures_may_be_cut nets way cs more)) (judged_more nets cs more ws)

pub judged_step : (nets : List Net) (more : List Noted) (ws : List Way) (es : List (Option Ending)) (k : ℕ) (way : Way) (o : Option Ending)
    → k < length ws → k < length es → let next = and_then (get_or es k o) (ending_noted nets (get_or ws k way) more) in
    take (k + 1) (set es k next) ++ judged_on nets more (drop (k + 1) ws) (drop (k + 1) (set es k next))
    ≡ take k es ++ judged_on nets more (drop k ws) (drop k es)
judged_step nets more ws es k way o inside there =
    let x = and_then (get_or es k o) (ending_noted nets (get_or ws k way) more) in
    let next : suc k ≡ k + 1 = omega arith in
    ap₂ (λ (xs ys : List (Option Ending)). xs ++ judged_on nets more (drop (k + 1) ws) ys) (take_more_set es k x there) (drop-set-lt (k + 1) es k x (omega arith))
    ∙ append_assoc (take k es) (x ∷ []) (judged_on nets more (drop (k + 1) ws) (drop (k + 1) es))
    ∙ ap (λ (n : ℕ). take k es ++ (x ∷ judged_on nets more (drop n ws) (drop n es))) (sym next)
    ∙ sym (ap₂ (λ (vs : List Way) (os : List (Option Ending)). take k es ++ judged_on nets more vs os) (drop-cons ws k way inside) (drop-cons es k o there))

closed-stays : (o rest : Option Ending) → is_open o ≡ false → and_then o rest ≡ o
closed-stays None rest e = refl
closed-stays (Some Pass) rest e = absurd (cc)
closed-stays (Some (Fail command part bit)) rest e = refl
closed-stays (Some (Lost command)) rest e = refl
closed-stays (Some (BadAnswer command byte)) rest e = refl

pub all_closed : (nets : List Net) (cs more : List Noted) (ws : List Way) → list_any is_open (endings_by nets cs ws) ≡ false
    → endings_by nets cs ws ≡ endings_by nets (cs ++ more) ws
all_closed nets cs more [] e = refl
all_closed nets cs more (way ∷ ws) e =
    let parts = or_parts (is_open (ending_noted nets way cs)) (list_any is_open (endings_by nets cs ws)) e in
    ap₂ (λ (o : Option Ending) (l : List (Option Ending)). o ∷ l)
    (sym (closed-stays (ending_noted nets way cs) (ending_noted nets way more) parts.0) ∙ sym (captures_may_be_cut nets way cs more))
    (all_closed nets cs more ws parts.1)

-- ---- some faults at a time

pub split_all : {X : Type 0} (P : X → Type 0) (xs ys : List X) → AllByRecursion P (xs ++ ys) → AllByRecursion P xs × AllByRecursion P ys
split_all P [] ys all = (tt, all)
split_all P (x ∷ xs) ys all = let rest = split_all P xs ys all.1 in ((all.0, rest.0), rest.1)

join-all : {X : Type 0} (P : X → Type 0) (xs ys : List X) → AllByRecursion P xs → AllByRecursion P ys → AllByRecursion P (xs ++ ys)
join-all P [] ys one other = other
join-all P (x ∷ xs) ys one other = (one.0, join-all P xs ys one.1 other)

pub all_ways : (nets : List Net) (fs : List Fault) → AllByRecursion (IsFaultOf nets) fs → AllByRecursion (IsWayOf nets) (flat_map ways fs)
all_ways nets [] all = tt
all_ways nets (f ∷ fs) all = join-all (IsWayOf nets) (ways f) (flat_map ways fs) all.0 (all_ways nets fs all.1)

pub judges_join : (program : Program) (w : Wiring) (fs gs : List Fault) (js ks : List Judged) → JudgesAll program w fs js → JudgesAll program w gs ks
    → JudgesAll program w (fs ++ gs) (js ++ ks)
judges_join program w [] gs [] ks one other = other
judges_join program w [] gs (j ∷ js) ks one other = absurd one
judges_join program w (f ∷ fs) gs [] ks one other = absurd one
judges_join program w (f ∷ fs) gs (j ∷ js) ks one other = (one.0, one.1, judges_join program w fs gs js ks one.2 other)

-- those behind some are fewer
pub some_less : {X : Type 0} (left first rest : List X) → left ≡ first ++ rest → (first ≡ [] → ⊥) → length rest < length left
some_less left [] rest are some = absurd (some refl)
some_less left (x ∷ first) rest are some = omega (arith, ap (λ (l : List _). length l) are, length-append first rest)

-- ---- lists that are empty

pub none_there : {X : Type 0} (xs : List X) (n : ℕ) (b : Bool) → b ≡ (n == 0) → n ≡ length xs → b ≡ true → xs ≡ []
none_there [] n b is long holds = refl
none_there (x ∷ xs) n b is long holds =
    let none : (n == 0) ≡ true = sym is ∙ holds in
    let zero : n ≡ 0 = grind (arith, nat_tests) in
    absurd (omega (arith, zero, long))

pub some_there : {X : Type 0} (xs : List X) (n : ℕ) (b : Bool) → b ≡ (n == 0) → n ≡ length xs → b ≡ false → xs ≡ [] → ⊥
some_there [] n b is long holds e =
    let some : (n == 0) ≡ false = sym is ∙ holds in
    let zero : n ≡ 0 = omega (arith, long) in
    grind (arith, nat_tests)
some_there (x ∷ xs) n b is long holds e = absurd (cc)
