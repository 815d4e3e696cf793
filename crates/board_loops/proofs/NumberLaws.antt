-- Numbers of nets that strings lower, or do not raise.
use Rattle.std.proofs.Common.{◌≡◌, ◌<◌, ◌≤◌, ◌+◌, ℕ, zero, suc, List, [], ◌∷◌, ◌++◌, length, get_or, replicate, slice_index, All, refl, sym, ap, subst, inl, inr, le_of_lt, arith}
use Rattle.std.proofs.lemmas.Bool.{cases_lt}
use Rattle.std.proofs.lemmas.List.{get_or_append_left, get_or_push}
use Rattle.std.proofs.lemmas.Option.{slice_get-get_or}
use Rattle.board_loops.specs.Loops.{DependsOn, HasNoLoop, InSteps, IsWithin}
use Rattle.board_loops.specs.Marks.{IsCount}
use Rattle.board_loops.specs.Numbers.{IsLowered, IsUnraised}
use Rattle.board_loops.specs.declared.net_loops.Dependency.{Dependency}
use Rattle.board_loops.proofs.LoopLaws.{all_at}
use Rattle.board_loops.proofs.MarkLaws.{counts_rise}

-- along strings numbers do not rise
never_higher : (strings : List Dependency) (numbers : List ℕ) → All (IsUnraised numbers) strings → (n net source : ℕ) → InSteps strings n net source → slice_index numbers source ≤ slice_index numbers net
never_higher strings numbers unraised zero net source path = omega (arith, ap (λ (x : ℕ). slice_index numbers x) path)
never_higher strings numbers unraised (suc n) net source path =
    let step : slice_index numbers path.0 ≤ slice_index numbers net = all_at (IsUnraised numbers) strings unraised path.1.0 (record { target = net; source = path.0 }) path.1.1 in
    omega (arith, step, never_higher strings numbers unraised n path.0 source path.2)

-- so one that lowers them does not lead back
pub lowered_leads_nowhere : (strings : List Dependency) (numbers : List ℕ) (string : Dependency) → All (IsUnraised numbers) strings → IsLowered numbers string
    → DependsOn strings string.source string.target → ⊥
lowered_leads_nowhere strings numbers string unraised lowered back =
    omega (arith, lowered, never_higher strings numbers unraised back.0 string.source string.target back.1)

pub lowered_no_loop : (strings : List Dependency) (numbers : List ℕ) → All (IsLowered numbers) strings → HasNoLoop strings
lowered_no_loop strings numbers lowered place loop =
    lowered_leads_nowhere strings numbers loop.string (λ k d inside. le_of_lt (lowered k d inside)) (all_at (IsLowered numbers) strings lowered place loop.string loop.stands) loop.back

-- ---- numbers that are all the same

no_number : (nets net : ℕ) → slice_index (replicate nets 0) net ≡ 0
no_number zero net = refl
no_number (suc nets) zero = refl
no_number (suc nets) (suc net) = no_number nets net

pub same_unraised : (strings : List Dependency) (nets : ℕ) (numbers : List ℕ) → numbers ≡ replicate nets 0 → All (IsUnraised numbers) strings
same_unraised strings nets numbers is k d inside =
    let source = (get_or strings k d).source in
    let target = (get_or strings k d).target in
    omega (arith, ap (λ (l : List ℕ). slice_index l source) is, no_number nets source, ap (λ (l : List ℕ). slice_index l target) is, no_number nets target)

-- ---- counts

pub count_push : (P : ℕ → ℕ → Type 0) (counts : List ℕ) (n count : ℕ) → length counts ≡ n → ((k : ℕ) → k < n → P k (slice_index counts k)) → P n count
    → (k : ℕ) → k < n + 1 → P k (slice_index (counts ++ count ∷ []) k)
count_push P counts n count long below here k inside = elim (cases_lt k n) [
  | inl low ↦ subst (P k) (sym (get_or_append_left counts (count ∷ []) 0 k (omega (arith, low, long)))) (below k low)
  | inr high ↦
      let same : n ≡ k = omega (arith, inside, high) in
      subst (λ (j : ℕ). P j (slice_index (counts ++ count ∷ []) j)) same (subst (P n) (sym (get_or_push counts count 0 n long)) here)
]

pub counts_lowered : (strings : List Dependency) (nets : ℕ) (counts : List ℕ) → All (IsWithin nets) strings → HasNoLoop strings
    → ((net : ℕ) → net < nets → IsCount strings nets net (slice_index counts net)) → All (IsLowered counts) strings
counts_lowered strings nets counts within free each k d inside =
    let string = get_or strings k d in
    let mine : IsWithin nets string = within k d inside in
    counts_rise strings nets k string (slice_index counts string.source) (slice_index counts string.target) (slice_get-get_or strings k d inside) free mine
    (each string.source mine.source) (each string.target mine.target)
