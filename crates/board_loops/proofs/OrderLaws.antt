-- Jobs by rising numbers of their targets' nets are an order of work.
use Rattle.std.proofs.Common.{◌≡◌, ◌<◌, ◌≤◌, ◌+◌, ℕ, List, [], ◌∷◌, ◌++◌, length, get_or, map, slice_get, slice_index, Some, None, option_map, option_and_then, All, IsPermutation, sym, ap, subst, ◌∙◌, inl, inr, arith}
use Rattle.std.specs.List.{range_with_len}
use Rattle.std.specs.List.Sorted.{IsNonDecreasingBy}
use Rattle.std.proofs.lemmas.Bool.{cases_lt}
use Rattle.std.proofs.lemmas.List.{map-id, map_push}
use Rattle.std.proofs.lemmas.List.Elements.{All-push}
use Rattle.std.proofs.lemmas.List.FromFn.{map-range_with_len_more}
use Rattle.std.proofs.lemmas.List.Sorted.{All-permutation, IsPermutation-map}
use Rattle.std.proofs.lemmas.Option.{get_or_from_slice_get, none-some, same_Some, slice_get-get_or, slice_get-map, slice_get_cases}
use Rattle.board_loops.specs.Jobs.{IsJobOf, place_of}
use Rattle.board_loops.specs.Loops.{IsInOrder, nth_string}
use Rattle.board_loops.specs.Numbers.{IsLowered}
use Rattle.board_loops.specs.declared.net_loops.Dependency.{Dependency}
use Rattle.board_loops.specs.declared.net_loops.order.Job.{Job}
use Rattle.board_loops.proofs.LoopLaws.{all_at}

-- the string of the job at a place of an order
record JobAt (strings : List Dependency) (numbers : List ℕ) (jobs : List Job) (i : ℕ) (string : Dependency) : Type 0 where
  inside : i < length jobs
  place : ℕ
  stands : slice_get strings place ≡ Some string
  number : (d : Job) → (get_or jobs i d).number ≡ slice_index numbers string.target

job_at : (strings : List Dependency) (numbers : List ℕ) (jobs : List Job) → All (IsJobOf strings numbers) jobs → (i : ℕ) (string : Dependency)
    → nth_string strings (map place_of jobs) i ≡ Some string → JobAt strings numbers jobs i string
job_at strings numbers jobs all i string here = elim (slice_get_cases jobs i).1 [
  | inl found ↦
      let job : Job = found.0 in
      let mine : IsJobOf strings numbers job = subst (λ (j : Job). IsJobOf strings numbers j) found.3 (all i job found.1) in
      let place : slice_get (map place_of jobs) i ≡ Some job.place = slice_get-map place_of jobs i ∙ ap (option_map place_of) found.2 in
      let stands : slice_get strings job.place ≡ Some string = sym (ap (option_and_then (λ (k : ℕ). slice_get strings k)) place) ∙ here in
      let same : mine.string ≡ string = same_Some mine.string string (sym mine.stands ∙ stands) in
      record {
        inside = found.1;
        place = job.place;
        stands = stands;
        number = λ d. ap (λ (j : Job). j.number) (get_or_from_slice_get jobs i job d found.2) ∙ mine.number ∙ ap (λ (s : Dependency). slice_index numbers s.target) same;
      }
  | inr past ↦
      let place : slice_get (map place_of jobs) i ≡ None = slice_get-map place_of jobs i ∙ ap (option_map place_of) past.1 in
      absurd (none-some string (sym (ap (option_and_then (λ (k : ℕ). slice_get strings k)) place) ∙ here))
]

pub in_order : (strings : List Dependency) (numbers : List ℕ) (jobs sorted : List Job) → All (IsLowered numbers) strings → map place_of jobs ≡ range_with_len 0 (length strings)
    → All (IsJobOf strings numbers) jobs → IsPermutation jobs sorted → IsNonDecreasingBy (λ (job : Job). job.number) sorted → IsInOrder strings (map place_of sorted)
in_order strings numbers jobs sorted lowered places all moved rising = record {
  each_once = subst (λ (order : List ℕ). IsPermutation order (map place_of sorted)) places (IsPermutation-map place_of jobs sorted moved);
  before = λ i j one other first second meets. elim (cases_lt i j) [
    | inl low ↦ low
    | inr high ↦
        let nothing : Job = record { number = 0; place = 0 } in
        let a = job_at strings numbers sorted (All-permutation (IsJobOf strings numbers) jobs sorted moved all) i one first in
        let b = job_at strings numbers sorted (All-permutation (IsJobOf strings numbers) jobs sorted moved all) j other second in
        let up : (get_or sorted j nothing).number ≤ (get_or sorted i nothing).number = rising j i nothing high a.inside in
        let down : slice_index numbers other.source < slice_index numbers other.target = all_at (IsLowered numbers) strings lowered b.place other b.stands in
        let same : slice_index numbers one.target ≡ slice_index numbers other.source = ap (λ (net : ℕ). slice_index numbers net) meets in
        omega (arith, up, down, same, a.number nothing, b.number nothing)
  ];
}

-- ---- one job more

pub places_more : (jobs new : List Job) (job : Job) (n : ℕ) → map place_of jobs ≡ range_with_len 0 n → job.place ≡ n → new ≡ jobs ++ job ∷ [] → map place_of new ≡ range_with_len 0 (n + 1)
places_more jobs new job n so_far place is =
    ap (map place_of) is ∙ map_push place_of jobs job ∙ ap (λ (l : List ℕ). l ++ job.place ∷ []) so_far ∙ ap (λ (k : ℕ). range_with_len 0 n ++ k ∷ []) place
    ∙ sym (sym (map-id (range_with_len 0 (n + 1))) ∙ map-range_with_len_more (λ (k : ℕ). k) 0 n n (omega arith) ∙ ap (λ (l : List ℕ). l ++ n ∷ []) (map-id (range_with_len 0 n)))

pub jobs_more : (strings : List Dependency) (numbers : List ℕ) (jobs new : List Job) (job : Job) (d : Dependency) → All (IsJobOf strings numbers) jobs → job.place < length strings
    → job.number ≡ slice_index numbers (get_or strings job.place d).target → new ≡ jobs ++ job ∷ [] → All (IsJobOf strings numbers) new
jobs_more strings numbers jobs new job d all inside number is =
    subst (λ (l : List Job). All (IsJobOf strings numbers) l) (sym is)
    (All-push (IsJobOf strings numbers) jobs job all (record { string = get_or strings job.place d; stands = slice_get-get_or strings job.place d inside; number = number }))
