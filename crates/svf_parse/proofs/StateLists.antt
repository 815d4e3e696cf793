-- A list of states, read one by one.
use Rattle.std.proofs.lemmas.Bool.Decides.{nat_tests}
use Rattle.std.proofs.Common.{◌≡◌, ℕ, true, false, nat_eq, ◌<◌, List, [], ◌∷◌, ◌++◌, length, Option, Some, None, refl, sym, ap, ◌∙◌, arith, append_assoc}
use Rattle.std.proofs.lemmas.List.{append-nil}
use Rattle.jt_tap.specs.declared.State.{State}
use Rattle.svf_words.specs.Words.{Word}
use Rattle.svf_words.specs.Keywords.{state_of}
use Rattle.svf_parse.specs.Forms.{with_state, each_state, some_states}

-- states read so far, before those that are read next
abbrev pub in_front : List State → Option (List State) → Option (List State)
in_front front None = None
in_front front (Some ss) = Some (front ++ ss)

pub in_front-nil : (r : Option (List State)) → in_front [] r ≡ r
in_front-nil None = refl
in_front-nil (Some ss) = refl

regroup : (front : List State) (s : State) (r : Option (List State)) → in_front front (with_state (Some s) r) ≡ in_front (front ++ s ∷ []) r
regroup front s None = refl
regroup front s (Some ss) = ap (λ (x : List State). Some x) (sym (append_assoc front (s ∷ []) ss))

pub one_more : (front : List State) (w : Word) (ws rest : List Word) (s : State) (total : Option (List State)) → ws ≡ w ∷ rest → Some s ≡ state_of w
    → in_front front (each_state ws) ≡ total → in_front (front ++ s ∷ []) (each_state rest) ≡ total
unfolding each_state
one_more front w ws rest s total split state so_far =
    sym (regroup front s (each_state rest)) ∙ ap (λ (o : Option State). in_front front (with_state o (each_state rest))) state ∙ ap (λ (x : List Word). in_front front (each_state x)) (sym split) ∙ so_far

none_in : (total : Option (List State)) (ws : List Word) → total ≡ None → each_state ws ≡ total → some_states ws ≡ None
unfolding some_states
none_in total [] none e = refl
none_in total (w ∷ ws) none e = e ∙ none

pub no_state : (front : List State) (w : Word) (ws rest all : List Word) → ws ≡ w ∷ rest → state_of w ≡ None
    → in_front front (each_state ws) ≡ each_state all → some_states all ≡ None
unfolding each_state
no_state front w ws rest all split state so_far =
    let none : each_state ws ≡ None = ap each_state split ∙ ap (λ (o : Option State). with_state o (each_state rest)) state in
    none_in (each_state all) all (sym so_far ∙ ap (in_front front) none) refl

pub all_read : (front : List State) (ws all : List Word) → ws ≡ [] → in_front front (each_state ws) ≡ each_state all → each_state all ≡ Some front
unfolding each_state
all_read front ws all nil so_far = sym so_far ∙ ap (λ (x : List Word). in_front front (each_state x)) nil ∙ ap (λ (x : List State). Some x) (append-nil front)

pub some_read : (front : List State) (all : List Word) → 0 < length front → each_state all ≡ Some front → some_states all ≡ Some front
unfolding some_states each_state
some_read [] all lt e = absurd (omega arith)
some_read (s ∷ ss) [] lt e = absurd cc
some_read (s ∷ ss) (w ∷ ws) lt e = e

not_nil : (w : Word) (ws : List Word) (o : Option State) (r : Option (List State)) → with_state o r ≡ Some [] → ⊥
not_nil w ws (Some s) (Some ss) e = cc
not_nil w ws (Some s) None e = cc
not_nil w ws None (Some ss) e = cc
not_nil w ws None None e = cc

pub none_read : (all : List Word) → each_state all ≡ Some [] → some_states all ≡ None
unfolding some_states each_state
none_read [] e = refl
none_read (w ∷ ws) e = absurd (not_nil w ws (state_of w) (each_state ws) e)

pub no_states : (front : List State) (all : List Word) → length front ≡ 0 → each_state all ≡ Some front → some_states all ≡ None
no_states [] all e read = none_read all read
no_states (s ∷ ss) all e read = absurd (omega arith)

pub empty_list : (front : List State) (n : ℕ) → length front ≡ n → true ≡ nat_eq n 0 → length front ≡ 0
empty_list front n len test = grind (arith, nat_tests)

pub filled_list : (front : List State) (n : ℕ) → length front ≡ n → false ≡ nat_eq n 0 → 0 < length front
filled_list front n len test = grind (arith, nat_tests)
