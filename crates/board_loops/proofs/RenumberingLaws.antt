-- Strings with other numbers are on loops, and in an order, exactly where they were.
use Rattle.std.proofs.Common.{◌≡◌, ◌<◌, ◌≤◌, ◌+◌, ◌==◌, ℕ, zero, suc, Bool, true, false, cond, nat_cmp, nat_lt, List, [], ◌∷◌, ◌++◌, length, map, take, get_or, slice_get, All, IsPermutation, Option, Some, None, option_map, option_and_then, refl, sym, ap, subst, ◌∙◌, inl, inr, arith}
use Rattle.std.specs.List.{AllPairs, position, position_or_len, range_with_len}
use Rattle.std.specs.Ordering.{is_eq}
use Rattle.std.proofs.lemmas.Bool.{cases_lt, eq-eqb, eqb-true, false≢true, ltb-false}
use Rattle.std.proofs.lemmas.List.{append-nil, get_or_append_left, get_or_push, length-append, length-map, length_push, map-append}
use Rattle.std.proofs.lemmas.List.Elements.{All-nil, All-push, All-weaker}
use Rattle.std.proofs.lemmas.List.Quantifiers.{all_pairs_push, position-Some}
use Rattle.std.proofs.lemmas.List.Sums.{fails_before_first}
use Rattle.std.proofs.lemmas.Option.{none-some, same_Some, slice_get-map}
use Rattle.board_loops.specs.Loops.{HasNoLoop, InSteps, IsFirstOnLoop, IsInOrder, IsOnLoop, IsWithin, Settles, nth_string}
use Rattle.board_loops.specs.declared.net_loops.Dependency.{Dependency}
use Rattle.board_loops.specs.declared.net_loops.Settling.{Settling}
use Rattle.board_loops.specs.declared.net_loops.Settling.TheVariants.{Order, Loop}
use Rattle.board_loops.proofs.LoopLaws.{all_at}
use Rattle.board_parts.proofs.PinLaws.{same_number}
use Rattle.board_loops.specs.Renumbering.{AreApart, AreRenumbered, HasPlace, named_by}

-- ---- what is on a loop, and what is an order

module _ (old : List Dependency) (nets : List ℕ) (new : List Dependency) (r : AreRenumbered old nets new) where
  abbrev name : ℕ → ℕ
  name i = get_or nets i 0

  injective : (i j : ℕ) → i < length nets → j < length nets → name i ≡ name j → i ≡ j
  injective i j in-i in-j e = elim (cases_lt i j) [
    | inl low ↦ absurd (r.apart i j 0 low in-j e)
    | inr high ↦ elim (cases_lt j i) [
      | inl low ↦ absurd (r.apart j i 0 low in-i (sym e))
      | inr other ↦ omega (arith, high, other)
    ]
  ]

  string_to : (k : ℕ) (d : Dependency) → slice_get new k ≡ Some d → slice_get old k ≡ Some (named_by nets d)
  string_to k d at =
      sym (ap (λ (l : List Dependency). slice_get l k) r.same) ∙ slice_get-map (named_by nets) new k ∙ ap (option_map (named_by nets)) at

  string_from : (k : ℕ) (s : Dependency) → slice_get old k ≡ Some s → (d : Dependency) × (slice_get new k ≡ Some d) × (named_by nets d ≡ s)
  string_from k s at = by (slice_get new k) refl (sym (slice_get-map (named_by nets) new k) ∙ ap (λ (l : List Dependency). slice_get l k) r.same ∙ at)
    where
      by : (o : Option Dependency) → slice_get new k ≡ o → option_map (named_by nets) o ≡ Some s → (d : Dependency) × (slice_get new k ≡ Some d) × (named_by nets d ≡ s)
      by None is e = absurd (none-some s e)
      by (Some d) is e = (d, is, same_Some (named_by nets d) s e)

  inside : (k : ℕ) (d : Dependency) → slice_get new k ≡ Some d → IsWithin (length nets) d
  inside k d at = all_at (IsWithin (length nets)) new r.within k d at

  steps_to : (n a b : ℕ) → InSteps new n a b → InSteps old n (name a) (name b)
  steps_to zero a b path = ap name path
  steps_to (suc n) a b path =
      (name path.0, (path.1.0, string_to path.1.0 (record { target = a; source = path.0 }) path.1.1), steps_to n path.0 b path.2)

  steps_from : (n a b : ℕ) → a < length nets → b < length nets → InSteps old n (name a) (name b) → InSteps new n a b
  steps_from zero a b in-a in-b path = injective a b in-a in-b path
  steps_from (suc n) a b in-a in-b path =
      let (d, at, is) = string_from path.1.0 (record { target = name a; source = path.0 }) path.1.1 in
      let within = inside path.1.0 d at in
      let target : d.target ≡ a = injective d.target a within.target in-a (ap (λ (s : Dependency). s.target) is) in
      let source : name d.source ≡ path.0 = ap (λ (s : Dependency). s.source) is in
      let there : slice_get new path.1.0 ≡ Some (record { target = a; source = d.source }) =
      subst (λ (x : ℕ). slice_get new path.1.0 ≡ Some (record { target = x; source = d.source })) target at in
      let rest : InSteps old n (name d.source) (name b) = subst (λ (x : ℕ). InSteps old n x (name b)) (sym source) path.2 in
      (d.source, (path.1.0, there), steps_from n d.source b within.source in-b rest)

  loop_to : (place : ℕ) → IsOnLoop new place → IsOnLoop old place
  loop_to place loop = record {
    string = named_by nets loop.string;
    stands = string_to place loop.string loop.stands;
    back = (loop.back.0, steps_to loop.back.0 loop.string.source loop.string.target loop.back.1);
  }

  loop_from : (place : ℕ) → IsOnLoop old place → IsOnLoop new place
  loop_from place loop =
      let (d, at, is) = string_from place loop.string loop.stands in
      let within = inside place d at in
      let path : InSteps old loop.back.0 (name d.source) (name d.target) =
      subst (λ (s : Dependency). InSteps old loop.back.0 s.source s.target) (sym is) loop.back.1 in
      record { string = d; stands = at; back = (loop.back.0, steps_from loop.back.0 d.source d.target within.source within.target path) }

  nth_from : (order : List ℕ) (i : ℕ) (s : Dependency) → nth_string old order i ≡ Some s
      → (d : Dependency) × (nth_string new order i ≡ Some d) × (named_by nets d ≡ s) × IsWithin (length nets) d
  nth_from order i s e = by (slice_get order i) e
    where
      by : (o : Option ℕ) → option_and_then (λ place. slice_get old place) o ≡ Some s
          → (d : Dependency) × (option_and_then (λ place. slice_get new place) o ≡ Some d) × (named_by nets d ≡ s) × IsWithin (length nets) d
      by None e = absurd (none-some s e)
      by (Some place) e = let (d, at, is) = string_from place s e in (d, at, is, inside place d at)

  in_order : (order : List ℕ) → IsInOrder new order → IsInOrder old order
  in_order order is = record {
    each_once =
        let long : length new ≡ length old = sym (length-map new (named_by nets)) ∙ ap length r.same in
        subst (λ (n : ℕ). IsPermutation (range_with_len 0 n) order) long is.each_once;
    before = λ i j one other at-i at-j same.
        let (d, d-at, d-is, d-in) = nth_from order i one at-i in
        let (e, e-at, e-is, e-in) = nth_from order j other at-j in
        let met : name d.target ≡ name e.source = ap (λ (s : Dependency). s.target) d-is ∙ same ∙ sym (ap (λ (s : Dependency). s.source) e-is) in
        is.before i j d e d-at e-at (injective d.target e.source d-in.target e-in.source met);
  }

  pub settles_as : (s : Settling) → Settles new s → Settles old s
  settles_as (Order order) is = (λ place loop. is.0 place (loop_from place loop), in_order order.items is.1)
  settles_as (Loop place) is = record {
    on_loop = loop_to place is.on_loop;
    first = λ before low loop. is.first before low (loop_from before loop);
  }

-- ---- places of nets

abbrev is_net : ℕ → ℕ → Bool
is_net net q = is_eq (nat_cmp net q)

pub place_there : (nets : List ℕ) (net place : ℕ) → position (is_net net) nets ≡ Some place → HasPlace nets nets net place
place_there nets net place e =
    let found = position-Some (is_net net) nets place 0 e in
    let same : net ≡ get_or nets place 0 = eqb-true net (get_or nets place 0) (sym (same_number net (get_or nets place 0)) ∙ found.1) in
    record { more = []; grown = sym (append-nil nets); inside = found.0; there = sym same; apart = λ apart. apart }

pub place_new : (nets : List ℕ) (net : ℕ) → position (is_net net) nets ≡ None → HasPlace nets (nets ++ net ∷ []) net (length nets)
place_new nets net e = record {
  more = net ∷ [];
  grown = refl;
  inside = (let long = length_push nets net in omega (arith, long));
  there = get_or_push nets net 0 (length nets) refl;
  apart = λ apart. all_pairs_push (λ (a b : ℕ). a ≡ b → ⊥) nets net apart other;
}
  where
    far : (b : Bool) → nat_lt (position_or_len (is_net net) nets) (length nets) ≡ b → cond b (Some (position_or_len (is_net net) nets)) None ≡ None → length nets ≤ position_or_len (is_net net) nets
    far true is e = absurd (none-some (position_or_len (is_net net) nets) (sym e))
    far false is e = ltb-false (position_or_len (is_net net) nets) (length nets) is

    other : (k d : ℕ) → k < length nets → get_or nets k d ≡ net → ⊥
    other k d low same =
        let past = far (nat_lt (position_or_len (is_net net) nets) (length nets)) refl e in
        let fails : is_net net (get_or nets k d) ≡ false = fails_before_first (is_net net) nets k d (omega (arith, low, past)) in
        false≢true (sym fails ∙ same_number net (get_or nets k d) ∙ eq-eqb net (get_or nets k d) (sym same))

-- ---- one string more

pub renumbered_none : AreRenumbered [] [] []
renumbered_none = record { apart = λ i j d low inside. absurd (omega (arith, inside)); within = All-nil (IsWithin 0); same = refl }

name_kept : (nets more : List ℕ) (i : ℕ) → i < length nets → get_or (nets ++ more) i 0 ≡ get_or nets i 0
name_kept nets more i low = get_or_append_left nets more 0 i low

names_kept : (nets more : List ℕ) (ds : List Dependency) → All (IsWithin (length nets)) ds → map (named_by (nets ++ more)) ds ≡ map (named_by nets) ds
names_kept nets more [] within = refl
names_kept nets more (d ∷ ds) within =
    let here = within 0 d (omega arith) in
    let target = name_kept nets more d.target here.target in
    let source = name_kept nets more d.source here.source in
    let rest = names_kept nets more ds (λ k e low. within (suc k) e (omega (arith, low))) in
    λ i. record { target = target i; source = source i } ∷ rest i

pub renumbered_more : (old : List Dependency) (nets one two : List ℕ) (new : List Dependency) (s : Dependency) (target source : ℕ)
    → AreRenumbered old nets new → HasPlace nets one s.target target → HasPlace one two s.source source
    → AreRenumbered (old ++ s ∷ []) two (new ++ record { target = target; source = source } ∷ [])
renumbered_more old nets one two new s target source r first second =
    let longer : length nets ≤ length one = omega (arith, ap length first.grown, length-append nets first.more) in
    let longest : length one ≤ length two = omega (arith, ap length second.grown, length-append one second.more) in
    let in-one : All (IsWithin (length one)) new =
    All-weaker (IsWithin (length nets)) (IsWithin (length one)) (λ d is. record { target = omega (arith, is.target, longer); source = omega (arith, is.source, longer) }) new r.within in
    let in-two : All (IsWithin (length two)) new =
    All-weaker (IsWithin (length one)) (IsWithin (length two)) (λ d is. record { target = omega (arith, is.target, longest); source = omega (arith, is.source, longest) }) new in-one in
    let names-one : map (named_by one) new ≡ map (named_by nets) new =
    ap (λ (l : List ℕ). map (named_by l) new) first.grown ∙ names_kept nets first.more new r.within in
    let names-two : map (named_by two) new ≡ map (named_by one) new =
    ap (λ (l : List ℕ). map (named_by l) new) second.grown ∙ names_kept one second.more new in-one in
    let there : get_or two target 0 ≡ s.target =
    ap (λ (l : List ℕ). get_or l target 0) second.grown ∙ name_kept one second.more target first.inside ∙ first.there in
    let last : named_by two (record { target = target; source = source }) ≡ s = λ i. record { target = there i; source = second.there i } in
    record {
      apart = second.apart (first.apart r.apart);
      within = All-push (IsWithin (length two)) new (record { target = target; source = source }) in-two (record { target = omega (arith, first.inside, longest); source = second.inside });
      same = map-append (named_by two) new (record { target = target; source = source } ∷ []) ∙ (λ i. (names-two ∙ names-one ∙ r.same) i ++ last i ∷ []);
    }
