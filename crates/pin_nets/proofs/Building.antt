-- Entering nets at their pins, one net after another.
use Rattle.std.proofs.Common.{◌≡◌, ◌≢◌, ◌⊎◌, ⊎_elim, inl, inr, ℕ, zero, suc, ◌+◌, ◌<◌, ◌≤◌, ◌^◌, Bool, true, false, not, ◌||◌, ◌==◌, eqb, cond, nat_lt, if◌then◌else◌, List, [], ◌∷◌, ◌++◌, length, take, get_or, set, map, Option, Some, None, is_none, is_some, slice_get, slice_index, replicate, refl, sym, ap, subst, ◌∙◌, arith, append_assoc}
use Rattle.std.specs.Prelude.{position, filter, count_by}
use Rattle.std.specs.List.{list_any, position_or_len, range_with_len}
use Rattle.std.proofs.lemmas.Bool.{cases_eq, cases_lt}
use Rattle.std.proofs.lemmas.Bool.Decides.{nat_tests}
use Rattle.std.proofs.lemmas.List.{map-id, append-nil, get_or-map, get_or-replicate, get_or_past, length-map, length-replicate, get_or-set_same, get_or-set_other, get_or-take, length-append, length-set, length-take, map-append, take_more}
use Rattle.std.proofs.lemmas.List.Folds.{position_or_len_push}
use Rattle.std.proofs.lemmas.List.FromFn.{filter_of_map_range_with_len_more}
use Rattle.std.proofs.lemmas.List.Quantifiers.{position-Some}
use Rattle.std.proofs.lemmas.List.Sums.{prefix_len-le-length}
use Rattle.std.proofs.lemmas.Option.{unwrap_or-slice_get, slice_get-get_or, slice_get_within, get_or_from_slice_get}
use Rattle.pin_nets.specs.declared.Counts.{Counts}
use Rattle.pin_nets.specs.declared.Drive.{Drive}
use Rattle.pin_nets.specs.declared.Drive.TheVariants.{Nothing}
use Rattle.pin_nets.specs.declared.build.NetSpec.{NetSpec}
use Rattle.pin_nets.specs.Building.{HasPinsBelow, net_value}
use Rattle.pin_nets.specs.declared.Level.{Level}
use Rattle.pin_nets.specs.declared.Level.TheVariants.{One}
use Rattle.pin_nets.specs.declared.Pull.{Pull}
use Rattle.pin_nets.specs.declared.Pull.TheVariants.{Up, Down, Free}
use Rattle.pin_nets.specs.declared.Rule.{Rule}
use Rattle.pin_nets.specs.declared.Rule.TheVariants.{Counted, Tied, WiredOr, Led}
use Rattle.pin_nets.specs.Levels.{NetValue, counts_of, drive_at, four, is_opposed, is_strong, is_weak, led_by, level, level_by, net_counts, one, pull_drive, reads, shown}
use Rattle.pin_nets.specs.Places.{has_pin, times, alone, lone_nets, IsOnce, HasNetOfEach, EntersPins, AddsLoneNets, AreShort, AllNone, Placed}
use Rattle.pin_nets.proofs.Counting.{nobody, count-cons, on_none, some_of, past_end, eq_true, eq_false}

-- ---- the pins of one net

any_push : (p : ℕ) (pins : List ℕ) (q : ℕ) → list_any (λ k. k == p) (pins ++ q ∷ []) ≡ (list_any (λ k. k == p) pins || (q == p))
any_push p [] q = last (q == p)
  where
    last : (b : Bool) → (b || false) ≡ (false || b)
    last true = refl
    last false = refl
any_push p (k ∷ pins) q = step (k == p) (list_any (λ k. k == p) (pins ++ q ∷ [])) (list_any (λ k. k == p) pins) (q == p) (any_push p pins q)
  where
    step : (a x y b : Bool) → x ≡ (y || b) → (a || x) ≡ ((a || y) || b)
    step true x y b e = refl
    step false x y b e = e

pub joined_none : (old : List (Option ℕ)) (net : ℕ) → EntersPins old old net []
joined_none old net = record { long = refl; each = λ p h. refl }

pub joined_more : (old now : List (Option ℕ)) (net : ℕ) (pins : List ℕ) (i : ℕ) → i < length pins → get_or pins i 0 < length old → EntersPins old now net (take i pins)
    → EntersPins old (set now (get_or pins i 0) (Some net)) net (take (i + 1) pins)
joined_more old now net pins i h in_ so_far =
    let q = get_or pins i 0 in
    let any : (p : ℕ) → list_any (λ k. k == p) (take (i + 1) pins) ≡ (list_any (λ k. k == p) (take i pins) || (q == p)) =
    λ p. ap (list_any (λ k. k == p)) (take_more pins i 0 h) ∙ any_push p (take i pins) q in
    record {
      long = length-set now q (Some net) ∙ so_far.long;
      each = λ p k. ⊎_elim
          (λ (e : p ≡ q).
          ap (λ (n : ℕ). get_or (set now q (Some net)) n None) e ∙ get_or-set_same now q (Some net) None (omega (arith, so_far.long))
          ∙ sym (ap (λ (b : Bool). if b then Some net else get_or old p None) (any p ∙ ap (λ (b : Bool). list_any (λ k. k == p) (take i pins) || b) (eq_true q p (sym e)) ∙ or_true (list_any (λ k. k == p) (take i pins)))))
          (λ apart.
          get_or-set_other now q p (Some net) None apart ∙ so_far.each p k
          ∙ sym (ap (λ (b : Bool). if b then Some net else get_or old p None) (any p ∙ ap (λ (b : Bool). list_any (λ k. k == p) (take i pins) || b) (eq_false q p (λ e. apart (sym e))) ∙ or_false (list_any (λ k. k == p) (take i pins)))))
          (cases_eq p q);
    }
  where
    or_true : (b : Bool) → (b || true) ≡ true
    or_true true = refl
    or_true false = refl

    or_false : (b : Bool) → (b || false) ≡ b
    or_false true = refl
    or_false false = refl

-- ---- the place of a pin's net

at_place : (m len : ℕ) → m < len → (if nat_lt m len then Some m else None) ≡ Some m
at_place m len h = let t : nat_lt m len ≡ true = grind (arith, nat_tests) in rw t refl

none_past : (m len : ℕ) → len ≤ m → (if nat_lt m len then Some m else None) ≡ None
none_past m len past = let t : nat_lt m len ≡ false = grind (arith, nat_tests) in rw t refl

eq_test : (a b : ℕ) → a ≡ b → eqb a b ≡ true
eq_test a b e = grind (arith, nat_tests)

ne_test : (a b : ℕ) → a ≢ b → eqb a b ≡ false
ne_test a b e = grind (arith, nat_tests)

pushed : {X : Type 0} (f : X → Bool) (xs : List X) (x : X) (m : ℕ) → position_or_len f (xs ++ x ∷ []) ≡ m → position f (xs ++ x ∷ []) ≡ if nat_lt m (length xs + 1) then Some m else None
pushed f xs x m e =
    ap (λ (n : ℕ). if nat_lt n (length (xs ++ x ∷ [])) then Some n else None) e
    ∙ ap (λ (n : ℕ). if nat_lt m n then Some m else None) (length-append xs (x ∷ []))

pub pos_hit : {X : Type 0} (f : X → Bool) (xs : List X) (x : X) → position f xs ≡ None → f x ≡ true → position f (xs ++ x ∷ []) ≡ Some (length xs)
pos_hit f xs x none hits =
    let n = position_or_len f xs in
    let all = length xs in
    let most : n ≤ all = prefix_len-le-length (λ y. not (f y)) xs in
    let end : n ≡ all = omega (arith, past_end n all none) in
    let is : position_or_len f (xs ++ x ∷ []) ≡ all =
    position_or_len_push f xs x ∙ ap (λ (b : Bool). cond b (all + cond (f x) 0 1) n) (eq_test n all end) ∙ ap (λ (b : Bool). all + cond b 0 1) hits ∙ omega arith in
    pushed f xs x all is ∙ at_place all (all + 1) (omega arith)

pub pos_miss : {X : Type 0} (f : X → Bool) (xs : List X) (x : X) → f x ≡ false → position f (xs ++ x ∷ []) ≡ position f xs
pos_miss f xs x fails =
    let n = position_or_len f xs in
    let all = length xs in
    let most : n ≤ all = prefix_len-le-length (λ y. not (f y)) xs in
    ⊎_elim
    (λ (end : n ≡ all).
    let is : position_or_len f (xs ++ x ∷ []) ≡ all + 1 =
    position_or_len_push f xs x ∙ ap (λ (b : Bool). cond b (all + cond (f x) 0 1) n) (eq_test n all end) ∙ ap (λ (b : Bool). all + cond b 0 1) fails in
    pushed f xs x (all + 1) is ∙ none_past (all + 1) (all + 1) (omega arith) ∙ sym (none_past n all (omega arith)))
    (λ apart.
    let is : position_or_len f (xs ++ x ∷ []) ≡ n =
    position_or_len_push f xs x ∙ ap (λ (b : Bool). cond b (all + cond (f x) 0 1) n) (ne_test n all apart) in
    pushed f xs x n is ∙ at_place n (all + 1) (omega arith) ∙ sym (at_place n all (omega arith)))
    (cases_eq n all)

pub marked_push : (old new : List (Option ℕ)) (nets : List NetValue) (x : NetValue) → HasNetOfEach old nets → EntersPins old new (length nets) x.pins
    → ((p : ℕ) → has_pin p x ≡ true → position (has_pin p) nets ≡ None) → HasNetOfEach new (nets ++ x ∷ [])
marked_push old new nets x marked joined free = record {
  each = λ p h. by (has_pin p x) p (omega (arith, joined.long)) refl;
}
  where
    by : (b : Bool) (p : ℕ) → p < length old → has_pin p x ≡ b → get_or new p None ≡ position (has_pin p) (nets ++ x ∷ [])
    by true p h is = joined.each p h ∙ ap (λ (b : Bool). if b then Some (length nets) else get_or old p None) is ∙ sym (pos_hit (has_pin p) nets x (free p is) is)
    by false p h is = joined.each p h ∙ ap (λ (b : Bool). if b then Some (length nets) else get_or old p None) is ∙ marked.each p h ∙ sym (pos_miss (has_pin p) nets x is)

-- ---- a net more

slice_push : (nets : List NetValue) (x : NetValue) (n : ℕ) (y : NetValue) → slice_get (nets ++ x ∷ []) n ≡ Some y → (slice_get nets n ≡ Some y) ⊎ ((n ≡ length nets) × (x ≡ y))
slice_push [] x zero y e = let same : x ≡ y = cc in inr (refl, same)
slice_push [] x (suc n) y e = absurd (impossible e)
  where
    impossible : None ≡ Some y → ⊥
    impossible e = cc
slice_push (z ∷ nets) x zero y e = inl e
slice_push (z ∷ nets) x (suc n) y e = ⊎_elim (λ a. inl a) (λ b. inr (ap suc b.0, b.1)) (slice_push nets x n y e)

pub short_push : (nets : List NetValue) (x : NetValue) → AreShort nets → length x.pins < 2 ^ 60 → AreShort (nets ++ x ∷ [])
short_push nets x short h = record {
  each = λ n y is. ⊎_elim (λ a. short.each n y a) (λ b. subst (λ (z : NetValue). length z.pins < 2 ^ 60) b.1 h) (slice_push nets x n y is);
}

pub once_push : (nets : List NetValue) (x : NetValue) → IsOnce nets → ((p : ℕ) → times p x ≤ 1) → ((p n : ℕ) (y : NetValue) → 0 < times p x → slice_get nets n ≡ Some y → times p y ≡ 0) → IsOnce (nets ++ x ∷ [])
once_push nets x once single free = record {
  alone = λ p n y is. ⊎_elim (λ a. once.alone p n y a) (λ b. subst (λ (z : NetValue). times p z ≤ 1) b.1 (single p)) (slice_push nets x n y is);
  apart = λ p n m a b ne is_a is_b some. ⊎_elim
      (λ old_a. ⊎_elim
      (λ old_b. once.apart p n m a b ne old_a old_b some)
      (λ new_b. ⊎_elim
      (λ none. subst (λ (z : NetValue). times p z ≡ 0) new_b.1 (omega arith))
      (λ has. absurd (omega (arith, free p n a has old_a)))
      (cases_lt (times p x) 1))
      (slice_push nets x m b is_b))
      (λ new_a. ⊎_elim
      (λ old_b. free p m b (subst (λ (z : NetValue). 0 < times p z) (sym new_a.1) some) old_b)
      (λ new_b. absurd (ne (new_a.0 ∙ sym new_b.0)))
      (slice_push nets x m b is_b))
      (slice_push nets x n a is_a);
}

-- ---- the named nets

pub free_named : (whole part : List NetValue) (k : ℕ) → part ≡ take k whole → k < length whole → IsOnce whole → (p : ℕ) → has_pin p (get_or whole k nobody) ≡ true → position (has_pin p) part ≡ None
free_named whole part k are h once p has = by (position (has_pin p) part) refl
  where
    by : (o : Option ℕ) → position (has_pin p) part ≡ o → position (has_pin p) part ≡ None
    by None is = is
    by (Some m) is =
        let found = position-Some (has_pin p) part m nobody is in
        let long : length part ≤ k = omega (arith, ap length are, length-take k whole) in
        let same : get_or part m nobody ≡ get_or whole m nobody = ap (λ (l : List NetValue). get_or l m nobody) are ∙ get_or-take k whole m nobody (omega (arith, found.0)) in
        let some : 0 < times p (get_or whole k nobody) = some_of p (get_or whole k nobody).pins has in
        let also : 0 < times p (get_or whole m nobody) = some_of p (get_or whole m nobody).pins (ap (has_pin p) (sym same) ∙ found.1) in
        let none = once.apart p k m (get_or whole k nobody) (get_or whole m nobody) (λ e. omega (arith, found.0)) (slice_get-get_or whole k nobody h) (slice_get-get_or whole m nobody (omega (arith, found.0))) some in
        absurd (omega (arith, none, also))

-- ---- pins on no net

one_pin : (p q : ℕ) → has_pin p (alone q) ≡ true → q ≡ p
one_pin p q has = ⊎_elim (λ e. e) (λ apart. absurd (impossible (sym has ∙ ap (λ (b : Bool). b || false) (eq_false q p apart)))) (cases_eq q p)
  where
    impossible : true ≡ false → ⊥
    impossible e = cc

other_pin : (p q : ℕ) → q ≢ p → has_pin p (alone q) ≡ false
other_pin p q apart = ap (λ (b : Bool). b || false) (eq_false q p apart)

pub record LoneUntil (base : List NetValue) (k : ℕ) (old net_of : List (Option ℕ)) (nets : List NetValue) : Type 0 where
  pub lone : AddsLoneNets base k net_of nets
  pub long : length net_of ≡ length old
  pub ahead : (p : ℕ) → k ≤ p → position (has_pin p) nets ≡ position (has_pin p) base

abbrev is_lone : List NetValue → ℕ → Bool
is_lone base p = is_none (position (has_pin p) base)

lone_more : (base : List NetValue) (k : ℕ) → lone_nets base (k + 1) ≡ lone_nets base k ++ map alone (if is_lone base k then k ∷ [] else [])
lone_more base k =
    ap (λ (ps : List ℕ). map alone (filter (is_lone base) ps)) (sym (map-id (range_with_len 0 (k + 1))))
    ∙ ap (map alone) (filter_of_map_range_with_len_more (is_lone base) (λ p. p) 0 k k (omega arith))
    ∙ map-append alone (filter (is_lone base) (map (λ p. p) (range_with_len 0 k))) (if is_lone base k then k ∷ [] else [])
    ∙ ap (λ (ps : List ℕ). map alone (filter (is_lone base) ps) ++ map alone (if is_lone base k then k ∷ [] else [])) (map-id (range_with_len 0 k))

pub lone_taken : (base : List NetValue) (k : ℕ) (old net_of : List (Option ℕ)) (nets : List NetValue) → k < length net_of → get_or net_of k None ≡ None → LoneUntil base k old net_of nets
    → LoneUntil base (k + 1) old (set net_of k (Some (length nets))) (nets ++ alone k ∷ [])
lone_taken base k old net_of nets h none so_far =
    let lone = so_far.lone in
    let here : position (has_pin k) nets ≡ None = sym (lone.marked.each k h) ∙ none in
    let is : is_lone base k ≡ true = ap is_none (sym (so_far.ahead k (omega arith)) ∙ here) in
    let joined : EntersPins net_of (set net_of k (Some (length nets))) (length nets) (k ∷ []) = joined_more net_of net_of (length nets) (k ∷ []) 0 (omega arith) h (joined_none net_of (length nets)) in
    record {
      lone = record {
        nets =
            ap (λ (l : List NetValue). l ++ alone k ∷ []) lone.nets ∙ append_assoc base (lone_nets base k) (alone k ∷ [])
            ∙ ap (λ (l : List NetValue). base ++ l) (sym (lone_more base k ∙ ap (λ (b : Bool). lone_nets base k ++ map alone (if b then k ∷ [] else [])) is));
        marked = marked_push net_of (set net_of k (Some (length nets))) nets (alone k) lone.marked joined (λ p has. ap (λ (q : ℕ). position (has_pin q) nets) (sym (one_pin p k has)) ∙ here);
        once = once_push nets (alone k) lone.once (λ p. single p k) (λ p n y some at. free p n y some at here);
        short = short_push nets (alone k) lone.short (omega arith);
      };
      long = length-set net_of k (Some (length nets)) ∙ so_far.long;
      ahead = λ p more. pos_miss (has_pin p) nets (alone k) (other_pin p k (λ e. omega arith)) ∙ so_far.ahead p (omega arith);
    }
  where
    single : (p q : ℕ) → times p (alone q) ≤ 1
    single p q = at_most (q == p)
      where
        at_most : (b : Bool) → 0 + cond b 1 0 ≤ 1
        at_most true = omega arith
        at_most false = omega arith

    free : (p n : ℕ) (y : NetValue) → 0 < times p (alone k) → slice_get nets n ≡ Some y → position (has_pin k) nets ≡ None → times p y ≡ 0
    free p n y some at here =
        let same : k ≡ p = has (cases_eq k p) some in
        let inside = slice_get_within nets n y at in
        ap (times p) (sym (get_or_from_slice_get nets n y nobody at)) ∙ on_none p nets (ap (λ (q : ℕ). position (has_pin q) nets) (sym same) ∙ here) n inside
      where
        has : (k ≡ p) ⊎ (k ≢ p) → 0 < times p (alone k) → k ≡ p
        has (inl e) h = e
        has (inr apart) h = absurd (omega (arith, h, ap (λ (b : Bool). 0 + cond b 1 0) (eq_false k p apart)))

pub lone_left : (base : List NetValue) (k : ℕ) (old net_of : List (Option ℕ)) (nets : List NetValue) → k < length net_of → is_none (get_or net_of k None) ≡ false → LoneUntil base k old net_of nets → LoneUntil base (k + 1) old net_of nets
lone_left base k old net_of nets h taken so_far =
    let lone = so_far.lone in
    let is : is_lone base k ≡ false = ap is_none (sym (so_far.ahead k (omega arith)) ∙ sym (lone.marked.each k h)) ∙ taken in
    record {
      lone = record {
        nets = lone.nets ∙ ap (λ (l : List NetValue). base ++ l) (sym (lone_more base k ∙ ap (λ (b : Bool). lone_nets base k ++ map alone (if b then k ∷ [] else [])) is ∙ append-nil (lone_nets base k)));
        marked = lone.marked;
        once = lone.once;
        short = lone.short;
      };
      long = so_far.long;
      ahead = λ p more. so_far.ahead p (omega arith);
    }

pub placed : (net_of : List (Option ℕ)) (nets : List NetValue) → IsOnce nets → HasNetOfEach net_of nets → Placed net_of nets
placed net_of nets once marked = record {
  once = once;
  found = λ p o is. sym (get_or_from_slice_get net_of p o None is) ∙ marked.each p (slice_get_within net_of p o is);
}

-- ---- the steps as the loops take them

pub lone_step : (base : List NetValue) (k : ℕ) (old net_of entered : List (Option ℕ)) (nets more : List NetValue) (len : ℕ) (r : Bool) → k < length net_of → is_some (get_or net_of k None) ≡ not r → r ≡ true
    → len ≡ length nets → entered ≡ set net_of k (Some len) → more ≡ nets ++ alone k ∷ [] → LoneUntil base k old net_of nets → LoneUntil base (k + 1) old entered more
lone_step base k old net_of entered nets more len r h test is long set_is more_is so_far =
    subst (λ (l : List NetValue). LoneUntil base (k + 1) old entered l) (sym more_is)
    (subst (λ (l : List (Option ℕ)). LoneUntil base (k + 1) old l (nets ++ alone k ∷ [])) (sym (set_is ∙ ap (λ (n : ℕ). set net_of k (Some n)) long))
    (lone_taken base k old net_of nets h (nothing (get_or net_of k None) (test ∙ ap not is)) so_far))
  where
    nothing : (o : Option ℕ) → is_some o ≡ false → o ≡ None
    nothing None e = refl
    nothing (Some m) e = cc

pub lone_keep : (base : List NetValue) (k : ℕ) (old net_of entered : List (Option ℕ)) (nets more : List NetValue) (r : Bool) → k < length net_of → is_some (get_or net_of k None) ≡ not r → r ≡ false
    → entered ≡ net_of → more ≡ nets → LoneUntil base k old net_of nets → LoneUntil base (k + 1) old entered more
lone_keep base k old net_of entered nets more r h test is same_of same so_far =
    subst (λ (l : List NetValue). LoneUntil base (k + 1) old entered l) (sym same)
    (subst (λ (l : List (Option ℕ)). LoneUntil base (k + 1) old l nets) (sym same_of)
    (lone_left base k old net_of nets h (something (get_or net_of k None) (test ∙ ap not is)) so_far))
  where
    something : (o : Option ℕ) → is_some o ≡ true → is_none o ≡ false
    something None e = cc
    something (Some m) e = refl

pub named_at : (specs : List NetSpec) (k : ℕ) (spec : NetSpec) → k < length specs → spec ≡ get_or specs k spec → get_or (map net_value specs) k nobody ≡ net_value spec
named_at specs k spec h is = get_or-map net_value specs k spec nobody h ∙ ap net_value (sym is)

pub named_inside : (specs : List NetSpec) (k : ℕ) (spec : NetSpec) (pins : ℕ) → k < length specs → spec ≡ get_or specs k spec → HasPinsBelow pins (map net_value specs) → (i : ℕ) → i < length spec.pins.items → slice_index spec.pins.items i < pins
named_inside specs k spec pins h is below i in_ =
    below.each k i (net_value spec) (slice_get-get_or (map net_value specs) k nobody (omega (arith, length-map specs net_value)) ∙ ap Some (named_at specs k spec h is)) in_

pub marked_named : (whole nets : List NetValue) (k : ℕ) (x : NetValue) (now new : List (Option ℕ)) (len : ℕ) (pins : List ℕ) → nets ≡ take k whole → k < length whole → get_or whole k nobody ≡ x → IsOnce whole
    → HasNetOfEach now nets → EntersPins now new len pins → len ≡ length nets → pins ≡ x.pins → HasNetOfEach new (nets ++ x ∷ [])
marked_named whole nets k x now new len pins are h is once marked joined long same =
    marked_push now new nets x marked (subst (λ (n : ℕ). EntersPins now new n x.pins) long (subst (λ (ps : List ℕ). EntersPins now new len ps) same joined))
    (λ p has. free_named whole nets k are h once p (ap (has_pin p) is ∙ has))

-- ---- at first no pin drives

idle : (n q : ℕ) → drive_at (replicate n Nothing) q ≡ Nothing
idle n q = unwrap_or-slice_get (replicate n Nothing) q Nothing ∙ ⊎_elim
    (λ (less : q < n). get_or-replicate n q Nothing Nothing less)
    (λ (past : n ≤ q). get_or_past (replicate n Nothing) q Nothing (omega (arith, length-replicate n Nothing)))
    (cases_lt q n)

idle_count : (t : Drive → Bool) (n : ℕ) (first : Drive) (pins : List ℕ) → t Nothing ≡ false → count_by t (first ∷ map (drive_at (replicate n Nothing)) pins) ≡ count_by t (first ∷ [])
idle_count t n first pins quiet = count-cons t first (map (drive_at (replicate n Nothing)) pins) ∙ ap (λ (m : ℕ). one (t first) + m) (none pins) ∙ sym (count-cons t first [])
  where
    none : (pins : List ℕ) → count_by t (map (drive_at (replicate n Nothing)) pins) ≡ 0
    none [] = refl
    none (q ∷ pins) =
        count-cons t (drive_at (replicate n Nothing) q) (map (drive_at (replicate n Nothing)) pins)
        ∙ ap (λ (d : Drive). one (t d) + count_by t (map (drive_at (replicate n Nothing)) pins)) (idle n q)
        ∙ ap (λ (b : Bool). one b + count_by t (map (drive_at (replicate n Nothing)) pins)) quiet ∙ ap (λ (m : ℕ). 0 + m) (none pins)

idle_net : (n : ℕ) (x : NetValue) → counts_of (pull_drive x.pull ∷ []) ≡ net_counts (replicate n Nothing) x
idle_net n x =
    let same : (t : Drive → Bool) → t Nothing ≡ false → count_by t (pull_drive x.pull ∷ []) ≡ count_by t (pull_drive x.pull ∷ map (drive_at (replicate n Nothing)) x.pins) =
    λ t quiet. sym (idle_count t n (pull_drive x.pull) x.pins quiet) in
    λ i. record { strong_zeros = same (is_strong false) refl i; strong_ones = same (is_strong true) refl i; weak_zeros = same (is_weak false) refl i; weak_ones = same (is_weak true) refl i }

pub idle_nets : (n : ℕ) (nets : List NetValue) → map (λ x. four (counts_of (pull_drive x.pull ∷ []))) nets ≡ map (λ x. four (net_counts (replicate n Nothing) x)) nets
idle_nets n [] = refl
idle_nets n (x ∷ nets) = ap (λ (c : Counts). four c ∷ map (λ y. four (counts_of (pull_drive y.pull ∷ []))) nets) (idle_net n x) ∙ ap (λ (r : List (List ℕ)). four (net_counts (replicate n Nothing) x) ∷ r) (idle_nets n nets)

-- no two strong drivers are there where no pin drives
idle_shown : (n : ℕ) (x : NetValue) → shown x.rule (pull_drive x.pull) [] ≡ level (replicate n Nothing) x
idle_shown n x = by_rule (map (drive_at (replicate n Nothing)) x.pins) x.rule x.pull (idle_net n x)
  where
    by_rule : (those : List Drive) (r : Rule) (p : Pull) → counts_of (pull_drive p ∷ []) ≡ counts_of (pull_drive p ∷ those)
        → shown r (pull_drive p) [] ≡ shown r (pull_drive p) those
    by_rule those Counted p e = ap level_by e
    by_rule those (Tied b) p e = refl
    by_rule those WiredOr p e = ap (λ (c : Counts). if is_opposed c then One else level_by c) e
    by_rule those (Led k) Up e = ap (λ (c : Counts). if is_opposed c then led_by (take k those) else level_by c) e
    by_rule those (Led k) Down e = ap (λ (c : Counts). if is_opposed c then led_by (take k those) else level_by c) e
    by_rule those (Led k) Free e = ap (λ (c : Counts). if is_opposed c then led_by (take k those) else level_by c) e

pub idle_seen : (n : ℕ) (nets : List NetValue) → map (λ x. reads (shown x.rule (pull_drive x.pull) [])) nets ≡ map (λ x. reads (level (replicate n Nothing) x)) nets
idle_seen n [] = refl
idle_seen n (x ∷ nets) =
    ap (λ (l : Level). reads l ∷ map (λ y. reads (shown y.rule (pull_drive y.pull) [])) nets) (idle_shown n x)
    ∙ ap (λ (r : List Bool). reads (level (replicate n Nothing) x) ∷ r) (idle_seen n nets)

pub all_none : (n : ℕ) (net_of : List (Option ℕ)) → net_of ≡ replicate n None → AllNone net_of
all_none n net_of are = record {
  each = λ p h. ap (λ (l : List (Option ℕ)). get_or l p None) are ∙ get_or-replicate n p None None (omega (arith, ap length are, length-replicate {A = Option ℕ} n None));
}
