-- How pins are numbered, net after net.
use Rattle.std.proofs.Common.{◌≡◌, ◌<◌, ◌≤◌, ℕ, zero, suc, ◌+◌, ◌==◌, List, [], ◌∷◌, ◌++◌, length, map, take, get_or, slice_get, Some, refl, sym, ap, ◌∙◌, arith, append_assoc, ◌⊎◌, inl, inr}
use Rattle.std.specs.List.{count_by, range_with_len}
use Rattle.std.proofs.lemmas.Bool.{cases_eq, cases_lt}
use Rattle.std.proofs.lemmas.List.{append-nil, length-append, length-take, map-append, take_more}
use Rattle.std.proofs.lemmas.List.FromFn.{get_or-range_with_len, length-range_with_len}
use Rattle.std.proofs.lemmas.Option.{none-some, same_Some}
use Rattle.pin_nets.specs.declared.Pin.{Pin}
use Rattle.pin_nets.specs.declared.build.NetSpec.{NetSpec}
use Rattle.pin_nets.specs.Building.{HasPinsBelow, net_value}
use Rattle.pin_nets.specs.Levels.{NetValue, one}
use Rattle.pin_nets.specs.Places.{IsOnce, times}
use Rattle.pin_nets.specs.Wired.{Net}
use Rattle.pin_nets.proofs.Counting.{count-cons, eq_false, eq_true}
use Rattle.board_plan.specs.PinNumbers.{with_pin_numbers}
use Rattle.board_plan.specs.Planned.{all_pins}
use Rattle.board_plan.specs.View.{net as planned_net}
use Rattle.board_plan.specs.declared.plan.PlannedNet.{PlannedNet}

-- ---- numbers

pub range_more : (a n : ℕ) → range_with_len a (n + 1) ≡ range_with_len a n ++ (a + n) ∷ []
range_more a zero = let same : a ≡ a + 0 = omega arith in ap (λ (k : ℕ). k ∷ []) same
range_more a (suc n) =
    let next : suc n + 1 ≡ suc (n + 1) = omega arith in
    let same : (a + 1) + n ≡ a + suc n = omega arith in
    ap (range_with_len a) next ∙ ap (λ (l : List ℕ). a ∷ l) (range_more (a + 1) n) ∙ ap (λ (k : ℕ). a ∷ range_with_len (a + 1) n ++ k ∷ []) same

pub numbered_more : (k : ℕ) (ns : List Net) (n : Net) (at : ℕ) → at ≡ k + length (all_pins ns)
    → with_pin_numbers k (ns ++ n ∷ []) ≡ with_pin_numbers k ns ++ record { pull = n.pull; rule = n.rule; pins = range_with_len at (length n.pins) } ∷ []
numbered_more k [] n at e = let same : k ≡ at = omega (arith, e) in ap (λ (j : ℕ). record { pull = n.pull; rule = n.rule; pins = range_with_len j (length n.pins) } ∷ []) same
numbered_more k (x ∷ ns) n at e =
    ap (λ (r : List NetValue). record { pull = x.pull; rule = x.rule; pins = range_with_len k (length x.pins) } ∷ r)
    (numbered_more (k + length x.pins) ns n at (omega (arith, e, length-append x.pins (all_pins ns))))

pub pins_more : (ns : List Net) (n : Net) → all_pins (ns ++ n ∷ []) ≡ all_pins ns ++ n.pins
pins_more [] n = append-nil n.pins
pins_more (x ∷ ns) n = ap (λ (r : List Pin). x.pins ++ r) (pins_more ns n) ∙ sym (append_assoc x.pins (all_pins ns) n.pins)

-- ---- each pin has a number of its own

-- how often a number is among these
low : (p a n : ℕ) → p < a → count_by (λ (q : ℕ). q == p) (range_with_len a n) ≡ 0
low p a zero h = refl
low p a (suc n) h =
    let here : one (a == p) ≡ 0 = ap one (eq_false a p (λ e. absurd (omega (arith, e, h)))) in
    omega (arith, count-cons (λ (q : ℕ). q == p) a (range_with_len (a + 1) n), here, low p (a + 1) n (omega (arith, h)))

high : (p a n : ℕ) → a + n ≤ p → count_by (λ (q : ℕ). q == p) (range_with_len a n) ≡ 0
high p a zero h = refl
high p a (suc n) h =
    let here : one (a == p) ≡ 0 = ap one (eq_false a p (λ e. absurd (omega (arith, e, h)))) in
    omega (arith, count-cons (λ (q : ℕ). q == p) a (range_with_len (a + 1) n), here, high p (a + 1) n (omega (arith, h)))

at-most : (p a n : ℕ) → count_by (λ (q : ℕ). q == p) (range_with_len a n) ≤ 1
at-most p a zero = omega arith
at-most p a (suc n) = by (at-most p (a + 1) n) (cases_eq a p)
  where
    rest : ℕ
    rest = count_by (λ (q : ℕ). q == p) (range_with_len (a + 1) n)

    by : rest ≤ 1 → (a ≡ p) ⊎ (a ≡ p → ⊥) → count_by (λ (q : ℕ). q == p) (range_with_len a (suc n)) ≤ 1
    by few (inl e) =
        let here : one (a == p) ≡ 1 = ap one (eq_true a p e) in
        omega (arith, count-cons (λ (q : ℕ). q == p) a (range_with_len (a + 1) n), here, low p (a + 1) n (omega (arith, e)))
    by few (inr other) =
        let here : one (a == p) ≡ 0 = ap one (eq_false a p other) in
        omega (arith, count-cons (λ (q : ℕ). q == p) a (range_with_len (a + 1) n), here, few)

-- net n of those from number k on
record Ranged (k : ℕ) (ns : List Net) (n : ℕ) (x : NetValue) : Type 0 where
  from : ℕ
  long : ℕ
  is : x.pins ≡ range_with_len from long
  start : k ≤ from
  end : from + long ≤ k + length (all_pins ns)

ranged-at : (k : ℕ) (ns : List Net) (n : ℕ) (x : NetValue) → slice_get (with_pin_numbers k ns) n ≡ Some x → Ranged k ns n x
ranged-at k [] n x at = absurd (none-some x at)
ranged-at k (m ∷ ns) zero x at = record {
  from = k;
  long = length m.pins;
  is = ap (λ (v : NetValue). v.pins) (sym (same_Some _ _ at));
  start = omega arith;
  end = omega (arith, length-append m.pins (all_pins ns));
}
ranged-at k (m ∷ ns) (suc n) x at =
    let r = ranged-at (k + length m.pins) ns n x at in
    record { from = r.from; long = r.long; is = r.is; start = omega (arith, r.start); end = omega (arith, r.end, length-append m.pins (all_pins ns)) }

-- an earlier net ends before a later one starts
earlier : (k : ℕ) (ns : List Net) (n m p : ℕ) (x y : NetValue) → n < m → slice_get (with_pin_numbers k ns) n ≡ Some x → slice_get (with_pin_numbers k ns) m ≡ Some y
    → (0 < times p x → times p y ≡ 0) × (0 < times p y → times p x ≡ 0)
earlier k [] n m p x y h at there = absurd (none-some x at)
earlier k (z ∷ ns) n zero p x y h at there = absurd (omega (arith, h))
earlier k (z ∷ ns) (suc n) (suc m) p x y h at there = earlier (k + length z.pins) ns n m p x y (omega (arith, h)) at there
earlier k (z ∷ ns) zero (suc m) p x y h at there =
    let r = ranged-at (k + length z.pins) ns m y there in
    let first : times p x ≡ count_by (λ (q : ℕ). q == p) (range_with_len k (length z.pins)) = ap (times p) (sym (same_Some _ _ at)) in
    let second : times p y ≡ count_by (λ (q : ℕ). q == p) (range_with_len r.from r.long) = ap (λ (l : List ℕ). count_by (λ (q : ℕ). q == p) l) r.is in
    ((λ some. by-first r first second (cases_lt p (k + length z.pins)) some), (λ some. by-second r first second (cases_lt p r.from) some))
  where
    by-first : (r : Ranged (k + length z.pins) ns m y) → times p x ≡ count_by (λ (q : ℕ). q == p) (range_with_len k (length z.pins))
        → times p y ≡ count_by (λ (q : ℕ). q == p) (range_with_len r.from r.long) → (p < k + length z.pins) ⊎ (k + length z.pins ≤ p) → 0 < times p x → times p y ≡ 0
    by-first r first second (inl below) some = second ∙ low p r.from r.long (omega (arith, below, r.start))
    by-first r first second (inr above) some = absurd (omega (arith, some, first, high p k (length z.pins) above))

    by-second : (r : Ranged (k + length z.pins) ns m y) → times p x ≡ count_by (λ (q : ℕ). q == p) (range_with_len k (length z.pins))
        → times p y ≡ count_by (λ (q : ℕ). q == p) (range_with_len r.from r.long) → (p < r.from) ⊎ (r.from ≤ p) → 0 < times p y → times p x ≡ 0
    by-second r first second (inl below) some = absurd (omega (arith, some, second, low p r.from r.long below))
    by-second r first second (inr above) some = first ∙ high p k (length z.pins) (omega (arith, above, r.start))

pub numbered_once : (ns : List Net) → IsOnce (with_pin_numbers 0 ns)
numbered_once ns = record {
  alone = λ p n x at. let r = ranged-at 0 ns n x at in
      let is : times p x ≡ count_by (λ (q : ℕ). q == p) (range_with_len r.from r.long) = ap (λ (l : List ℕ). count_by (λ (q : ℕ). q == p) l) r.is in
      omega (arith, is, at-most p r.from r.long);
  apart = λ p n m x y differ at there. by p n m x y differ at there (cases_lt n m);
}
  where
    by : (p n m : ℕ) (x y : NetValue) → (n ≡ m → ⊥) → slice_get (with_pin_numbers 0 ns) n ≡ Some x → slice_get (with_pin_numbers 0 ns) m ≡ Some y → (n < m) ⊎ (m ≤ n) → 0 < times p x → times p y ≡ 0
    by p n m x y differ at there (inl h) = (earlier 0 ns n m p x y h at there).0
    by p n m x y differ at there (inr h) = (earlier 0 ns m n p y x (omega (arith, h, differ)) there at).1

pub numbered_below : (ns : List Net) (pins : ℕ) → pins ≡ length (all_pins ns) → HasPinsBelow pins (with_pin_numbers 0 ns)
numbered_below ns pins e = record {
  each = λ n i x at inside.
      let r = ranged-at 0 ns n x at in
      let long : i < r.long = omega (arith, inside, ap length r.is, length-range_with_len r.from r.long) in
      let here : get_or x.pins i 0 ≡ r.from + i = ap (λ (l : List ℕ). get_or l i 0) r.is ∙ get_or-range_with_len r.from r.long i 0 long in
      omega (arith, here, r.end, long, e);
}

-- ---- lists that grow

pub number_more : (old more : List Pin) (i : ℕ) (pins pins' : List Pin) (numbers numbers' : List ℕ) (len : ℕ) (d : Pin) → i < length more
    → numbers ≡ range_with_len (length old) i → pins ≡ old ++ take i more → len ≡ length pins → numbers' ≡ numbers ++ len ∷ [] → pins' ≡ pins ++ get_or more i d ∷ []
    → record { numbers : numbers' ≡ range_with_len (length old) (i + 1); pins : pins' ≡ old ++ take (i + 1) more }
number_more old more i pins pins' numbers numbers' len d h nums are is number pin = record {
  numbers =
      let last : len ≡ length old + i = omega (arith, is, ap length are, length-append old (take i more), length-take i more, h) in
      number ∙ ap (λ (l : List ℕ). l ++ len ∷ []) nums ∙ ap (λ (k : ℕ). range_with_len (length old) i ++ k ∷ []) last ∙ sym (range_more (length old) i);
  pins = pin ∙ ap (λ (l : List Pin). l ++ get_or more i d ∷ []) are ∙ append_assoc old (take i more) (get_or more i d ∷ []) ∙ ap (λ (l : List Pin). old ++ l) (sym (take_more more i d h));
}

pub number_net : (old : List Pin) (all : List PlannedNet) (i : ℕ) (x : PlannedNet) (pins pins' : List Pin) (specs specs' : List NetSpec) (s : NetSpec) (numbers : List ℕ) (own : List Pin)
    → i < length all → x ≡ get_or all i x → map net_value specs ≡ with_pin_numbers (length old) (map planned_net (take i all)) → pins ≡ old ++ all_pins (map planned_net (take i all))
    → own ≡ x.pins.items → numbers ≡ range_with_len (length pins) (length own) → pins' ≡ pins ++ own → net_value s ≡ record { pull = x.pull; rule = x.rule; pins = numbers } → specs' ≡ specs ++ s ∷ []
    → record { nets : map net_value specs' ≡ with_pin_numbers (length old) (map planned_net (take (i + 1) all)); pins : pins' ≡ old ++ all_pins (map planned_net (take (i + 1) all)) }
number_net old all i x pins pins' specs specs' s numbers own h is nums are its range more value pushed =
    let before = map planned_net (take i all) in
    let grown : map planned_net (take (i + 1) all) ≡ before ++ planned_net x ∷ [] =
    ap (map planned_net) (take_more all i x h) ∙ map-append planned_net (take i all) (get_or all i x ∷ []) ∙ ap (λ (y : PlannedNet). before ++ planned_net y ∷ []) (sym is) in
    let at : length pins ≡ length old + length (all_pins before) = ap length are ∙ length-append old (all_pins before) in
    let pins-are : numbers ≡ range_with_len (length pins) (length x.pins.items) = range ∙ ap (λ (l : List Pin). range_with_len (length pins) (length l)) its in
    record {
      nets =
          ap (map net_value) pushed ∙ map-append net_value specs (s ∷ [])
          ∙ ap (λ (l : List NetValue). l ++ net_value s ∷ []) nums
          ∙ ap (λ (v : NetValue). with_pin_numbers (length old) before ++ v ∷ []) (value ∙ ap (λ (l : List ℕ). record { pull = x.pull; rule = x.rule; pins = l }) pins-are)
          ∙ sym (numbered_more (length old) before (planned_net x) (length pins) at)
          ∙ sym (ap (with_pin_numbers (length old)) grown);
      pins =
          more ∙ ap (λ (l : List Pin). pins ++ l) its ∙ ap (λ (l : List Pin). l ++ x.pins.items) are ∙ append_assoc old (all_pins before) x.pins.items
          ∙ ap (λ (l : List Pin). old ++ l) (sym (pins_more before (planned_net x)) ∙ sym (ap all_pins grown));
    }
