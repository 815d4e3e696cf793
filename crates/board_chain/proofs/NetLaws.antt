-- Nets by their numbers: port bits on one net of the meaning have one number.
use Rattle.std.specs.Prelude.{⊤}
use Rattle.std.proofs.Common.{◌≡◌, ◌≢◌, ◌<◌, ◌≤◌, ◌+◌, ℕ, zero, suc, Bool, true, false, ◌&&◌, ◌||◌, ◌==◌, List, [], ◌∷◌, ◌++◌, length, slice_get, get_or, Option, Some, None, unwrap_or, refl, sym, ap, ap₂, subst, ◌∙◌, arith, ◌⊎◌, inl, inr, if◌then◌else◌}
use Rattle.std.specs.List.{AllPairs, find}
use Rattle.std.proofs.lemmas.Bool.{and_parts, cases_lt, eq-eqb, eqb-true, false≢true}
use Rattle.std.proofs.lemmas.Option.{same_Some}
use Rattle.pin_nets.specs.declared.Pin.{Pin}
use Rattle.pin_nets.specs.Wired.{Net, has_port_bit, joins}
use Rattle.board_plan.specs.CellNets.{first_net}
use Rattle.board_plan.specs.Planned.{all_pins}
use Rattle.board_plan.specs.Planned as planned
use Rattle.board_loops.specs.Depending.{net_number, ports_before}
use Rattle.board_model.specs.Following.{AreFound, IsAmong}
use Rattle.board_model.specs.Nets.{lone_net, net_of}

-- ---- the first net that joins a port bit

-- it is net k of these, which are numbered from n on
record IsFirst (p a n : ℕ) (nets : List Net) (k : ℕ) (x : Net) : Type 0 where
  found : find (joins p a) nets ≡ Some x
  number : first_net p a n nets ≡ Some (n + k)
  there : slice_get nets k ≡ Some x
  joined : joins p a x ≡ true
  first : (j : ℕ) (y : Net) → j < k → slice_get nets j ≡ Some y → joins p a y ≡ false

record IsNowhere (p a n : ℕ) (nets : List Net) : Type 0 where
  found : find (joins p a) nets ≡ None
  number : first_net p a n nets ≡ None

abbrev Where : (p a n : ℕ) (nets : List Net) → Type 0
Where p a n nets = ((k : ℕ) × (x : Net) × IsFirst p a n nets k x) ⊎ IsNowhere p a n nets

where-is : (p a n : ℕ) (nets : List Net) → Where p a n nets
where-is p a n [] = inr (record { found = refl; number = refl })
where-is p a n (x ∷ nets) = by (joins p a x) refl (where-is p a (suc n) nets)
  where
    by : (b : Bool) → joins p a x ≡ b → Where p a (suc n) nets → Where p a n (x ∷ nets)
    by true is later =
        let here : n ≡ n + 0 = omega arith in
        inl (
          0,
          x,
          record {
            found = ap (λ (b : Bool). if b then Some x else find (joins p a) nets) is;
            number = ap (λ (b : Bool). if b then Some n else first_net p a (suc n) nets) is ∙ ap Some here;
            there = refl;
            joined = is;
            first = λ j y below at. absurd (omega (arith, below));
          },
        )
    by false is (inl (k, y, first)) =
        let next : suc n + k ≡ n + suc k = omega arith in
        inl (
          suc k,
          y,
          record {
            found = ap (λ (b : Bool). if b then Some x else find (joins p a) nets) is ∙ first.found;
            number = ap (λ (b : Bool). if b then Some n else first_net p a (suc n) nets) is ∙ first.number ∙ ap Some next;
            there = first.there;
            joined = first.joined;
            first = λ j z below at. before j z below at;
          },
        )
      where
        before : (j : ℕ) (z : Net) → j < suc k → slice_get (x ∷ nets) j ≡ Some z → joins p a z ≡ false
        before zero z below at = ap (joins p a) (sym (same_Some x z at)) ∙ is
        before (suc j) z below at = first.first j z (omega (arith, below)) at
    by false is (inr none) = inr (record {
      found = ap (λ (b : Bool). if b then Some x else find (joins p a) nets) is ∙ none.found;
      number = ap (λ (b : Bool). if b then Some n else first_net p a (suc n) nets) is ∙ none.number;
    })

-- ---- one net, one number

one-pin : (p a q b : ℕ) → joins p a (lone_net q b) ≡ true → (p ≡ q) × (a ≡ b)
one-pin p a q b e = by (q == p) (b == a) refl refl e
  where
    by : (x y : Bool) → (q == p) ≡ x → (b == a) ≡ y → ((x && y) || false) ≡ true → (p ≡ q) × (a ≡ b)
    by true true device port h = (sym (eqb-true q p device), sym (eqb-true b a port))
    by true false device port h = absurd (false≢true h)
    by false y device port h = absurd (false≢true h)

abbrev its-pin : Net → Pin
its-pin net = get_or net.pins 0 (record { device = 0; port = 0 })

pub same_number : (w : planned.Wiring) (p a q b : ℕ) → net_of w.nets p a ≡ net_of w.nets q b → net_number w p a ≡ net_number w q b
same_number w p a q b same = by (where-is p a 0 w.nets) (where-is q b 0 w.nets)
  where
    at-pin : p ≡ q → a ≡ b → net_number w p a ≡ net_number w q b
    at-pin here there = ap₂ (λ d port. net_number w d port) here there

    stands : (d port : ℕ) (k : ℕ) (x : Net) → IsFirst d port 0 w.nets k x → net_of w.nets d port ≡ x
    stands d port k x first = ap (λ (o : Option Net). unwrap_or o (lone_net d port)) first.found

    alone : (d port : ℕ) → IsNowhere d port 0 w.nets → net_of w.nets d port ≡ lone_net d port
    alone d port none = ap (λ (o : Option Net). unwrap_or o (lone_net d port)) none.found

    -- of two places of one net neither is before the other
    not-before : (d port e other k l : ℕ) (x y : Net) → IsFirst d port 0 w.nets k x → IsFirst e other 0 w.nets l y → x ≡ y → k < l → ⊥
    not-before d port e other k l x y one two is below =
        false≢true (sym (two.first k x below one.there) ∙ ap (joins e other) is ∙ two.joined)

    number-of : (d port k : ℕ) (x : Net) → IsFirst d port 0 w.nets k x → net_number w d port ≡ k
    number-of d port k x first =
        let none : 0 + k ≡ k = omega arith in
        ap (λ (o : Option ℕ). unwrap_or o (length w.nets + ports_before d w.members + port)) (first.number ∙ ap Some none)

    by : Where p a 0 w.nets → Where q b 0 w.nets → net_number w p a ≡ net_number w q b
    by (inl (k, x, one)) (inl (l, y, two)) =
        let is : x ≡ y = sym (stands p a k x one) ∙ same ∙ stands q b l y two in
        let place : k ≡ l = equal (cases_lt k l) (cases_lt l k) is in
        number-of p a k x one ∙ place ∙ sym (number-of q b l y two)
      where
        equal : (k < l) ⊎ (l ≤ k) → (l < k) ⊎ (k ≤ l) → x ≡ y → k ≡ l
        equal (inl low) other is = absurd (not-before p a q b k l x y one two is low)
        equal (inr high) (inl low) is = absurd (not-before q b p a l k y x two one (sym is) low)
        equal (inr high) (inr low) is = omega (arith, high, low)
    by (inl (k, x, one)) (inr none) =
        let is : x ≡ lone_net q b = sym (stands p a k x one) ∙ same ∙ alone q b none in
        let pin = one-pin p a q b (sym (ap (joins p a) is) ∙ one.joined) in
        at-pin pin.0 pin.1
    by (inr none) (inl (l, y, two)) =
        let is : y ≡ lone_net p a = sym (stands q b l y two) ∙ sym same ∙ alone p a none in
        let pin = one-pin q b p a (sym (ap (joins q b) is) ∙ two.joined) in
        at-pin (sym pin.0) (sym pin.1)
    by (inr one) (inr two) =
        let is : lone_net p a ≡ lone_net q b = sym (alone p a one) ∙ same ∙ alone q b two in
        at-pin (ap (λ (x : Net). (its-pin x).device) is) (ap (λ (x : Net). (its-pin x).port) is)

-- ---- pins that stand once are found

-- none of these pins stands twice
abbrev Once : List Pin → Type 0
Once [] = ⊤
Once (p ∷ ps) = ((q : Pin) → IsAmong q ps → p ≢ q) × Once ps

at-among : (ps : List Pin) (q : Pin) → IsAmong q ps → (i : ℕ) × (i < length ps) × ((d : Pin) → get_or ps i d ≡ q)
at-among [] q among = absurd among
at-among (p ∷ ps) q (inl e) = (0, omega arith, λ d. e)
at-among (p ∷ ps) q (inr later) = let its = at-among ps q later in (suc its.0, omega (arith, its.1), its.2)

once : (ps : List Pin) → AllPairs (λ (p q : Pin). p ≢ q) ps → Once ps
once [] apart = tt
once (p ∷ ps) apart = (
  (λ q among e.
      let its = at-among ps q among in
      apart 0 (suc its.0) p (omega arith) (omega (arith, its.1)) (e ∙ sym (its.2 p))),
  once ps (λ i j d below inside. apart (suc i) (suc j) d (omega (arith, below)) (omega (arith, inside))),
)

among-both : (ps qs : List Pin) (q : Pin) → IsAmong q qs → IsAmong q (ps ++ qs)
among-both [] qs q among = among
among-both (p ∷ ps) qs q among = inr (among-both ps qs q among)

among-all : (nets : List Net) (net : Net) (q : Pin) → IsAmong net nets → IsAmong q net.pins → IsAmong q (all_pins nets)
among-all [] net q there on = absurd there
among-all (x ∷ nets) net q (inl e) on = first x.pins (subst (λ (n : Net). IsAmong q n.pins) (sym e) on)
  where
    first : (ps : List Pin) → IsAmong q ps → IsAmong q (ps ++ all_pins nets)
    first [] among = absurd among
    first (p ∷ ps) (inl e) = inl e
    first (p ∷ ps) (inr later) = inr (first ps later)
among-all (x ∷ nets) net q (inr later) on = among-both x.pins (all_pins nets) q (among-all nets net q later on)

-- whether the pin is one of a net, as the net is looked for and as it is meant
true-or : (b : Bool) → (b || true) ≡ true
true-or true = refl
true-or false = refl

joined : (ps : List Pin) (q : Pin) → IsAmong q ps → has_port_bit q.device q.port ps ≡ true
joined [] q among = absurd among
joined (p ∷ ps) q (inl e) =
    ap (λ (b : Bool). b || has_port_bit q.device q.port ps)
    (ap₂ (λ (x y : Bool). x && y) (eq-eqb p.device q.device (ap (λ (r : Pin). r.device) e)) (eq-eqb p.port q.port (ap (λ (r : Pin). r.port) e)))
joined (p ∷ ps) q (inr later) =
    ap (λ (b : Bool). ((p.device == q.device) && (p.port == q.port)) || b) (joined ps q later) ∙ true-or ((p.device == q.device) && (p.port == q.port))

is-joined : (ps : List Pin) (q : Pin) → has_port_bit q.device q.port ps ≡ true → IsAmong q ps
is-joined [] q e = absurd (false≢true e)
is-joined (p ∷ ps) q e = by ((p.device == q.device) && (p.port == q.port)) refl e (is-joined ps q)
  where
    by : (b : Bool) → ((p.device == q.device) && (p.port == q.port)) ≡ b → (b || has_port_bit q.device q.port ps) ≡ true
        → (has_port_bit q.device q.port ps ≡ true → IsAmong q ps) → IsAmong q (p ∷ ps)
    by true is h rest =
        let both = and_parts (p.device == q.device) (p.port == q.port) is in
        let device : p.device ≡ q.device = eqb-true p.device q.device both.0 in
        let port : p.port ≡ q.port = eqb-true p.port q.port both.1 in
        inl (λ i. record { device = device i; port = port i })
    by false is h rest = inr (rest h)

rest-once : (ps qs : List Pin) → Once (ps ++ qs) → Once qs
rest-once [] qs is = is
rest-once (p ∷ ps) qs is = rest-once ps qs is.1

not-both : (ps qs : List Pin) (q : Pin) → Once (ps ++ qs) → IsAmong q ps → IsAmong q qs → ⊥
not-both [] qs q is among later = among
not-both (p ∷ ps) qs q is (inl e) later = is.0 q (among-both ps qs q later) e
not-both (p ∷ ps) qs q is (inr among) later = not-both ps qs q is.1 among later

find-once : (nets : List Net) → Once (all_pins nets) → AreFound nets
find-once [] is net there pin on = absurd there
find-once (x ∷ nets) is net (inl e) pin on =
    let here = joined x.pins pin (subst (λ (n : Net). IsAmong pin n.pins) (sym e) on) in
    ap (λ (b : Bool). if b then Some x else find (joins pin.device pin.port) nets) here ∙ ap Some e
find-once (x ∷ nets) is net (inr later) pin on =
    by (joins pin.device pin.port x) refl (find-once nets (rest-once x.pins (all_pins nets) is) net later pin on)
  where
    by : (b : Bool) → joins pin.device pin.port x ≡ b → find (joins pin.device pin.port) nets ≡ Some net
        → find (joins pin.device pin.port) (x ∷ nets) ≡ Some net
    by true e rest = absurd (not-both x.pins (all_pins nets) pin is (is-joined x.pins pin e) (among-all nets net pin later on))
    by false e rest = ap (λ (b : Bool). if b then Some x else find (joins pin.device pin.port) nets) e ∙ rest

pub are_found : (nets : List Net) → AllPairs (λ (p q : Pin). p ≢ q) (all_pins nets) → AreFound nets
are_found nets apart = find-once nets (once (all_pins nets) apart)
