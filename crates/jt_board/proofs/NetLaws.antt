-- Nets and their numbers.
use Rattle.std.proofs.Common.{◌≡◌, ◌<◌, ◌≤◌, ℕ, zero, suc, ◌+◌, Bool, true, false, ◌&&◌, ◌||◌, cond, List, [], ◌∷◌, length, find, get_or, slice_get, Option, Some, None, unwrap_or, refl, ap, ap₂, sym, subst, ◌∙◌, ◌⊎◌, inl, inr, arith}
use Rattle.std.proofs.lemmas.Bool.{cases_Bool, cases_order, eq-eqb, false≢true}
use Rattle.std.proofs.lemmas.Option.{none-some, same_Some, slice_get_within}
use Rattle.pin_nets.specs.declared.Pin.{Pin}
use Rattle.pin_nets.specs.Wired.{Net, joins}
use Rattle.board_plan.specs.CellNets.{first_net}
use Rattle.board_plan.specs.Planned.{Member, Wiring}
use Rattle.board_loops.specs.Depending.{net_number, ports_before}
use Rattle.board_model.specs.Nets.{lone_net, net_of}

-- ---- numbers of nets

-- a port bit on a net with a name, which stands at this place
record IsNamed (device port n : ℕ) (nets : List Net) : Type 0 where
  place : ℕ
  net : Net
  number : first_net device port n nets ≡ Some (n + place)
  found : find (joins device port) nets ≡ Some net
  stands : slice_get nets place ≡ Some net
  joined : joins device port net ≡ true
  first : (j : ℕ) (x : Net) → j < place → slice_get nets j ≡ Some x → joins device port x ≡ false

-- one on none
record IsAlone (device port n : ℕ) (nets : List Net) : Type 0 where
  number : first_net device port n nets ≡ None
  found : find (joins device port) nets ≡ None
  none : (j : ℕ) (x : Net) → slice_get nets j ≡ Some x → joins device port x ≡ false

named_or_alone : (device port n : ℕ) (nets : List Net) → IsNamed device port n nets ⊎ IsAlone device port n nets
named_or_alone device port n [] = inr (record { number = refl; found = refl; none = λ j x at. absurd (none-some x at) })
named_or_alone device port n (net ∷ nets) = elim (cases_Bool (joins device port net)) [
  | inl hit ↦
      let here : n ≡ n + 0 = omega arith in
      inl (record {
        place = 0;
        net = net;
        number = ap (λ (b : Bool). cond b (Some n) (first_net device port (suc n) nets)) hit ∙ ap Some here;
        found = ap (λ (b : Bool). cond b (Some net) (find (joins device port) nets)) hit;
        stands = refl;
        joined = hit;
        first = λ j x low at. absurd (omega (arith, low));
      })
  | inr miss ↦
      let number : first_net device port n (net ∷ nets) ≡ first_net device port (suc n) nets = ap (λ (b : Bool). cond b (Some n) (first_net device port (suc n) nets)) miss in
      let found : find (joins device port) (net ∷ nets) ≡ find (joins device port) nets = ap (λ (b : Bool). cond b (Some net) (find (joins device port) nets)) miss in
      elim (named_or_alone device port (suc n) nets) [
        | inl it ↦
            let next : suc n + it.place ≡ n + suc it.place = omega arith in
            inl (record {
              place = suc it.place;
              net = it.net;
              number = number ∙ it.number ∙ ap Some next;
              found = found ∙ it.found;
              stands = it.stands;
              joined = it.joined;
              first = first_more device port net nets it.place miss it.first;
            })
        | inr it ↦ inr (record { number = number ∙ it.number; found = found ∙ it.found; none = none_more device port net nets miss it.none })
      ]
]
  where
    first_more : (device port : ℕ) (net : Net) (nets : List Net) (place : ℕ) → joins device port net ≡ false
        → ((j : ℕ) (x : Net) → j < place → slice_get nets j ≡ Some x → joins device port x ≡ false)
        → (j : ℕ) (x : Net) → j < suc place → slice_get (net ∷ nets) j ≡ Some x → joins device port x ≡ false
    first_more device port net nets place miss first zero x low at = subst (λ (y : Net). joins device port y ≡ false) (same_Some net x at) miss
    first_more device port net nets place miss first (suc j) x low at = first j x (omega (arith, low)) at

    none_more : (device port : ℕ) (net : Net) (nets : List Net) → joins device port net ≡ false
        → ((j : ℕ) (x : Net) → slice_get nets j ≡ Some x → joins device port x ≡ false)
        → (j : ℕ) (x : Net) → slice_get (net ∷ nets) j ≡ Some x → joins device port x ≡ false
    none_more device port net nets miss none zero x at = subst (λ (y : Net). joins device port y ≡ false) (same_Some net x at) miss
    none_more device port net nets miss none (suc j) x at = none j x at

joins_alone : (device port : ℕ) → joins device port (lone_net device port) ≡ true
joins_alone device port = ap₂ (λ (a b : Bool). (a && b) || false) (eq-eqb device device refl) (eq-eqb port port refl)

-- a net by itself is told by its pin
pin_alone : (p a q b : ℕ) → lone_net p a ≡ lone_net q b → (p ≡ q) × (a ≡ b)
pin_alone p a q b e =
    let nowhere : Pin = record { device = 0; port = 0 } in
    (ap (λ (net : Net). (get_or net.pins 0 nowhere).device) e, ap (λ (net : Net). (get_or net.pins 0 nowhere).port) e)

-- port bits on one net have its number
pub same_number : (w : Wiring) (p a q b : ℕ) → net_of w.nets p a ≡ net_of w.nets q b → net_number w p a ≡ net_number w q b
same_number w p a q b e = elim (named_or_alone p a 0 w.nets) [
  | inl one ↦
      let is : net_of w.nets p a ≡ one.net = ap (λ (o : Option Net). unwrap_or o (lone_net p a)) one.found in
      let number : net_number w p a ≡ 0 + one.place = ap (λ (o : Option ℕ). unwrap_or o (length w.nets + ports_before p w.members + a)) one.number in
      elim (named_or_alone q b 0 w.nets) [
        | inl other ↦
            let same : one.net ≡ other.net = sym is ∙ e ∙ ap (λ (o : Option Net). unwrap_or o (lone_net q b)) other.found in
            let other_number : net_number w q b ≡ 0 + other.place = ap (λ (o : Option ℕ). unwrap_or o (length w.nets + ports_before q w.members + b)) other.number in
            elim (cases_order one.place other.place) [
              | inl place ↦ number ∙ ap (λ (k : ℕ). 0 + k) place ∙ sym other_number
              | inr apart ↦ elim apart [
                | inl low ↦ absurd (false≢true (sym (other.first one.place one.net low one.stands) ∙ ap (joins q b) same ∙ other.joined))
                | inr high ↦ absurd (false≢true (sym (one.first other.place other.net high other.stands) ∙ ap (joins p a) (sym same) ∙ one.joined))
              ]
            ]
        | inr other ↦
            let same : one.net ≡ lone_net q b = sym is ∙ e ∙ ap (λ (o : Option Net). unwrap_or o (lone_net q b)) other.found in
            absurd (false≢true (sym (other.none one.place one.net one.stands) ∙ ap (joins q b) same ∙ joins_alone q b))
      ]
  | inr one ↦
      let is : net_of w.nets p a ≡ lone_net p a = ap (λ (o : Option Net). unwrap_or o (lone_net p a)) one.found in
      elim (named_or_alone q b 0 w.nets) [
        | inl other ↦
            let same : lone_net p a ≡ other.net = sym is ∙ e ∙ ap (λ (o : Option Net). unwrap_or o (lone_net q b)) other.found in
            absurd (false≢true (sym (one.none other.place other.net other.stands) ∙ ap (joins p a) (sym same) ∙ joins_alone p a))
        | inr other ↦
            let same : lone_net p a ≡ lone_net q b = sym is ∙ e ∙ ap (λ (o : Option Net). unwrap_or o (lone_net q b)) other.found in
            let pin = pin_alone p a q b same in
            ap₂ (λ (d k : ℕ). net_number w d k) pin.0 pin.1
      ]
]

-- ---- and the other way round

ports_below : (ms : List Member) (p q : ℕ) (m : Member) → p < q → slice_get ms p ≡ Some m → ports_before p ms + length m.device.ports ≤ ports_before q ms
ports_below [] p q m low at = absurd (none-some m at)
ports_below (x ∷ ms) p zero m low at = absurd (omega (arith, low))
ports_below (x ∷ ms) zero (suc q) m low at =
    let same : length x.device.ports ≡ length m.device.ports = ap (λ (y : Member). length y.device.ports) (same_Some x m at) in
    omega (arith, same)
ports_below (x ∷ ms) (suc p) (suc q) m low at =
    let rest = ports_below ms p q m (omega (arith, low)) at in
    omega (arith, rest)

-- port bits with one number are on one net
pub same_net : (w : Wiring) (p a q b : ℕ) (m n : Member) → slice_get w.members p ≡ Some m → slice_get w.members q ≡ Some n → a < length m.device.ports → b < length n.device.ports
    → net_number w p a ≡ net_number w q b → net_of w.nets p a ≡ net_of w.nets q b
same_net w p a q b m n at-p at-q in-a in-b e = elim (named_or_alone p a 0 w.nets) [
  | inl one ↦
      let is : net_of w.nets p a ≡ one.net = ap (λ (o : Option Net). unwrap_or o (lone_net p a)) one.found in
      let number : net_number w p a ≡ 0 + one.place = ap (λ (o : Option ℕ). unwrap_or o (length w.nets + ports_before p w.members + a)) one.number in
      elim (named_or_alone q b 0 w.nets) [
        | inl other ↦
            let other_number : net_number w q b ≡ 0 + other.place = ap (λ (o : Option ℕ). unwrap_or o (length w.nets + ports_before q w.members + b)) other.number in
            let place : one.place ≡ other.place = omega (arith, e, number, other_number) in
            is ∙ same_Some one.net other.net (sym one.stands ∙ ap (slice_get w.nets) place ∙ other.stands)
            ∙ sym (ap (λ (o : Option Net). unwrap_or o (lone_net q b)) other.found)
        | inr other ↦
            let other_number : net_number w q b ≡ length w.nets + ports_before q w.members + b = ap (λ (o : Option ℕ). unwrap_or o (length w.nets + ports_before q w.members + b)) other.number in
            absurd (omega (arith, e, number, other_number, slice_get_within w.nets one.place one.net one.stands))
      ]
  | inr one ↦
      let number : net_number w p a ≡ length w.nets + ports_before p w.members + a = ap (λ (o : Option ℕ). unwrap_or o (length w.nets + ports_before p w.members + a)) one.number in
      elim (named_or_alone q b 0 w.nets) [
        | inl other ↦
            let other_number : net_number w q b ≡ 0 + other.place = ap (λ (o : Option ℕ). unwrap_or o (length w.nets + ports_before q w.members + b)) other.number in
            absurd (omega (arith, e, number, other_number, slice_get_within w.nets other.place other.net other.stands))
        | inr other ↦
            let other_number : net_number w q b ≡ length w.nets + ports_before q w.members + b = ap (λ (o : Option ℕ). unwrap_or o (length w.nets + ports_before q w.members + b)) other.number in
            elim (cases_order p q) [
              | inl same ↦
                  let port : a ≡ b = omega (arith, e, number, other_number, ap (λ (k : ℕ). ports_before k w.members) same) in
                  ap₂ (λ (d k : ℕ). net_of w.nets d k) same port
              | inr apart ↦ elim apart [
                | inl low ↦ absurd (omega (arith, e, number, other_number, in-a, ports_below w.members p q m low at-p))
                | inr high ↦ absurd (omega (arith, e, number, other_number, in-b, ports_below w.members q p n high at-q))
              ]
            ]
      ]
]
