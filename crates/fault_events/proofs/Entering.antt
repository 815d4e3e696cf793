-- The number of the pin that a bit is taken from is the pin's place among all.
use Rattle.std.proofs.Common.{◌≡◌, ◌<◌, ◌==◌, ℕ, zero, suc, ◌+◌, Bool, true, false, ◌&&◌, ◌||◌, List, [], ◌∷◌, length, get_or, slice_get, Option, Some, None, if◌then◌else◌, replicate, refl, sym, ap, ◌∙◌, ◌⊎◌, inl, inr, arith}
use Rattle.std.specs.Prelude.{is_some, slice_set}
use Rattle.std.proofs.lemmas.Bool.{and_parts, eq-eqb, eqb-true, false≢true}
use Rattle.pin_nets.specs.declared.Pin.{Pin}
use Rattle.board_plan.specs.Planned.{IsPinOf, Member}
use Rattle.fault_events.specs.Numbers.{number_in, number_of}
use Rattle.fault_events.specs.Sources.{Source, Fixed, Seen, is_from}
use Rattle.fault_events.specs.Tables.{AreApart, ArePorts, entered, table_of, tables_from, tables_of, with_pin}
use Rattle.fault_events.proofs.Marking.{is_number, same_number}

abbrev Row : Type 0
Row = List (Option ℕ)

abbrev empty : ℕ → Row
empty n = replicate n None

-- ---- one row

set-either : (t : Row) (p q : ℕ) (x y : Option ℕ) → get_or (slice_set t p x) q None ≡ y → (get_or t q None ≡ y) ⊎ ((p ≡ q) × (x ≡ y))
set-either [] p q x y e = inl e
set-either (a ∷ t) zero zero x y e = inr (refl, e)
set-either (a ∷ t) zero (suc q) x y e = inl e
set-either (a ∷ t) (suc p) zero x y e = inl e
set-either (a ∷ t) (suc p) (suc q) x y e = by (set-either t p q x y e)
  where
    by : (get_or t q None ≡ y) ⊎ ((p ≡ q) × (x ≡ y)) → (get_or (a ∷ t) (suc q) None ≡ y) ⊎ ((suc p ≡ suc q) × (x ≡ y))
    by (inl h) = inl h
    by (inr h) = inr (ap (λ (n : ℕ). suc n) h.0, h.1)

set-there : (t : Row) (p : ℕ) (x : Option ℕ) → p < length t → get_or (slice_set t p x) p None ≡ x
set-there [] p x h = absurd (omega (arith, h))
set-there (a ∷ t) zero x h = refl
set-there (a ∷ t) (suc p) x h = set-there t p x (omega (arith, h))

set-long : (t : Row) (p : ℕ) (x : Option ℕ) → length (slice_set t p x) ≡ length t
set-long [] p x = refl
set-long (a ∷ t) zero x = refl
set-long (a ∷ t) (suc p) x = ap (λ (n : ℕ). suc n) (set-long t p x)

set-some : (t : Row) (p q n : ℕ) → is_some (get_or t q None) ≡ true → is_some (get_or (slice_set t p (Some n)) q None) ≡ true
set-some [] p q n e = e
set-some (a ∷ t) zero zero n e = refl
set-some (a ∷ t) zero (suc q) n e = e
set-some (a ∷ t) (suc p) zero n e = e
set-some (a ∷ t) (suc p) (suc q) n e = set-some t p q n e

none-there : (n p : ℕ) → ◌≡◌ {A = Option ℕ} (get_or (empty n) p None) None
none-there zero p = refl
none-there (suc n) zero = refl
none-there (suc n) (suc p) = none-there n p

-- ---- a pin entered

abbrev pin : (device port : ℕ) → Pin
pin device port = record { device = device; port = port }

with-either : (d n : ℕ) (p : Pin) (t : Row) (q m : ℕ) → get_or (with_pin d n p t) q None ≡ Some m → (get_or t q None ≡ Some m) ⊎ ((p ≡ pin d q) × (n ≡ m))
with-either d n p t q m e = by (p.device == d) refl e
  where
    hit : (p.device == d) ≡ true → (get_or t q None ≡ Some m) ⊎ ((p.port ≡ q) × (Some n ≡ Some m)) → (get_or t q None ≡ Some m) ⊎ ((p ≡ pin d q) × (n ≡ m))
    hit is (inl h) = inl h
    hit is (inr h) =
        let device : p.device ≡ d = eqb-true p.device d is in
        let number : n ≡ m = let both = h.1 in cc in
        inr ((λ i. record { device = device i; port = h.0 i }), number)

    by : (b : Bool) → (p.device == d) ≡ b → get_or (if b then slice_set t p.port (Some n) else t) q None ≡ Some m → (get_or t q None ≡ Some m) ⊎ ((p ≡ pin d q) × (n ≡ m))
    by true is h = hit is (set-either t p.port q (Some n) (Some m) h)
    by false is h = inl h

with-long : (d n : ℕ) (p : Pin) (t : Row) → length (with_pin d n p t) ≡ length t
with-long d n p t = by (p.device == d)
  where
    by : (b : Bool) → length (if b then slice_set t p.port (Some n) else t) ≡ length t
    by true = set-long t p.port (Some n)
    by false = refl

with-some : (d n : ℕ) (p : Pin) (t : Row) (q : ℕ) → is_some (get_or t q None) ≡ true → is_some (get_or (with_pin d n p t) q None) ≡ true
with-some d n p t q e = by (p.device == d)
  where
    by : (b : Bool) → is_some (get_or (if b then slice_set t p.port (Some n) else t) q None) ≡ true
    by true = set-some t p.port q n e
    by false = e

with-there : (d n port : ℕ) (t : Row) → port < length t → is_some (get_or (with_pin d n (pin d port) t) port None) ≡ true
with-there d n port t h =
    ap (λ (b : Bool). is_some (get_or (if b then slice_set t port (Some n) else t) port None)) (eq-eqb d d refl)
    ∙ ap (λ (o : Option ℕ). is_some o) (set-there t port (Some n) h)

-- ---- all pins

pub record IsAt (pins : List Pin) (k m : ℕ) (p : Pin) : Type 0 where
  pub j : ℕ
  pub at : slice_get pins j ≡ Some p
  pub is : m ≡ k + j

entered-at : (d k : ℕ) (ps : List Pin) (t : Row) (q m : ℕ) → get_or (entered d k ps t) q None ≡ Some m → (get_or t q None ≡ Some m) ⊎ IsAt ps k m (pin d q)
entered-at d k [] t q m e = inl e
entered-at d k (p ∷ ps) t q m e = by (entered-at d (suc k) ps (with_pin d k p t) q m e)
  where
    here : (get_or t q None ≡ Some m) ⊎ ((p ≡ pin d q) × (k ≡ m)) → (get_or t q None ≡ Some m) ⊎ IsAt (p ∷ ps) k m (pin d q)
    here (inl h) = inl h
    here (inr h) = let same : k ≡ m = h.1 in inr (record { j = 0; at = ap Some h.0; is = omega (arith, same) })

    by : (get_or (with_pin d k p t) q None ≡ Some m) ⊎ IsAt ps (suc k) m (pin d q) → (get_or t q None ≡ Some m) ⊎ IsAt (p ∷ ps) k m (pin d q)
    by (inl h) = here (with-either d k p t q m h)
    by (inr h) = let same = h.is in inr (record { j = suc h.j; at = h.at; is = omega (arith, same) })

entered-kept : (d k : ℕ) (ps : List Pin) (t : Row) (q : ℕ) → is_some (get_or t q None) ≡ true → is_some (get_or (entered d k ps t) q None) ≡ true
entered-kept d k [] t q e = e
entered-kept d k (p ∷ ps) t q e = entered-kept d (suc k) ps (with_pin d k p t) q (with-some d k p t q e)

entered-there : (d k : ℕ) (ps : List Pin) (t : Row) (j q : ℕ) → slice_get ps j ≡ Some (pin d q) → q < length t → is_some (get_or (entered d k ps t) q None) ≡ true
entered-there d k [] t j q e h = absurd (cc)
entered-there d k (p ∷ ps) t zero q e h =
    let same : p ≡ pin d q = cc in
    entered-kept d (suc k) ps (with_pin d k p t) q
    (ap (λ (x : Pin). is_some (get_or (with_pin d k x t) q None)) same ∙ with-there d k q t h)
entered-there d k (p ∷ ps) t (suc j) q e h =
    let long = with-long d k p t in
    entered-there d (suc k) ps (with_pin d k p t) j q e (omega (arith, h, long))

-- ---- all devices

table-at : (pins : List Pin) (k : ℕ) (ms : List Member) (j : ℕ) (m : Member) → slice_get ms j ≡ Some m → get_or (tables_from pins k ms) j [] ≡ table_of pins (k + j) m
table-at pins k [] j m e = absurd (cc)
table-at pins k (x ∷ ms) zero m e =
    let same : x ≡ m = cc in
    let here : k ≡ k + 0 = omega arith in
    ap (table_of pins k) same ∙ ap (λ (n : ℕ). table_of pins n m) here
table-at pins k (x ∷ ms) (suc j) m e =
    let next : suc k + j ≡ k + suc j = omega arith in
    table-at pins (suc k) ms j m e ∙ ap (λ (n : ℕ). table_of pins n m) next

table-none : (pins : List Pin) (k : ℕ) (ms : List Member) (j : ℕ) → slice_get ms j ≡ None → get_or (tables_from pins k ms) j [] ≡ []
table-none pins k [] j e = refl
table-none pins k (x ∷ ms) zero e = absurd (cc)
table-none pins k (x ∷ ms) (suc j) e = table-none pins (suc k) ms j e

own-table : (pins : List Pin) (ms : List Member) (d : ℕ) (m : Member) → slice_get ms d ≡ Some m → get_or (tables_of pins ms) d [] ≡ table_of pins d m
own-table pins ms d m e = let own : 0 + d ≡ d = omega arith in table-at pins 0 ms d m e ∙ ap (λ (n : ℕ). table_of pins n m) own

replicated : (n : ℕ) → length (empty n) ≡ n
replicated zero = refl
replicated (suc n) = ap (λ (k : ℕ). suc k) (replicated n)

-- a number is that of its pin
number-is : (pins : List Pin) (ms : List Member) (d q m : ℕ) → number_in (tables_of pins ms) d q ≡ Some m → slice_get pins m ≡ Some (pin d q)
number-is pins ms d q m e = by (slice_get ms d) refl
  where
    found : (n : ℕ) → (get_or (empty n) q None ≡ Some m) ⊎ IsAt pins 0 m (pin d q) → slice_get pins m ≡ Some (pin d q)
    found n (inl h) = let none = none-there n q in absurd (cc)
    found n (inr h) = let same = h.is in let number : h.j ≡ m = omega (arith, same) in ap (slice_get pins) (sym number) ∙ h.at

    by : (o : Option Member) → slice_get ms d ≡ o → slice_get pins m ≡ Some (pin d q)
    by None is = let row = ap (λ (t : Row). get_or t q None) (table-none pins 0 ms d is) in absurd (cc)
    by (Some x) is =
        found (length x.device.ports) (entered-at d 0 pins (replicate (length x.device.ports) None) q m (sym (ap (λ (t : Row). get_or t q None) (own-table pins ms d x is)) ∙ e))

-- a pin that is a port bit has one
number-there : (pins : List Pin) (ms : List Member) (n d q : ℕ) → slice_get pins n ≡ Some (pin d q) → IsPinOf ms (pin d q) → is_some (number_in (tables_of pins ms) d q) ≡ true
number-there pins ms n d q at its =
    let m = its.0 in
    let long = replicated (length m.device.ports) in
    let inside = its.2 in
    ap (λ (t : Row). is_some (get_or t q None)) (own-table pins ms d m its.1)
    ∙ entered-there d 0 pins (replicate (length m.device.ports) None) n q at (omega (arith, inside, long))

same-is : (m n : ℕ) → same_number m n ≡ true → m ≡ n
same-is zero zero e = refl
same-is zero (suc n) e = absurd (false≢true e)
same-is (suc m) zero e = absurd (false≢true e)
same-is (suc m) (suc n) e = ap (λ (k : ℕ). suc k) (same-is m n e)

same-one : (n : ℕ) → same_number n n ≡ true
same-one zero = refl
same-one (suc n) = same-one n

-- whether a pin is this one
abbrev is-one : Pin → Pin → Bool
is-one p q = ((p.device == q.device) && (p.port == q.port)) || false

one-is : (p q : Pin) → is-one p q ≡ true → p ≡ q
one-is p q e = by ((p.device == q.device) && (p.port == q.port)) refl e
  where
    by : (b : Bool) → ((p.device == q.device) && (p.port == q.port)) ≡ b → (b || false) ≡ true → p ≡ q
    by true is h =
        let both = and_parts (p.device == q.device) (p.port == q.port) is in
        let device : p.device ≡ q.device = eqb-true p.device q.device both.0 in
        let port : p.port ≡ q.port = eqb-true p.port q.port both.1 in
        λ i. record { device = device i; port = port i }
    by false is h = absurd (false≢true h)

one-same : (p : Pin) → is-one p p ≡ true
one-same p =
    ap (λ (b : Bool). (b && (p.port == p.port)) || false) (eq-eqb p.device p.device refl)
    ∙ ap (λ (b : Bool). b || false) (eq-eqb p.port p.port refl)

-- a bit is taken from a pin where it has the pin's number
pub numbered : (pins : List Pin) (ms : List Member) → AreApart pins → ArePorts ms pins → (n : ℕ) (p : Pin) → slice_get pins n ≡ Some p
    → (s : Source) → is_from (p ∷ []) s ≡ is_number n (number_of (tables_of pins ms) s)
numbered pins ms apart ports n p at (Fixed b) = refl
numbered pins ms apart ports n p at (Seen q) = by (number_in (tables_of pins ms) q.device q.port) refl
  where
    none : number_in (tables_of pins ms) q.device q.port ≡ None → (b : Bool) → is-one p q ≡ b → b ≡ false
    none e true is =
        let same : p ≡ q = one-is p q is in
        let there = number-there pins ms n q.device q.port (at ∙ ap Some same) (ports n q (at ∙ ap Some same)) in
        absurd (false≢true (ap (λ (o : Option ℕ). is_some o) (sym e) ∙ there))
    none e false is = refl

    some : (m : ℕ) → slice_get pins m ≡ Some q → (b : Bool) → is-one p q ≡ b → (c : Bool) → same_number m n ≡ c → b ≡ c
    some m found true is true h = refl
    some m found true is false h =
        let same : p ≡ q = one-is p q is in
        let number : m ≡ n = apart m n q found (at ∙ ap Some same) in
        absurd (false≢true (sym h ∙ ap (λ (k : ℕ). same_number k n) number ∙ same-one n))
    some m found false is true h =
        let number : m ≡ n = same-is m n h in
        let both : Some p ≡ Some q = sym at ∙ ap (slice_get pins) (sym number) ∙ found in
        let same : p ≡ q = cc in
        absurd (false≢true (sym is ∙ ap (is-one p) (sym same) ∙ one-same p))
    some m found false is false h = refl

    by : (o : Option ℕ) → number_in (tables_of pins ms) q.device q.port ≡ o → is-one p q ≡ is_number n (number_in (tables_of pins ms) q.device q.port)
    by None e = none e (is-one p q) refl ∙ sym (ap (is_number n) e)
    by (Some m) e = some m (number-is pins ms q.device q.port m e) (is-one p q) refl (same_number m n) refl ∙ sym (ap (is_number n) e)
