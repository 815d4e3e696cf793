-- The nets where a fault shows in a way, and which of them a pin is on.
use Rattle.std.proofs.Common.{◌≡◌, ◌<◌, ℕ, zero, suc, Bool, true, false, ◌&&◌, ◌||◌, ◌==◌, List, [], ◌∷◌, ◌++◌, length, take, drop, set, get_or, Option, Some, None, unwrap_or, if◌then◌else◌, refl, sym, ap, ◌∙◌, ◌⊎◌, inl, inr, arith}
use Rattle.std.specs.List.{find, remove}
use Rattle.std.proofs.lemmas.Bool.{and_parts, cases_Bool, eqb-true, false≢true}
use Rattle.pin_nets.specs.declared.Pin.{Pin}
use Rattle.pin_nets.specs.Wired.{Net, has_port_bit, joins}
use Rattle.board_model.specs.Following.{AreFound, IsAmong}
use Rattle.board_model.specs.Nets.{lone_net, net_of}

-- ---- one of some

pub among_first : {X : Type 0} (x : X) (xs ys : List X) → IsAmong x xs → IsAmong x (xs ++ ys)
among_first x [] ys among = absurd among
among_first x (y ∷ xs) ys (inl e) = inl e
among_first x (y ∷ xs) ys (inr later) = inr (among_first x xs ys later)

pub among_second : {X : Type 0} (x : X) (xs ys : List X) → IsAmong x ys → IsAmong x (xs ++ ys)
among_second x [] ys among = among
among_second x (y ∷ xs) ys among = inr (among_second x xs ys among)

pub among_either : {X : Type 0} (x : X) (xs ys : List X) → IsAmong x (xs ++ ys) → IsAmong x xs ⊎ IsAmong x ys
among_either x [] ys among = inr among
among_either x (y ∷ xs) ys (inl e) = inl (inl e)
among_either x (y ∷ xs) ys (inr later) = by (among_either x xs ys later)
  where
    by : IsAmong x xs ⊎ IsAmong x ys → IsAmong x (y ∷ xs) ⊎ IsAmong x ys
    by (inl h) = inl (inr h)
    by (inr h) = inr h

pub among_at : {X : Type 0} (xs : List X) (k : ℕ) (d : X) → k < length xs → IsAmong (get_or xs k d) xs
among_at [] k d h = absurd (omega (arith, h))
among_at (x ∷ xs) zero d h = inl refl
among_at (x ∷ xs) (suc k) d h = inr (among_at xs k d (omega (arith, h)))

-- one is put in the place of another
pub set_there : {X : Type 0} (xs : List X) (k : ℕ) (y : X) → k < length xs → IsAmong y (set xs k y)
set_there [] k y h = absurd (omega (arith, h))
set_there (x ∷ xs) zero y h = inl refl
set_there (x ∷ xs) (suc k) y h = inr (set_there xs k y (omega (arith, h)))

pub set_kept : {X : Type 0} (xs : List X) (k : ℕ) (y d x : X) → IsAmong x xs → (x ≡ get_or xs k d) ⊎ IsAmong x (set xs k y)
set_kept [] k y d x among = absurd among
set_kept (z ∷ xs) zero y d x (inl e) = inl (sym e)
set_kept (z ∷ xs) zero y d x (inr later) = inr (inr later)
set_kept (z ∷ xs) (suc k) y d x (inl e) = inr (inl e)
set_kept (z ∷ xs) (suc k) y d x (inr later) = by (set_kept xs k y d x later)
  where
    by : (x ≡ get_or xs k d) ⊎ IsAmong x (set xs k y) → (x ≡ get_or xs k d) ⊎ IsAmong x (z ∷ set xs k y)
    by (inl e) = inl e
    by (inr h) = inr (inr h)

pub set_back : {X : Type 0} (xs : List X) (k : ℕ) (y x : X) → IsAmong x (set xs k y) → (x ≡ y) ⊎ IsAmong x xs
set_back [] k y x among = absurd among
set_back (z ∷ xs) zero y x (inl e) = inl (sym e)
set_back (z ∷ xs) zero y x (inr later) = inr (inr later)
set_back (z ∷ xs) (suc k) y x (inl e) = inr (inl e)
set_back (z ∷ xs) (suc k) y x (inr later) = by (set_back xs k y x later)
  where
    by : (x ≡ y) ⊎ IsAmong x xs → (x ≡ y) ⊎ IsAmong x (z ∷ xs)
    by (inl e) = inl e
    by (inr h) = inr (inr h)

-- one is taken out
pub removed_kept : {X : Type 0} (xs : List X) (k : ℕ) (d x : X) → IsAmong x xs → (x ≡ get_or xs k d) ⊎ IsAmong x (remove xs k)
removed_kept [] k d x among = absurd among
removed_kept (z ∷ xs) zero d x (inl e) = inl (sym e)
removed_kept (z ∷ xs) zero d x (inr later) = inr later
removed_kept (z ∷ xs) (suc k) d x (inl e) = inr (inl e)
removed_kept (z ∷ xs) (suc k) d x (inr later) = by (removed_kept xs k d x later)
  where
    by : (x ≡ get_or xs k d) ⊎ IsAmong x (remove xs k) → (x ≡ get_or xs k d) ⊎ IsAmong x (z ∷ remove xs k)
    by (inl e) = inl e
    by (inr h) = inr (inr h)

pub removed_back : {X : Type 0} (xs : List X) (k : ℕ) (x : X) → IsAmong x (remove xs k) → IsAmong x xs
removed_back [] zero x among = absurd among
removed_back [] (suc k) x among = absurd among
removed_back (z ∷ xs) zero x among = inr among
removed_back (z ∷ xs) (suc k) x (inl e) = inl e
removed_back (z ∷ xs) (suc k) x (inr later) = inr (removed_back xs k x later)

-- the one at a place, alone
pub alone_is : {X : Type 0} (xs : List X) (k : ℕ) (d : X) → k < length xs → take 1 (drop k xs) ≡ get_or xs k d ∷ []
alone_is [] k d h = absurd (omega (arith, h))
alone_is (x ∷ xs) zero d h = refl
alone_is (x ∷ xs) (suc k) d h = alone_is xs k d (omega (arith, h))

-- ---- which net a pin is on

is-joined : (ps : List Pin) (q : Pin) → has_port_bit q.device q.port ps ≡ true → IsAmong q ps
is-joined [] q e = absurd (false≢true e)
is-joined (p ∷ ps) q e = by ((p.device == q.device) && (p.port == q.port)) refl e (is-joined ps q)
  where
    by : (b : Bool) → ((p.device == q.device) && (p.port == q.port)) ≡ b → (b || has_port_bit q.device q.port ps) ≡ true
        → (has_port_bit q.device q.port ps ≡ true → IsAmong q ps) → IsAmong q (p ∷ ps)
    by true is h rest =
        let both = and_parts (p.device == q.device) (p.port == q.port) is in
        let device : p.device ≡ q.device = eqb-true p.device q.device both.0 in
        let port : p.port ≡ q.port = eqb-true p.port q.port both.1 in
        inl (λ i. record { device = device i; port = port i })
    by false is h rest = inr (rest h)

found-among : (test : Net → Bool) (nets : List Net) (net : Net) → find test nets ≡ Some net → IsAmong net nets × (test net ≡ true)
found-among test [] net e = absurd (cc)
found-among test (n ∷ nets) net e =
    elim (cases_Bool (test n)) [
      | inl hit ↦
          let one : Some n ≡ Some net = sym (ap (λ (x : Bool). if x then Some n else find test nets) hit) ∙ e in
          let is : n ≡ net = ap (λ (o : Option Net). unwrap_or o n) one in
          (inl is, sym (ap test is) ∙ hit)
      | inr miss ↦
          let later = found-among test nets net (sym (ap (λ (x : Bool). if x then Some n else find test nets) miss) ∙ e) in
          (inr later.0, later.1)
    ]

-- a pin is on one of the nets, or on none of them
pub record IsOn (nets : List Net) (pin : Pin) : Type 0 where
  pub net : Net
  pub among : IsAmong net nets
  pub on : IsAmong pin net.pins
  pub is : net_of nets pin.device pin.port ≡ net

pub record IsOnNone (nets : List Net) (pin : Pin) : Type 0 where
  pub is : net_of nets pin.device pin.port ≡ lone_net pin.device pin.port
  pub none : (net : Net) → IsAmong net nets → IsAmong pin net.pins → ⊥

pub where_is : (nets : List Net) → AreFound nets → (pin : Pin) → IsOn nets pin ⊎ IsOnNone nets pin
where_is nets found pin = by (find (joins pin.device pin.port) nets) refl
  where
    none-some : {n : Net} → None ≡ Some n → ⊥
    none-some e = cc

    by : (o : Option Net) → find (joins pin.device pin.port) nets ≡ o → IsOn nets pin ⊎ IsOnNone nets pin
    by None e = inr (record {
      is = ap (λ (o : Option Net). unwrap_or o (lone_net pin.device pin.port)) e;
      none = λ net among on. none-some (sym e ∙ found net among pin on);
    })
    by (Some net) e =
        let its = found-among (joins pin.device pin.port) nets net e in
        inl (record {
          net = net;
          among = its.0;
          on = is-joined net.pins pin its.1;
          is = ap (λ (o : Option Net). unwrap_or o (lone_net pin.device pin.port)) e;
        })

-- a pin of a net is on it
pub its_net : (nets : List Net) → AreFound nets → (net : Net) → IsAmong net nets → (pin : Pin) → IsAmong pin net.pins
    → net_of nets pin.device pin.port ≡ net
its_net nets found net among pin on = ap (λ (o : Option Net). unwrap_or o (lone_net pin.device pin.port)) (found net among pin on)
