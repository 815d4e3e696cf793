-- Drives chosen for pins of which none stands twice.
use Rattle.std.specs.Prelude.{⊤}
use Rattle.std.proofs.Common.{◌≡◌, ◌≢◌, ◌<◌, ℕ, zero, suc, Bool, true, false, ◌&&◌, ◌==◌, List, [], ◌∷◌, ◌++◌, length, map, get_or, if◌then◌else◌, refl, sym, ap, ap₂, subst, ◌∙◌, ◌⊎◌, inl, inr, arith}
use Rattle.std.specs.List.{AllPairs, remove}
use Rattle.std.proofs.lemmas.Bool.{and_parts, eqb-true, eq-eqb}
use Rattle.pin_nets.specs.declared.Drive.{Drive}
use Rattle.pin_nets.specs.declared.Drive.TheVariants.{Nothing}
use Rattle.pin_nets.specs.declared.Pin.{Pin}
use Rattle.pin_nets.specs.Wired.{Net}
use Rattle.board_plan.specs.Planned.{Member, all_pins}
use Rattle.board_model.specs.Following.{IsAmong}
use Rattle.board_faults.specs.Faults.{nowhere}
use Rattle.board_faults.specs.Sight.{CanDrive, pin_drives}
use Rattle.board_faults.proofs.Making.{AllFrom, nothing_among}
use Rattle.board_faults.proofs.Wires.{among_at, among_either, among_first, among_second, removed_back}

-- none of these pins stands twice
abbrev pub Once : List Pin → Type 0
Once [] = ⊤
Once (p ∷ ps) = ((q : Pin) → IsAmong q ps → p ≢ q) × Once ps

at-among : (ps : List Pin) (q : Pin) → IsAmong q ps → (i : ℕ) × (i < length ps) × ((d : Pin) → get_or ps i d ≡ q)
at-among [] q among = absurd among
at-among (p ∷ ps) q (inl e) = (0, omega arith, λ d. e)
at-among (p ∷ ps) q (inr later) = let its = at-among ps q later in (suc its.0, omega (arith, its.1), its.2)

pub once : (ps : List Pin) → AllPairs (λ (p q : Pin). p ≢ q) ps → Once ps
once [] apart = tt
once (p ∷ ps) apart = (
  (λ q among e.
      let its = at-among ps q among in
      apart 0 (suc its.0) p (omega arith) (omega (arith, its.1)) (e ∙ sym (its.2 p))),
  once ps (λ i j d below inside. apart (suc i) (suc j) d (omega (arith, below)) (omega (arith, inside))),
)

pub first_once : (ps qs : List Pin) → Once (ps ++ qs) → Once ps
first_once [] qs is = tt
first_once (p ∷ ps) qs is = ((λ q among. is.0 q (among_first q ps qs among)), first_once ps qs is.1)

pub second_once : (ps qs : List Pin) → Once (ps ++ qs) → Once qs
second_once [] qs is = is
second_once (p ∷ ps) qs is = second_once ps qs is.1

pub apart_both : (ps qs : List Pin) → Once (ps ++ qs) → (q : Pin) → IsAmong q ps → IsAmong q qs → ⊥
apart_both [] qs is q one other = one
apart_both (p ∷ ps) qs is q (inl e) other = is.0 q (among_second q ps qs other) e
apart_both (p ∷ ps) qs is q (inr later) other = apart_both ps qs is.1 q later other

pub join_once : (ps qs : List Pin) → Once ps → Once qs → ((q : Pin) → IsAmong q ps → IsAmong q qs → ⊥) → Once (ps ++ qs)
join_once [] qs one other apart = other
join_once (p ∷ ps) qs one other apart = (
  (λ q among. by q (among_either q ps qs among)),
  join_once ps qs one.1 other (λ q a b. apart q (inr a) b),
)
  where
    by : (q : Pin) → IsAmong q ps ⊎ IsAmong q qs → p ≢ q
    by q (inl a) = one.0 q a
    by q (inr b) = λ e. apart p (inl refl) (subst (λ (x : Pin). IsAmong x qs) (sym e) b)

-- the pins of one net, and of two
pub net_once : (nets : List Net) (k : ℕ) → Once (all_pins nets) → Once (get_or nets k nowhere).pins
net_once [] k is = tt
net_once (n ∷ nets) zero is = first_once n.pins (all_pins nets) is
net_once (n ∷ nets) (suc k) is = net_once nets k (second_once n.pins (all_pins nets) is)

pub among_all : (nets : List Net) (k : ℕ) (q : Pin) → IsAmong q (get_or nets k nowhere).pins → IsAmong q (all_pins nets)
among_all [] k q among = absurd among
among_all (n ∷ nets) zero q among = among_first q n.pins (all_pins nets) among
among_all (n ∷ nets) (suc k) q among = among_second q n.pins (all_pins nets) (among_all nets k q among)

pub two_once : (nets : List Net) (i j : ℕ) → i < j → Once (all_pins nets) → Once ((get_or nets i nowhere).pins ++ (get_or nets j nowhere).pins)
two_once [] i j below is = tt
two_once (n ∷ nets) i zero below is = absurd (omega (arith, below))
two_once (n ∷ nets) zero (suc j) below is =
    join_once n.pins (get_or nets j nowhere).pins (first_once n.pins (all_pins nets) is) (net_once nets j (second_once n.pins (all_pins nets) is))
    (λ q a b. apart_both n.pins (all_pins nets) is q a (among_all nets j q b))
two_once (n ∷ nets) (suc i) (suc j) below is = two_once nets i j (omega (arith, below)) (second_once n.pins (all_pins nets) is)

removed-more : (p : Pin) (ps : List Pin) (k : ℕ) (d : Pin) → k < length ps → Once (p ∷ ps) → Once (get_or ps k d ∷ remove ps k)
    → Once (get_or ps k d ∷ p ∷ remove ps k)
removed-more p ps k d h is later = ((λ q among. by q among), ((λ q among. is.0 q (removed_back ps k q among)), later.1))
  where
    by : (q : Pin) → (p ≡ q) ⊎ IsAmong q (remove ps k) → get_or ps k d ≢ q
    by q (inl e) = λ same. is.0 (get_or ps k d) (among_at ps k d h) (e ∙ sym same)
    by q (inr a) = later.0 q a

-- a pin taken out stands before the others
pub removed_once : (ps : List Pin) (k : ℕ) (d : Pin) → k < length ps → Once ps → Once (get_or ps k d ∷ remove ps k)
removed_once [] k d h is = absurd (omega (arith, h))
removed_once (p ∷ ps) zero d h is = is
removed_once (p ∷ ps) (suc k) d h is = removed-more p ps k d (omega (arith, h)) is (removed_once ps k d (omega (arith, h)) is.1)

-- ---- a choice

abbrev pub is_pin : Pin → Pin → Bool
is_pin p q = (p.device == q.device) && (p.port == q.port)

abbrev pub choose : List Pin → List Drive → Pin → Drive
choose (p ∷ ps) (x ∷ xs) q = if is_pin p q then x else choose ps xs q
choose _ _ q = Nothing

pub same-pin : (p : Pin) → is_pin p p ≡ true
same-pin p = ap₂ (λ (a b : Bool). a && b) (eq-eqb p.device p.device refl) (eq-eqb p.port p.port refl)

pub pin-is : (p q : Pin) → is_pin p q ≡ true → p ≡ q
pin-is p q e =
    let both = and_parts (p.device == q.device) (p.port == q.port) e in
    let device : p.device ≡ q.device = eqb-true p.device q.device both.0 in
    let port : p.port ≡ q.port = eqb-true p.port q.port both.1 in
    λ i. record { device = device i; port = port i }

pub not-pin : (p q : Pin) → p ≢ q → is_pin p q ≡ false
not-pin p q apart = by (is_pin p q) refl
  where
    by : (b : Bool) → is_pin p q ≡ b → is_pin p q ≡ false
    by true e = absurd (apart (pin-is p q e))
    by false e = e

pub choice_can : (ms : List Member) (ps : List Pin) (xs : List Drive) → AllFrom ms ps xs → CanDrive ms (choose ps xs)
choice_can ms [] [] all q = nothing_among ms q
choice_can ms [] (x ∷ xs) all q = absurd all
choice_can ms (p ∷ ps) [] all q = absurd all
choice_can ms (p ∷ ps) (x ∷ xs) all q = by (is_pin p q) refl (choice_can ms ps xs all.1 q)
  where
    by : (b : Bool) → is_pin p q ≡ b → IsAmong (choose ps xs q) (pin_drives ms q) → IsAmong (choose (p ∷ ps) (x ∷ xs) q) (pin_drives ms q)
    by true e later =
        subst (λ (c : Bool). IsAmong (if c then x else choose ps xs q) (pin_drives ms q)) (sym e)
        (subst (λ (r : Pin). IsAmong x (pin_drives ms r)) (pin-is p q e) all.0)
    by false e later = subst (λ (c : Bool). IsAmong (if c then x else choose ps xs q) (pin_drives ms q)) (sym e) later

-- on pins without the first, a choice is that of the others
past-first : (p : Pin) (x : Drive) (ps : List Pin) (xs : List Drive) (qs : List Pin) → ((q : Pin) → IsAmong q qs → p ≢ q)
    → map (choose (p ∷ ps) (x ∷ xs)) qs ≡ map (choose ps xs) qs
past-first p x ps xs [] apart = refl
past-first p x ps xs (q ∷ qs) apart =
    ap₂ (λ (d : Drive) (ds : List Drive). d ∷ ds)
    (ap (λ (b : Bool). if b then x else choose ps xs q) (not-pin p q (apart q (inl refl))))
    (past-first p x ps xs qs (λ r among. apart r (inr among)))

pub chosen : (ms : List Member) (ps : List Pin) (xs : List Drive) → Once ps → AllFrom ms ps xs → map (choose ps xs) ps ≡ xs
chosen ms [] [] is all = refl
chosen ms [] (x ∷ xs) is all = absurd all
chosen ms (p ∷ ps) [] is all = absurd all
chosen ms (p ∷ ps) (x ∷ xs) is all =
    ap₂ (λ (d : Drive) (ds : List Drive). d ∷ ds) (ap (λ (b : Bool). if b then x else choose ps xs p) (same-pin p))
    (past-first p x ps xs ps is.0 ∙ chosen ms ps xs is.1 all.1)

pub both_from : (ms : List Member) (ps qs : List Pin) (xs ys : List Drive) → AllFrom ms ps xs → AllFrom ms qs ys → AllFrom ms (ps ++ qs) (xs ++ ys)
both_from ms [] qs [] ys one other = other
both_from ms [] qs (x ∷ xs) ys one other = absurd one
both_from ms (p ∷ ps) qs [] ys one other = absurd one
both_from ms (p ∷ ps) qs (x ∷ xs) ys one other = (one.0, both_from ms ps qs xs ys one.1 other)

pub chosen_first : (ms : List Member) (ps qs : List Pin) (xs ys : List Drive) → Once (ps ++ qs) → AllFrom ms ps xs → AllFrom ms qs ys
    → map (choose (ps ++ qs) (xs ++ ys)) ps ≡ xs
chosen_first ms [] qs [] ys is one other = refl
chosen_first ms [] qs (x ∷ xs) ys is one other = absurd one
chosen_first ms (p ∷ ps) qs [] ys is one other = absurd one
chosen_first ms (p ∷ ps) qs (x ∷ xs) ys is one other =
    ap₂ (λ (d : Drive) (ds : List Drive). d ∷ ds) (ap (λ (b : Bool). if b then x else choose (ps ++ qs) (xs ++ ys) p) (same-pin p))
    (past-first p x (ps ++ qs) (xs ++ ys) ps (λ q among. is.0 q (among_first q ps qs among)) ∙ chosen_first ms ps qs xs ys is.1 one.1 other)

pub chosen_second : (ms : List Member) (ps qs : List Pin) (xs ys : List Drive) → Once (ps ++ qs) → AllFrom ms ps xs → AllFrom ms qs ys
    → map (choose (ps ++ qs) (xs ++ ys)) qs ≡ ys
chosen_second ms [] qs [] ys is one other = chosen ms qs ys is other
chosen_second ms [] qs (x ∷ xs) ys is one other = absurd one
chosen_second ms (p ∷ ps) qs [] ys is one other = absurd one
chosen_second ms (p ∷ ps) qs (x ∷ xs) ys is one other =
    past-first p x (ps ++ qs) (xs ++ ys) qs (λ q among. is.0 q (among_second q ps qs among)) ∙ chosen_second ms ps qs xs ys is.1 one.1 other
