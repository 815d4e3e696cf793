-- With a fault, too, no pin stands twice.
use Rattle.std.proofs.Common.{◌≡◌, ◌≢◌, ◌<◌, ◌≤◌, ◌+◌, ℕ, zero, suc, Bool, true, false, List, [], ◌∷◌, ◌++◌, length, take, drop, set, get_or, refl, sym, ap, subst, ◌∙◌, inl, inr, arith}
use Rattle.std.specs.Prelude.{count_by}
use Rattle.std.specs.List.{AllPairs, remove}
use Rattle.std.proofs.lemmas.List.Edits.{get_or-remove_below}
use Rattle.std.proofs.lemmas.Option.{get_or_from_slice_get, slice_get_within}
use Rattle.pin_nets.specs.declared.Pin.{Pin}
use Rattle.pin_nets.specs.Levels.{one}
use Rattle.pin_nets.specs.Wired.{Net}
use Rattle.pin_nets.proofs.Counting.{count-cons}
use Rattle.board_plan.specs.Planned.{all_pins}
use Rattle.board_model.specs.Following.{AreFound, IsAmong}
use Rattle.board_chain.proofs.NetLaws.{are_found}
use Rattle.board_faults.specs.declared.kinds.Way.{Way}
use Rattle.board_faults.specs.declared.kinds.Way.TheVariants as way
use Rattle.board_faults.specs.declared.kinds.Winner.{Winner}
use Rattle.board_faults.specs.declared.kinds.Winner.TheVariants.{Zeros, Ones, First, Second}
use Rattle.board_faults.specs.Faults.{IsWayOf, bridged, nowhere, pin_alone, rest_of, tied, turned_net, with_way}
use Rattle.board_faults.proofs.Choosing.{Once, once, is_pin, not-pin, pin-is, same-pin}
use Rattle.board_faults.proofs.Wires.{among_at}

-- ---- how often a pin stands among some

abbrev times : Pin → List Pin → ℕ
times q ps = count_by (λ p. is_pin p q) ps

times-cons : (q p : Pin) (ps : List Pin) → times q (p ∷ ps) ≡ one (is_pin p q) + times q ps
times-cons q p ps = count-cons (λ x. is_pin x q) p ps

times-both : (q : Pin) (ps qs : List Pin) → times q (ps ++ qs) ≡ times q ps + times q qs
times-both q [] qs = let none : times q [] ≡ 0 = refl in omega (arith, none)
times-both q (p ∷ ps) qs = let later = times-both q ps qs in omega (arith, later, times-cons q p (ps ++ qs), times-cons q p ps)

-- a pin that stands among some is counted
among-times : (q : Pin) (ps : List Pin) → IsAmong q ps → 0 < times q ps
among-times q [] among = absurd among
among-times q (p ∷ ps) (inl e) =
    let here : one (is_pin p q) ≡ 1 = ap (λ (r : Pin). one (is_pin p r)) (sym e) ∙ ap one (same-pin p) in
    omega (arith, here, times-cons q p ps)
among-times q (p ∷ ps) (inr later) = let rest = among-times q ps later in omega (arith, rest, times-cons q p ps)

none-times : (q : Pin) (ps : List Pin) → ((r : Pin) → IsAmong r ps → q ≢ r) → times q ps ≡ 0
none-times q [] apart = refl
none-times q (p ∷ ps) apart =
    let rest = none-times q ps (λ r among. apart r (inr among)) in
    let here : one (is_pin p q) ≡ 0 = ap one (not-pin p q (λ e. apart p (inl refl) (sym e))) in
    omega (arith, here, rest, times-cons q p ps)

one-most : (b : Bool) → one b ≤ 1
one-most true = omega arith
one-most false = omega arith

once-times : (ps : List Pin) → Once ps → (q : Pin) → times q ps ≤ 1
once-times [] is q = let none : times q [] ≡ 0 = refl in omega (arith, none)
once-times (p ∷ ps) is q = by (is_pin p q) refl (once-times ps is.1 q)
  where
    by : (b : Bool) → is_pin p q ≡ b → times q ps ≤ 1 → times q (p ∷ ps) ≤ 1
    by true e later =
        let none : times q ps ≡ 0 = subst (λ (r : Pin). times r ps ≡ 0) (pin-is p q e) (none-times p ps is.0) in
        omega (arith, none, times-cons q p ps, one-most (is_pin p q))
    by false e later = let here : one (is_pin p q) ≡ 0 = ap one e in omega (arith, here, later, times-cons q p ps)

times-once : (ps : List Pin) → ((q : Pin) → times q ps ≤ 1) → Once ps
times-once [] most = tt
times-once (p ∷ ps) most = (
  (λ r among e.
      let here : one (is_pin p p) ≡ 1 = ap one (same-pin p) in
      let more : 0 < times p ps = subst (λ (x : Pin). 0 < times x ps) (sym e) (among-times r ps among) in
      absurd (omega (arith, here, more, most p, times-cons p p ps))),
  times-once ps (λ q. let rest = most q in omega (arith, rest, times-cons q p ps)),
)

once-pairs : (ps : List Pin) → Once ps → AllPairs (λ (p q : Pin). p ≢ q) ps
once-pairs [] is i j d below inside = absurd (omega (arith, inside))
once-pairs (p ∷ ps) is zero zero d below inside = absurd (omega (arith, below))
once-pairs (p ∷ ps) is zero (suc j) d below inside = is.0 (get_or ps j d) (among_at ps j d (omega (arith, inside)))
once-pairs (p ∷ ps) is (suc i) zero d below inside = absurd (omega (arith, below))
once-pairs (p ∷ ps) is (suc i) (suc j) d below inside = once-pairs ps is.1 i j d (omega (arith, below)) (omega (arith, inside))

-- ---- the pins of nets that were changed

set-times : (q : Pin) (nets : List Net) (k : ℕ) (new : Net) → k < length nets
    → times q (all_pins (set nets k new)) + times q (get_or nets k nowhere).pins ≡ times q (all_pins nets) + times q new.pins
set-times q [] k new h = absurd (omega (arith, h))
set-times q (n ∷ nets) zero new h = omega (arith, times-both q new.pins (all_pins nets), times-both q n.pins (all_pins nets))
set-times q (n ∷ nets) (suc k) new h =
    let later = set-times q nets k new (omega (arith, h)) in
    omega (arith, later, times-both q n.pins (all_pins (set nets k new)), times-both q n.pins (all_pins nets))

remove-times : (q : Pin) (nets : List Net) (k : ℕ) → k < length nets
    → times q (all_pins (remove nets k)) + times q (get_or nets k nowhere).pins ≡ times q (all_pins nets)
remove-times q [] k h = absurd (omega (arith, h))
remove-times q (n ∷ nets) zero h = omega (arith, times-both q n.pins (all_pins nets))
remove-times q (n ∷ nets) (suc k) h =
    let later = remove-times q nets k (omega (arith, h)) in
    omega (arith, later, times-both q n.pins (all_pins (remove nets k)), times-both q n.pins (all_pins nets))

alone-times : (q : Pin) (ps : List Pin) (k : ℕ) → k < length ps → times q (take 1 (drop k ps)) + times q (remove ps k) ≡ times q ps
alone-times q [] k h = absurd (omega (arith, h))
alone-times q (p ∷ ps) zero h = omega (arith, times-cons q p ps, times-cons q p [])
alone-times q (p ∷ ps) (suc k) h =
    let later = alone-times q ps k (omega (arith, h)) in
    omega (arith, later, times-cons q p ps, times-cons q p (remove ps k))

last-times : (q : Pin) (nets : List Net) (n : Net) → times q (all_pins (nets ++ n ∷ [])) ≡ times q (all_pins nets) + times q n.pins
last-times q [] n = let none : times q [] ≡ 0 = refl in omega (arith, times-both q n.pins [], none)
last-times q (m ∷ nets) n =
    let later = last-times q nets n in
    omega (arith, later, times-both q m.pins (all_pins (nets ++ n ∷ [])), times-both q m.pins (all_pins nets))

bridge-times : (q : Pin) (winner : Winner) (a b : Net) → times q (bridged winner a b).pins ≡ times q a.pins + times q b.pins
bridge-times q Zeros a b = times-both q a.pins b.pins
bridge-times q Ones a b = times-both q a.pins b.pins
bridge-times q First a b = times-both q a.pins b.pins
bridge-times q Second a b = times-both q b.pins a.pins ∙ omega arith

length-remove : {X : Type 0} (xs : List X) (k : ℕ) → k < length xs → length xs ≡ suc (length (remove xs k))
length-remove [] k h = absurd (omega (arith, h))
length-remove (x ∷ xs) zero h = refl
length-remove (x ∷ xs) (suc k) h = let later = length-remove xs k (omega (arith, h)) in omega (arith, later)

-- a fault moves pins, and brings none
pub same_times : (nets : List Net) (its_way : Way) → IsWayOf nets its_way → (q : Pin) → times q (all_pins (with_way its_way nets)) ≡ times q (all_pins nets)
same_times nets (way.Pull net) there q = let s = set-times q nets net (turned_net (get_or nets net nowhere)) there in omega (arith, s)
same_times nets (way.Stuck net bit) there q = let s = set-times q nets net (tied bit (get_or nets net nowhere)) there in omega (arith, s)
same_times nets (way.Open net pin bit) its q =
    let n = get_or nets net nowhere in
    let there : net < length nets = slice_get_within nets net its.0 its.1 in
    let is : n ≡ its.0 = get_or_from_slice_get nets net its.0 nowhere its.1 in
    let inside : pin < length n.pins = subst (λ (x : Net). pin < length x.pins) (sym is) its.2 in
    let s = set-times q nets net (rest_of pin bit n) there in
    let l = last-times q (set nets net (rest_of pin bit n)) (pin_alone pin bit n) in
    let a = alone-times q n.pins pin inside in
    omega (arith, s, l, a)
same_times nets (way.Short first second winner) its q =
    let a = get_or nets first nowhere in
    let b = get_or nets second nowhere in
    let inside : first < length (remove nets second) = omega (arith, its.0, its.1, length-remove nets second its.1) in
    let s = set-times q (remove nets second) first (bridged winner a b) inside in
    let same : times q (get_or (remove nets second) first nowhere).pins ≡ times q a.pins =
    ap (λ (n : Net). times q n.pins) (get_or-remove_below nets second nowhere first its.0 its.1) in
    let r = remove-times q nets second its.1 in
    let j = bridge-times q winner a b in
    omega (arith, s, same, r, j)

pub faulty_found : (nets : List Net) (its_way : Way) → IsWayOf nets its_way → Once (all_pins nets) → AreFound (with_way its_way nets)
faulty_found nets its_way its is =
    are_found (with_way its_way nets)
    (once-pairs (all_pins (with_way its_way nets))
    (times-once (all_pins (with_way its_way nets)) (λ q. subst (λ (n : ℕ). n ≤ 1) (sym (same_times nets its_way its q)) (once-times (all_pins nets) is q))))

-- ---- a pin that is counted stands among them

times-among : (q : Pin) (ps : List Pin) → 0 < times q ps → IsAmong q ps
times-among q [] some = let none : times q [] ≡ 0 = refl in absurd (omega (arith, some, none))
times-among q (p ∷ ps) some = by (is_pin p q) refl (λ h. times-among q ps h)
  where
    by : (b : Bool) → is_pin p q ≡ b → (0 < times q ps → IsAmong q ps) → IsAmong q (p ∷ ps)
    by true e later = inl (pin-is p q e)
    by false e later = let here : one (is_pin p q) ≡ 0 = ap one e in inr (later (omega (arith, here, some, times-cons q p ps)))

pub faulty_pins : (nets : List Net) (its_way : Way) → IsWayOf nets its_way → (q : Pin) → IsAmong q (all_pins (with_way its_way nets)) → IsAmong q (all_pins nets)
faulty_pins nets its_way its q among =
    times-among q (all_pins nets) (subst (λ (n : ℕ). 0 < n) (same_times nets its_way its q) (among-times q (all_pins (with_way its_way nets)) among))

pub faulty_apart : (nets : List Net) (its_way : Way) → IsWayOf nets its_way → AllPairs (λ (p q : Pin). p ≢ q) (all_pins nets)
    → AllPairs (λ (p q : Pin). p ≢ q) (all_pins (with_way its_way nets))
faulty_apart nets its_way its apart =
    once-pairs (all_pins (with_way its_way nets))
    (times-once (all_pins (with_way its_way nets)) (λ q. subst (λ (n : ℕ). n ≤ 1) (sym (same_times nets its_way its q)) (once-times (all_pins nets) (once (all_pins nets) apart) q)))
