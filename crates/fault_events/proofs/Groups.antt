-- Where a fault shows in a way, two groups of pins at most see another bit, by what each drives together.
use Rattle.std.proofs.Common.{◌≡◌, ◌<◌, ℕ, zero, suc, Bool, true, false, ◌||◌, List, [], ◌∷◌, ◌++◌, length, map, take, drop, set, get_or, if◌then◌else◌, refl, sym, ap, subst, ◌∙◌, ◌⊎◌, inl, inr, arith}
use Rattle.std.specs.List.{AllByRecursion, remove}
use Rattle.std.proofs.lemmas.List.Edits.{get_or-remove_below}
use Rattle.std.proofs.lemmas.Option.{get_or_from_slice_get, slice_get_within}
use Rattle.pin_nets.specs.declared.Drive.{Drive}
use Rattle.pin_nets.specs.declared.Level.TheVariants.{One, Zero}
use Rattle.pin_nets.specs.declared.Pin.{Pin}
use Rattle.pin_nets.specs.declared.Rule.TheVariants.{Counted}
use Rattle.pin_nets.specs.Levels.{reads}
use Rattle.pin_nets.specs.Wired.{Net}
use Rattle.board_plan.specs.Planned.{Wiring, all_pins}
use Rattle.board_model.specs.Following.{AreFound, IsAmong}
use Rattle.board_model.specs.Nets.{net_of}
use Rattle.board_chain.proofs.NetLaws.{are_found}
use Rattle.board_faults.specs.declared.kinds.Way.{Way}
use Rattle.board_faults.specs.declared.kinds.Way.TheVariants as way
use Rattle.board_faults.specs.declared.kinds.Winner.{Winner}
use Rattle.board_faults.specs.declared.kinds.Winner.TheVariants.{Zeros, Ones, First, Second}
use Rattle.board_faults.specs.declared.together.Driven.{Driven}
use Rattle.board_faults.specs.Faults.{IsWayOf, bridged, joined, nowhere, pin_alone, pull_to, rest_of, rest_pull, tied, turned, turned_net, with_way}
use Rattle.board_faults.specs.Sight.{MayHaveFaults, level_with, sees_with}
use Rattle.board_faults.specs.Together.{bridge_sees, driven, pulled, sees, together, unlike}
use Rattle.board_faults.proofs.Apart.{faulty_found}
use Rattle.board_faults.proofs.Choosing.{once}
use Rattle.board_faults.proofs.Driving.{driven_both}
use Rattle.board_faults.proofs.Showing.{same_or_touched, sees_bridge, sees_net}
use Rattle.board_faults.proofs.Wires.{alone_is, among_at, among_either, among_first, among_second, its_net, removed_back, removed_kept, set_back, set_kept, set_there}
use Rattle.fault_events.specs.Notes.{first_differs, first_pins, net_at, second_differs, second_pins}

-- what the drives of some pins come to
abbrev pub made-by : (Pin → Drive) → List Pin → Driven
made-by drives pins = driven (map drives pins)

-- Two groups of pins, and what each sees without the fault and with it, by what they make.
pub record Groups (nets faulty : List Net) (ps qs : List Pin) (b1 a1 b2 a2 : Driven → Driven → Bool) : Type 0 where
  pub split : (pin : Pin) → (net_of nets pin.device pin.port ≡ net_of faulty pin.device pin.port) ⊎ (IsAmong pin ps ⊎ IsAmong pin qs)
  pub before1 : (drives : Pin → Drive) (pin : Pin) → IsAmong pin ps → sees_with drives nets pin ≡ b1 (made-by drives ps) (made-by drives qs)
  pub after1 : (drives : Pin → Drive) (pin : Pin) → IsAmong pin ps → sees_with drives faulty pin ≡ a1 (made-by drives ps) (made-by drives qs)
  pub before2 : (drives : Pin → Drive) (pin : Pin) → IsAmong pin qs → sees_with drives nets pin ≡ b2 (made-by drives ps) (made-by drives qs)
  pub after2 : (drives : Pin → Drive) (pin : Pin) → IsAmong pin qs → sees_with drives faulty pin ≡ a2 (made-by drives ps) (made-by drives qs)

-- what is known of nets and of those with a fault
pub record AreKnown (nets : List Net) (its_way : Way) : Type 0 where
  pub counted : (x : Net) → IsAmong x nets → x.rule ≡ Counted
  pub found : AreFound nets
  pub faulty : AreFound (with_way its_way nets)

all-among : {X : Type 0} (P : X → Type 0) (xs : List X) → AllByRecursion P xs → (x : X) → IsAmong x xs → P x
all-among P [] all x among = absurd among
all-among P (y ∷ ys) all x (inl e) = subst P e all.0
all-among P (y ∷ ys) all x (inr later) = all-among P ys all.1 x later

pub known : (w : Wiring) (its_way : Way) → MayHaveFaults w → IsWayOf w.nets its_way → AreKnown w.nets its_way
known w its_way may its = record {
  counted = all-among (λ (n : Net). n.rule ≡ Counted) w.nets may.counted;
  found = are_found w.nets may.apart;
  faulty = faulty_found w.nets its_way its (once (all_pins w.nets) may.apart);
}

-- ---- what a pin sees on a net

on-net : (drives : Pin → Drive) (nets : List Net) → AreFound nets → (x : Net) → IsAmong x nets → (pin : Pin) → IsAmong pin x.pins
    → sees_with drives nets pin ≡ reads (level_with drives x)
on-net drives nets found x among pin on = ap (λ (n : Net). reads (level_with drives n)) (its_net nets found x among pin on)

tied-reads : (bit : Bool) → reads (if bit then One else Zero) ≡ bit
tied-reads true = refl
tied-reads false = refl

length-remove : {X : Type 0} (xs : List X) (k : ℕ) → k < length xs → length xs ≡ suc (length (remove xs k))
length-remove [] k h = absurd (omega (arith, h))
length-remove (x ∷ xs) zero h = refl
length-remove (x ∷ xs) (suc k) h = let later = length-remove xs k (omega (arith, h)) in omega (arith, later)

or-swap : (a b c : Bool) → (a || (b || c)) ≡ (b || (a || c))
or-swap true true c = refl
or-swap true false c = refl
or-swap false b c = refl

-- a pin taken out makes what it makes beside the others
split-driven : (drives : Pin → Drive) (ps : List Pin) (k : ℕ) → k < length ps
    → made-by drives ps ≡ together (made-by drives (take 1 (drop k ps))) (made-by drives (remove ps k))
split-driven drives [] k h = absurd (omega (arith, h))
split-driven drives (p ∷ ps) zero h = driven_both (drives p ∷ []) (map drives ps)
split-driven drives (p ∷ ps) (suc k) h =
    let x = driven (drives p ∷ []) in
    let f = made-by drives (take 1 (drop k ps)) in
    let g = made-by drives (remove ps k) in
    driven_both (drives p ∷ []) (map drives ps)
    ∙ ap (together x) (split-driven drives ps k (omega (arith, h)))
    ∙ (λ i. record { zero = or-swap x.zero f.zero g.zero i; one = or-swap x.one f.one g.one i; weak = or-swap x.weak f.weak g.weak i })
    ∙ ap (together f) (sym (driven_both (drives p ∷ []) (map drives (remove ps k))))

-- ---- a net's pull, and a net that is stuck: one group of pins, on one net

module _ (nets : List Net) (k : ℕ) (new : Net) (new-pins : new.pins ≡ (net_at nets k).pins) (there : k < length nets)
    (counted : (x : Net) → IsAmong x nets → x.rule ≡ Counted) (found : AreFound nets) (faulty : AreFound (set nets k new)) where
  abbrev n : Net
  n = net_at nets k

  n-there : IsAmong n nets
  n-there = among_at nets k nowhere there

  one-back : (pin : Pin) (y : Net) → IsAmong pin y.pins → (y ≡ new) ⊎ IsAmong y nets → (x : Net) × IsAmong x nets × IsAmong pin x.pins
  one-back pin y on (inl e) = (n, n-there, subst (λ (ps : List Pin). IsAmong pin ps) (ap (λ (x : Net). x.pins) e ∙ new-pins) on)
  one-back pin y on (inr among) = (y, among, on)

  one-split : (pin : Pin) → (net_of nets pin.device pin.port ≡ net_of (set nets k new) pin.device pin.port) ⊎ ((x : Net) × (x ≡ n) × IsAmong pin x.pins)
      → (net_of nets pin.device pin.port ≡ net_of (set nets k new) pin.device pin.port) ⊎ (IsAmong pin n.pins ⊎ IsAmong pin [])
  one-split pin (inl same) = inl same
  one-split pin (inr (x, is, on)) = inr (inl (subst (λ (y : Net). IsAmong pin y.pins) is on))

  one-groups : (after : Driven → Bool) → ((drives : Pin → Drive) → reads (level_with drives new) ≡ after (made-by drives n.pins))
      → Groups nets (set nets k new) n.pins [] (λ f g. sees (together (pulled n.pull) f)) (λ f g. after f) (λ f g. true) (λ f g. true)
  one-groups after is = record {
    split = λ pin. one-split pin (same_or_touched (λ x. x ≡ n) nets (set nets k new) found faulty pin
        (λ x among. set_kept nets k new nowhere x among) (λ y among on. one-back pin y on (set_back nets k new y among)));
    before1 = λ drives pin on. on-net drives nets found n n-there pin on ∙ sees_net drives n (counted n n-there);
    after1 = λ drives pin on.
        on-net drives (set nets k new) faulty new (set_there nets k new there) pin (subst (λ (ps : List Pin). IsAmong pin ps) (sym new-pins) on) ∙ is drives;
    before2 = λ drives pin on. absurd on;
    after2 = λ drives pin on. absurd on;
  }

-- ---- an open joint

module _ (nets : List Net) (net pin : ℕ) (bit : Bool) (is : AreKnown nets (way.Open net pin bit)) (there : net < length nets)
    (inside : pin < length (net_at nets net).pins) where
  abbrev whole : Net
  whole = net_at nets net

  abbrev rest : Net
  rest = rest_of pin bit whole

  abbrev apart : Net
  apart = pin_alone pin bit whole

  abbrev opened : List Net
  opened = set nets net rest ++ apart ∷ []

  none : Pin
  none = record { device = 0; port = 0 }

  whole-there : IsAmong whole nets
  whole-there = among_at nets net nowhere there

  alone : take 1 (drop pin whole.pins) ≡ get_or whole.pins pin none ∷ []
  alone = alone_is whole.pins pin none inside

  alone-on : (q : Pin) → IsAmong q (take 1 (drop pin whole.pins)) → IsAmong q whole.pins
  alone-on q on = by (subst (λ (l : List Pin). IsAmong q l) alone on)
    where
      by : IsAmong q (get_or whole.pins pin none ∷ []) → IsAmong q whole.pins
      by (inl e) = subst (λ (x : Pin). IsAmong x whole.pins) e (among_at whole.pins pin none inside)
      by (inr more) = absurd more

  open-before : (drives : Pin → Drive) (q : Pin) → IsAmong q whole.pins
      → sees_with drives nets q
      ≡ sees (together (pulled whole.pull) (together (made-by drives (take 1 (drop pin whole.pins))) (made-by drives (remove whole.pins pin))))
  open-before drives q on =
      on-net drives nets is.found whole whole-there q on
      ∙ sees_net drives whole (is.counted whole whole-there)
      ∙ ap (λ (f : Driven). sees (together (pulled whole.pull) f)) (split-driven drives whole.pins pin inside)

  open-kept : (x : Net) → (x ≡ whole) ⊎ IsAmong x (set nets net rest) → (x ≡ whole) ⊎ IsAmong x opened
  open-kept x (inl e) = inl e
  open-kept x (inr among) = inr (among_first x (set nets net rest) (apart ∷ []) among)

  open-back : (q : Pin) (y : Net) → IsAmong q y.pins → IsAmong y (set nets net rest) ⊎ IsAmong y (apart ∷ [])
      → (x : Net) × IsAmong x nets × IsAmong q x.pins
  open-back q y on (inl among) = by (set_back nets net rest y among)
    where
      by : (y ≡ rest) ⊎ IsAmong y nets → (x : Net) × IsAmong x nets × IsAmong q x.pins
      by (inl e) = (whole, whole-there, removed_back whole.pins pin q (subst (λ (x : Net). IsAmong q x.pins) e on))
      by (inr there') = (y, there', on)
  open-back q y on (inr (inl e)) = (whole, whole-there, alone-on q (subst (λ (x : Net). IsAmong q x.pins) (sym e) on))
  open-back q y on (inr (inr more)) = absurd more

  open-split : (q : Pin) → (net_of nets q.device q.port ≡ net_of opened q.device q.port) ⊎ ((x : Net) × (x ≡ whole) × IsAmong q x.pins)
      → (net_of nets q.device q.port ≡ net_of opened q.device q.port)
      ⊎ (IsAmong q (take 1 (drop pin whole.pins)) ⊎ IsAmong q (remove whole.pins pin))
  open-split q (inl same) = inl same
  open-split q (inr (x, same, on)) = inr (by (removed_kept whole.pins pin none q (subst (λ (y : Net). IsAmong q y.pins) same on)))
    where
      by : (q ≡ get_or whole.pins pin none) ⊎ IsAmong q (remove whole.pins pin) → IsAmong q (take 1 (drop pin whole.pins)) ⊎ IsAmong q (remove whole.pins pin)
      by (inl e) = inl (subst (λ (l : List Pin). IsAmong q l) (sym alone) (inl (sym e)))
      by (inr among) = inr among

  abbrev open-sees : (f g : Driven) → Bool
  open-sees f g = sees (together (pulled whole.pull) (together f g))

  open-groups : Groups nets opened (take 1 (drop pin whole.pins)) (remove whole.pins pin)
      open-sees (λ f g. sees (together (pulled (pull_to bit)) f)) open-sees (λ f g. sees (together (pulled (rest_pull bit whole.pull)) g))
  open-groups = record {
    split = λ q. open-split q (same_or_touched (λ x. x ≡ whole) nets opened is.found is.faulty q
        (λ x among. open-kept x (set_kept nets net rest nowhere x among))
        (λ y among on. open-back q y on (among_either y (set nets net rest) (apart ∷ []) among)));
    before1 = λ drives q on. open-before drives q (alone-on q on);
    after1 = λ drives q on.
        on-net drives opened is.faulty apart (among_second apart (set nets net rest) (apart ∷ []) (inl refl)) q on ∙ sees_net drives apart refl;
    before2 = λ drives q on. open-before drives q (removed_back whole.pins pin q on);
    after2 = λ drives q on.
        on-net drives opened is.faulty rest (among_first rest (set nets net rest) (apart ∷ []) (set_there nets net rest there)) q on
        ∙ sees_net drives rest (is.counted whole whole-there);
  }

-- ---- a bridge

on-bridge : (winner : Winner) (a b : Net) (q : Pin) → IsAmong q a.pins ⊎ IsAmong q b.pins → IsAmong q (bridged winner a b).pins
on-bridge Zeros a b q (inl on) = among_first q a.pins b.pins on
on-bridge Zeros a b q (inr on) = among_second q a.pins b.pins on
on-bridge Ones a b q (inl on) = among_first q a.pins b.pins on
on-bridge Ones a b q (inr on) = among_second q a.pins b.pins on
on-bridge First a b q (inl on) = among_first q a.pins b.pins on
on-bridge First a b q (inr on) = among_second q a.pins b.pins on
on-bridge Second a b q (inl on) = among_second q b.pins a.pins on
on-bridge Second a b q (inr on) = among_first q b.pins a.pins on

turn : {X Y : Type 0} → X ⊎ Y → Y ⊎ X
turn (inl x) = inr x
turn (inr y) = inl y

off-bridge : (winner : Winner) (a b : Net) (q : Pin) → IsAmong q (bridged winner a b).pins → IsAmong q a.pins ⊎ IsAmong q b.pins
off-bridge Zeros a b q on = among_either q a.pins b.pins on
off-bridge Ones a b q on = among_either q a.pins b.pins on
off-bridge First a b q on = among_either q a.pins b.pins on
off-bridge Second a b q on = turn (among_either q b.pins a.pins on)

module _ (nets : List Net) (first second : ℕ) (winner : Winner) (is : AreKnown nets (way.Short first second winner)) (below : first < second)
    (there : second < length nets) where
  abbrev a : Net
  a = net_at nets first

  abbrev b : Net
  b = net_at nets second

  abbrev joint : Net
  joint = bridged winner a b

  abbrev short : List Net
  short = set (remove nets second) first joint

  a-there : IsAmong a nets
  a-there = among_at nets first nowhere (omega (arith, below, there))

  b-there : IsAmong b nets
  b-there = among_at nets second nowhere there

  inside' : first < length (remove nets second)
  inside' = omega (arith, below, there, length-remove nets second there)

  joint-there : IsAmong joint short
  joint-there = set_there (remove nets second) first joint inside'

  abbrev Ends : Net → Type 0
  Ends x = (x ≡ a) ⊎ (x ≡ b)

  short-kept : (x : Net) → (x ≡ b) ⊎ IsAmong x (remove nets second) → Ends x ⊎ IsAmong x short
  short-kept x (inl e) = inl (inr e)
  short-kept x (inr among) = by (set_kept (remove nets second) first joint nowhere x among)
    where
      by : (x ≡ get_or (remove nets second) first nowhere) ⊎ IsAmong x short → Ends x ⊎ IsAmong x short
      by (inl e) = inl (inl (e ∙ get_or-remove_below nets second nowhere first below there))
      by (inr h) = inr h

  short-back : (q : Pin) (y : Net) → IsAmong q y.pins → (y ≡ joint) ⊎ IsAmong y (remove nets second)
      → (x : Net) × IsAmong x nets × IsAmong q x.pins
  short-back q y on (inl e) = by (off-bridge winner a b q (subst (λ (x : Net). IsAmong q x.pins) e on))
    where
      by : IsAmong q a.pins ⊎ IsAmong q b.pins → (x : Net) × IsAmong x nets × IsAmong q x.pins
      by (inl h) = (a, a-there, h)
      by (inr h) = (b, b-there, h)
  short-back q y on (inr among) = (y, removed_back nets second y among, on)

  short-split : (q : Pin) → (net_of nets q.device q.port ≡ net_of short q.device q.port) ⊎ ((x : Net) × Ends x × IsAmong q x.pins)
      → (net_of nets q.device q.port ≡ net_of short q.device q.port) ⊎ (IsAmong q a.pins ⊎ IsAmong q b.pins)
  short-split q (inl same) = inl same
  short-split q (inr (x, inl it, on)) = inr (inl (subst (λ (y : Net). IsAmong q y.pins) it on))
  short-split q (inr (x, inr it, on)) = inr (inr (subst (λ (y : Net). IsAmong q y.pins) it on))

  abbrev after : (f g : Driven) → Bool
  after f g = bridge_sees winner (joined a.pull b.pull) f g

  short-after : (drives : Pin → Drive) (q : Pin) → IsAmong q a.pins ⊎ IsAmong q b.pins
      → sees_with drives short q ≡ after (made-by drives a.pins) (made-by drives b.pins)
  short-after drives q on = on-net drives short is.faulty joint joint-there q (on-bridge winner a b q on) ∙ sees_bridge drives winner a b

  short-groups : Groups nets short a.pins b.pins (λ f g. sees (together (pulled a.pull) f)) after (λ f g. sees (together (pulled b.pull) g)) after
  short-groups = record {
    split = λ q. short-split q (same_or_touched Ends nets short is.found is.faulty q
        (λ x among. short-kept x (removed_kept nets second nowhere x among))
        (λ y among on. short-back q y on (set_back (remove nets second) first joint y among)));
    before1 = λ drives q on. on-net drives nets is.found a a-there q on ∙ sees_net drives a (is.counted a a-there);
    after1 = λ drives q on. short-after drives q (inl on);
    before2 = λ drives q on. on-net drives nets is.found b b-there q on ∙ sees_net drives b (is.counted b b-there);
    after2 = λ drives q on. short-after drives q (inr on);
  }

-- ---- all ways

-- both groups without the fault, and with it
pub record Sights (nets : List Net) (its_way : Way) : Type 0 where
  pub b1 : Driven → Driven → Bool
  pub a1 : Driven → Driven → Bool
  pub b2 : Driven → Driven → Bool
  pub a2 : Driven → Driven → Bool
  pub groups : Groups nets (with_way its_way nets) (first_pins nets its_way) (second_pins nets its_way) b1 a1 b2 a2
  pub one : (f g : Driven) → first_differs nets its_way f g ≡ unlike (b1 f g) (a1 f g)
  pub two : (f g : Driven) → second_differs nets its_way f g ≡ unlike (b2 f g) (a2 f g)

or-none : (b : Bool) → (b || false) ≡ b
or-none true = refl
or-none false = refl

pub sights : (nets : List Net) (its_way : Way) → AreKnown nets its_way → IsWayOf nets its_way → Sights nets its_way
sights nets (way.Pull net) is there =
    let n = net_at nets net in
    record {
      b1 = λ f g. sees (together (pulled n.pull) f);
      a1 = λ f g. sees (together (pulled (turned n.pull)) f);
      b2 = λ f g. true;
      a2 = λ f g. true;
      groups = one-groups nets net (turned_net n) refl there is.counted is.found is.faulty (λ f. sees (together (pulled (turned n.pull)) f))
          (λ drives. sees_net drives (turned_net n) (is.counted n (among_at nets net nowhere there)));
      one = λ f g. refl;
      two = λ f g. refl;
    }
sights nets (way.Stuck net bit) is there =
    let n = net_at nets net in
    record {
      b1 = λ f g. sees (together (pulled n.pull) f);
      a1 = λ f g. bit;
      b2 = λ f g. true;
      a2 = λ f g. true;
      groups = one-groups nets net (tied bit n) refl there is.counted is.found is.faulty (λ f. bit) (λ drives. tied-reads bit);
      one = λ f g. refl;
      two = λ f g. refl;
    }
sights nets (way.Open net pin bit) is its =
    let there : net < length nets = slice_get_within nets net its.0 its.1 in
    let found : net_at nets net ≡ its.0 = get_or_from_slice_get nets net its.0 nowhere its.1 in
    let inside : pin < length (net_at nets net).pins = subst (λ (n : Net). pin < length n.pins) (sym found) its.2 in
    let n = net_at nets net in
    record {
      b1 = λ f g. sees (together (pulled n.pull) (together f g));
      a1 = λ f g. sees (together (pulled (pull_to bit)) f);
      b2 = λ f g. sees (together (pulled n.pull) (together f g));
      a2 = λ f g. sees (together (pulled (rest_pull bit n.pull)) g);
      groups = open-groups nets net pin bit is there inside;
      one = λ f g. or-none _;
      two = λ f g. refl;
    }
sights nets (way.Short first second winner) is its =
    let a = net_at nets first in
    let b = net_at nets second in
    record {
      b1 = λ f g. sees (together (pulled a.pull) f);
      a1 = bridge_sees winner (joined a.pull b.pull);
      b2 = λ f g. sees (together (pulled b.pull) g);
      a2 = bridge_sees winner (joined a.pull b.pull);
      groups = short-groups nets first second winner is its.0 its.1;
      one = λ f g. or-none _;
      two = λ f g. refl;
    }
