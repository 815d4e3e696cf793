-- Which ways can show: those where some of what pins can make together is seen otherwise, and no others.
use Rattle.std.proofs.Common.{◌≡◌, ◌<◌, ℕ, zero, suc, Bool, true, false, ◌&&◌, ◌||◌, List, [], ◌∷◌, ◌++◌, length, map, take, drop, set, get_or, slice_get, Option, Some, None, if◌then◌else◌, refl, sym, ap, subst, ◌∙◌, ◌⊎◌, inl, inr, arith}
use Rattle.std.specs.List.{list_any, remove}
use Rattle.std.proofs.lemmas.Bool.{and_parts, false≢true}
use Rattle.std.proofs.lemmas.List.Edits.{get_or-remove_below}
use Rattle.std.proofs.lemmas.Option.{get_or_from_slice_get, slice_get_within}
use Rattle.pin_nets.specs.declared.Drive.{Drive}
use Rattle.pin_nets.specs.declared.Pin.{Pin}
use Rattle.pin_nets.specs.declared.Rule.TheVariants.{Counted}
use Rattle.pin_nets.specs.declared.Level.TheVariants.{One, Zero}
use Rattle.pin_nets.specs.Levels.{reads}
use Rattle.pin_nets.specs.Wired.{Net}
use Rattle.board_model.specs.Following.{AreFound, IsAmong}
use Rattle.board_model.specs.Nets.{net_of}
use Rattle.board_plan.specs.Planned.{Member, Wiring, all_pins}
use Rattle.board_faults.specs.declared.kinds.Way.{Way}
use Rattle.board_faults.specs.declared.kinds.Way.TheVariants as way
use Rattle.board_faults.specs.declared.kinds.Winner.{Winner}
use Rattle.board_faults.specs.declared.kinds.Winner.TheVariants.{Zeros, Ones, First, Second}
use Rattle.board_faults.specs.declared.together.Driven.{Driven}
use Rattle.board_faults.specs.Faults.{IsWayOf, bridged, joined, nowhere, pin_alone, pull_to, rest_of, rest_pull, tied, turned, turned_net, with_way}
use Rattle.board_faults.specs.Sight.{CanDrive, IsInvisible, is_read, level_with, sees_with}
use Rattle.board_faults.specs.Together.{all_driven, any_read, bridge_sees, driven, makes, pulled, sees, shows, sight_at, sight_of_pin, some_pair, some_single, together, unlike}
use Rattle.board_faults.proofs.Choosing.{Once, both_from, choice_can, choose, chosen, chosen_first, chosen_second, net_once, removed_once, two_once}
use Rattle.board_faults.proofs.Driving.{any_found, driven_both}
use Rattle.board_faults.proofs.Making.{what_can_be_made, what_is_driven}
use Rattle.board_faults.proofs.Showing.{alike, any_is_read, like, pin_read, quiet_and, quiet_or, quiet_pair, quiet_single, same_or_touched, sees_bridge, sees_net}
use Rattle.board_faults.proofs.Wires.{alone_is, among_at, among_either, among_first, among_second, its_net, removed_back, removed_kept, set_back, set_kept, set_there}

-- what is known of a board and of one with a fault
pub record Stands (w : Wiring) (its_way : Way) : Type 0 where
  pub counted : (x : Net) → IsAmong x w.nets → x.rule ≡ Counted
  pub found : AreFound w.nets
  pub faulty : AreFound (with_way its_way w.nets)
  pub once : Once (all_pins w.nets)

-- ---- a pin that is read, and its device

record ReadPin (ms : List Member) (pins : List Pin) : Type 0 where
  pin : Pin
  among : IsAmong pin pins
  m : Member
  at : slice_get ms pin.device ≡ Some m
  read : is_read m pin.port ≡ true

read-pin : (ms : List Member) (pins : List Pin) → any_read ms pins ≡ true → ReadPin ms pins
read-pin ms pins e = let f = any_found (λ p. (sight_of_pin ms p).read) pins e in by f.x f.among (slice_get ms f.x.device) refl f.is
  where
    by : (p : Pin) → IsAmong p pins → (o : Option Member) → slice_get ms p.device ≡ o → (sight_of_pin ms p).read ≡ true → ReadPin ms pins
    by p among None e is = absurd (false≢true (sym (ap (λ (o : Option Member). (sight_at p.port o).read) e) ∙ is))
    by p among (Some m) e is = record {
      pin = p;
      among = among;
      m = m;
      at = e;
      read = sym (ap (λ (o : Option Member). (sight_at p.port o).read) e) ∙ is;
    }

-- ---- what a pin sees on a net

on-net : (drives : Pin → Drive) (nets : List Net) → AreFound nets → (x : Net) → IsAmong x nets → (pin : Pin) → IsAmong pin x.pins
    → sees_with drives nets pin ≡ reads (level_with drives x)
on-net drives nets found x among pin on = ap (λ (n : Net). reads (level_with drives n)) (its_net nets found x among pin on)

tied_reads : (bit : Bool) → reads (if bit then One else Zero) ≡ bit
tied_reads true = refl
tied_reads false = refl

length-remove : {X : Type 0} (xs : List X) (k : ℕ) → k < length xs → length xs ≡ suc (length (remove xs k))
length-remove [] k h = absurd (omega (arith, h))
length-remove (x ∷ xs) zero h = refl
length-remove (x ∷ xs) (suc k) h = let later = length-remove xs k (omega (arith, h)) in omega (arith, later)

or-swap : (a b c : Bool) → (a || (b || c)) ≡ (b || (a || c))
or-swap true true c = refl
or-swap true false c = refl
or-swap false b c = refl

-- a pin taken out makes what it makes beside the others
split_driven : (drives : Pin → Drive) (ps : List Pin) (k : ℕ) → k < length ps
    → driven (map drives ps) ≡ together (driven (map drives (take 1 (drop k ps)))) (driven (map drives (remove ps k)))
split_driven drives [] k h = absurd (omega (arith, h))
split_driven drives (p ∷ ps) zero h = driven_both (drives p ∷ []) (map drives ps)
split_driven drives (p ∷ ps) (suc k) h =
    let x = driven (drives p ∷ []) in
    let f = driven (map drives (take 1 (drop k ps))) in
    let g = driven (map drives (remove ps k)) in
    driven_both (drives p ∷ []) (map drives ps)
    ∙ ap (together x) (split_driven drives ps k (omega (arith, h)))
    ∙ (λ i. record { zero = or-swap x.zero f.zero g.zero i; one = or-swap x.one f.one g.one i; weak = or-swap x.weak f.weak g.weak i })
    ∙ ap (together f) (sym (driven_both (drives p ∷ []) (map drives (remove ps k))))

-- what the drives of some pins come to
abbrev made-by : (Pin → Drive) → List Pin → Driven
made-by drives pins = driven (map drives pins)

-- both are seen alike, so no difference is there
no-difference : (a b : Bool) → a ≡ b → unlike a b ≡ true → ⊥
no-difference a b same e = false≢true (sym (alike a b same) ∙ e)

or-either : (a b : Bool) → (a || b) ≡ true → (a ≡ true) ⊎ (b ≡ true)
or-either true b e = inl refl
or-either false b e = inr e

-- ---- a net's pull, and a net that is stuck: one group of pins, on one net

module _ (w : Wiring) (k : ℕ) (new : Net) (new-pins : new.pins ≡ (get_or w.nets k nowhere).pins) (there : k < length w.nets)
    (counted : (x : Net) → IsAmong x w.nets → x.rule ≡ Counted) (found : AreFound w.nets) (faulty : AreFound (set w.nets k new)) (one : Once (all_pins w.nets)) where
  abbrev n : Net
  n = get_or w.nets k nowhere

  -- what a pin of it sees without the fault, and with it
  one-before : (drives : Pin → Drive) (pin : Pin) → IsAmong pin n.pins
      → sees_with drives w.nets pin ≡ sees (together (pulled n.pull) (made-by drives n.pins))
  one-before drives pin on =
      on-net drives w.nets found n (among_at w.nets k nowhere there) pin on
      ∙ sees_net drives n (counted n (among_at w.nets k nowhere there))

  one-after : (drives : Pin → Drive) (pin : Pin) → IsAmong pin n.pins → sees_with drives (set w.nets k new) pin ≡ reads (level_with drives new)
  one-after drives pin on =
      on-net drives (set w.nets k new) faulty new (set_there w.nets k new there) pin (subst (λ (ps : List Pin). IsAmong pin ps) (sym new-pins) on)

  one-quiet : (after : Driven → Bool) → ((drives : Pin → Drive) → reads (level_with drives new) ≡ after (made-by drives n.pins))
      → some_single (makes w.members n.pins) (λ f. any_read w.members n.pins && unlike (sees (together (pulled n.pull) f)) (after f)) ≡ false
      → (drives : Pin → Drive) → CanDrive w.members drives → (pin : Pin) (m : Member) → slice_get w.members pin.device ≡ Some m → is_read m pin.port ≡ true
      → sees_with drives w.nets pin ≡ sees_with drives (set w.nets k new) pin
  one-quiet after is none drives can pin m at read =
      by (same_or_touched (λ x. x ≡ n) w.nets (set w.nets k new) found faulty pin
      (λ x among. set_kept w.nets k new nowhere x among) (λ y among on. back y on (set_back w.nets k new y among)))
    where
      back : (y : Net) → IsAmong pin y.pins → (y ≡ new) ⊎ IsAmong y w.nets → (x : Net) × IsAmong x w.nets × IsAmong pin x.pins
      back y on (inl e) = (n, among_at w.nets k nowhere there, subst (λ (ps : List Pin). IsAmong pin ps) (ap (λ (x : Net). x.pins) e ∙ new-pins) on)
      back y on (inr among) = (y, among, on)

      by : (net_of w.nets pin.device pin.port ≡ net_of (set w.nets k new) pin.device pin.port) ⊎ ((x : Net) × (x ≡ n) × IsAmong pin x.pins)
          → sees_with drives w.nets pin ≡ sees_with drives (set w.nets k new) pin
      by (inl same) = ap (λ (x : Net). reads (level_with drives x)) same
      by (inr (x, is-n, on')) =
          let on : IsAmong pin n.pins = subst (λ (y : Net). IsAmong pin y.pins) is-n on' in
          let f = made-by drives n.pins in
          let quiet = quiet_single (makes w.members n.pins) (λ g. any_read w.members n.pins && unlike (sees (together (pulled n.pull) g)) (after g)) f none
          (what_is_driven w.members drives can n.pins) in
          let same = like (sees (together (pulled n.pull) f)) (after f)
          (quiet_and (any_read w.members n.pins) _ quiet (any_is_read w.members pin n.pins on (pin_read w.members pin m at read))) in
          one-before drives pin on ∙ same ∙ sym (is drives) ∙ sym (one-after drives pin on)

  one-loud : (after : Driven → Bool) → ((drives : Pin → Drive) → reads (level_with drives new) ≡ after (made-by drives n.pins))
      → some_single (makes w.members n.pins) (λ f. any_read w.members n.pins && unlike (sees (together (pulled n.pull) f)) (after f)) ≡ true
      → ((drives : Pin → Drive) → CanDrive w.members drives → (pin : Pin) (m : Member) → slice_get w.members pin.device ≡ Some m → is_read m pin.port ≡ true
      → sees_with drives w.nets pin ≡ sees_with drives (set w.nets k new) pin) → ⊥
  one-loud after is some unseen =
      let its = any_found (λ f. makes w.members n.pins f && (any_read w.members n.pins && unlike (sees (together (pulled n.pull) f)) (after f))) all_driven some in
      let parts = and_parts (makes w.members n.pins its.x) _ its.is in
      let differs = and_parts (any_read w.members n.pins) _ parts.1 in
      let made = what_can_be_made w.members n.pins its.x parts.0 in
      let drives = choose n.pins made.drives in
      let is-made : made-by drives n.pins ≡ its.x = ap driven (chosen w.members n.pins made.drives (net_once w.nets k one) made.each) ∙ made.makes in
      let p = read-pin w.members n.pins differs.0 in
      let seen = unseen drives (choice_can w.members n.pins made.drives made.each) p.pin p.m p.at p.read in
      no-difference (sees (together (pulled n.pull) its.x)) (after its.x)
      (ap (λ (f : Driven). sees (together (pulled n.pull) f)) (sym is-made) ∙ sym (one-before drives p.pin p.among) ∙ seen ∙ one-after drives p.pin p.among ∙ is drives ∙ ap after is-made)
      differs.1

-- ---- an open joint, and a bridge: two groups of pins

-- Two groups of pins, and what each sees without the fault and with it, by what they make.
pub record Two (w : Wiring) (faulty : List Net) (ps qs : List Pin) (b1 a1 b2 a2 : Driven → Driven → Bool) : Type 0 where
  pub once : Once (ps ++ qs)
  pub split : (pin : Pin) → (net_of w.nets pin.device pin.port ≡ net_of faulty pin.device pin.port) ⊎ (IsAmong pin ps ⊎ IsAmong pin qs)
  pub before1 : (drives : Pin → Drive) (pin : Pin) → IsAmong pin ps → sees_with drives w.nets pin ≡ b1 (made-by drives ps) (made-by drives qs)
  pub after1 : (drives : Pin → Drive) (pin : Pin) → IsAmong pin ps → sees_with drives faulty pin ≡ a1 (made-by drives ps) (made-by drives qs)
  pub before2 : (drives : Pin → Drive) (pin : Pin) → IsAmong pin qs → sees_with drives w.nets pin ≡ b2 (made-by drives ps) (made-by drives qs)
  pub after2 : (drives : Pin → Drive) (pin : Pin) → IsAmong pin qs → sees_with drives faulty pin ≡ a2 (made-by drives ps) (made-by drives qs)

module _ (w : Wiring) (faulty : List Net) (ps qs : List Pin) (b1 a1 b2 a2 : Driven → Driven → Bool) (two : Two w faulty ps qs b1 a1 b2 a2) where
  abbrev ms : List Member
  ms = w.members

  abbrev test : Driven → Driven → Bool
  test f g = (any_read ms ps && unlike (b1 f g) (a1 f g)) || (any_read ms qs && unlike (b2 f g) (a2 f g))

  two-quiet : some_pair (makes ms ps) (makes ms qs) test ≡ false
      → (drives : Pin → Drive) → CanDrive ms drives → (pin : Pin) (m : Member) → slice_get ms pin.device ≡ Some m → is_read m pin.port ≡ true
      → sees_with drives w.nets pin ≡ sees_with drives faulty pin
  two-quiet none drives can pin m at read = by (two.split pin)
    where
      by : (net_of w.nets pin.device pin.port ≡ net_of faulty pin.device pin.port) ⊎ (IsAmong pin ps ⊎ IsAmong pin qs)
          → sees_with drives w.nets pin ≡ sees_with drives faulty pin
      by (inl same) = ap (λ (x : Net). reads (level_with drives x)) same
      by (inr either) =
          let f = made-by drives ps in
          let g = made-by drives qs in
          let quiet = quiet_pair (makes ms ps) (makes ms qs) test f g none (what_is_driven ms drives can ps) (what_is_driven ms drives can qs) in
          let none = quiet_or (any_read ms ps && unlike (b1 f g) (a1 f g)) (any_read ms qs && unlike (b2 f g) (a2 f g)) quiet in
          elim either [
            | inl on ↦
                let same = like (b1 f g) (a1 f g) (quiet_and (any_read ms ps) _ none.0 (any_is_read ms pin ps on (pin_read ms pin m at read))) in
                two.before1 drives pin on ∙ same ∙ sym (two.after1 drives pin on)
            | inr on ↦
                let same = like (b2 f g) (a2 f g) (quiet_and (any_read ms qs) _ none.1 (any_is_read ms pin qs on (pin_read ms pin m at read))) in
                two.before2 drives pin on ∙ same ∙ sym (two.after2 drives pin on)
          ]

  two-loud : some_pair (makes ms ps) (makes ms qs) test ≡ true
      → ((drives : Pin → Drive) → CanDrive ms drives → (pin : Pin) (m : Member) → slice_get ms pin.device ≡ Some m → is_read m pin.port ≡ true
      → sees_with drives w.nets pin ≡ sees_with drives faulty pin) → ⊥
  two-loud some unseen =
      let one = any_found (λ f. makes ms ps f && list_any (λ g. makes ms qs g && test f g) all_driven) all_driven some in
      let first = and_parts (makes ms ps one.x) _ one.is in
      let other = any_found (λ g. makes ms qs g && test one.x g) all_driven first.1 in
      let second = and_parts (makes ms qs other.x) _ other.is in
      let f = one.x in
      let g = other.x in
      let made = what_can_be_made ms ps f first.0 in
      let made' = what_can_be_made ms qs g second.0 in
      let drives = choose (ps ++ qs) (made.drives ++ made'.drives) in
      let can = choice_can ms (ps ++ qs) (made.drives ++ made'.drives) (both_from ms ps qs made.drives made'.drives made.each made'.each) in
      let is-f : made-by drives ps ≡ f = ap driven (chosen_first ms ps qs made.drives made'.drives two.once made.each made'.each) ∙ made.makes in
      let is-g : made-by drives qs ≡ g = ap driven (chosen_second ms ps qs made.drives made'.drives two.once made.each made'.each) ∙ made'.makes in
      elim (or-either (any_read ms ps && unlike (b1 f g) (a1 f g)) (any_read ms qs && unlike (b2 f g) (a2 f g)) second.1) [
        | inl e ↦
            let parts = and_parts (any_read ms ps) _ e in
            let p = read-pin ms ps parts.0 in
            let seen = unseen drives can p.pin p.m p.at p.read in
            no-difference (b1 f g) (a1 f g)
            ((λ i. b1 (sym is-f i) (sym is-g i)) ∙ sym (two.before1 drives p.pin p.among) ∙ seen ∙ two.after1 drives p.pin p.among ∙ (λ i. a1 (is-f i) (is-g i)))
            parts.1
        | inr e ↦
            let parts = and_parts (any_read ms qs) _ e in
            let p = read-pin ms qs parts.0 in
            let seen = unseen drives can p.pin p.m p.at p.read in
            no-difference (b2 f g) (a2 f g)
            ((λ i. b2 (sym is-f i) (sym is-g i)) ∙ sym (two.before2 drives p.pin p.among) ∙ seen ∙ two.after2 drives p.pin p.among ∙ (λ i. a2 (is-f i) (is-g i)))
            parts.1
      ]

-- ---- an open joint

module _ (w : Wiring) (net pin : ℕ) (bit : Bool) (stands : Stands w (way.Open net pin bit)) (there : net < length w.nets)
    (inside : pin < length (get_or w.nets net nowhere).pins) where
  abbrev whole : Net
  whole = get_or w.nets net nowhere

  abbrev rest : Net
  rest = rest_of pin bit whole

  abbrev apart : Net
  apart = pin_alone pin bit whole

  abbrev opened : List Net
  opened = set w.nets net rest ++ apart ∷ []

  none : Pin
  none = record { device = 0; port = 0 }

  alone : take 1 (drop pin whole.pins) ≡ get_or whole.pins pin none ∷ []
  alone = alone_is whole.pins pin none inside

  alone-on : (q : Pin) → IsAmong q (take 1 (drop pin whole.pins)) → IsAmong q whole.pins
  alone-on q on = by (subst (λ (l : List Pin). IsAmong q l) alone on)
    where
      by : IsAmong q (get_or whole.pins pin none ∷ []) → IsAmong q whole.pins
      by (inl e) = subst (λ (x : Pin). IsAmong x whole.pins) e (among_at whole.pins pin none inside)
      by (inr more) = absurd more

  open-before : (drives : Pin → Drive) (q : Pin) → IsAmong q whole.pins
      → sees_with drives w.nets q
      ≡ sees (together (pulled whole.pull) (together (made-by drives (take 1 (drop pin whole.pins))) (made-by drives (remove whole.pins pin))))
  open-before drives q on =
      on-net drives w.nets stands.found whole (among_at w.nets net nowhere there) q on
      ∙ sees_net drives whole (stands.counted whole (among_at w.nets net nowhere there))
      ∙ ap (λ (f : Driven). sees (together (pulled whole.pull) f)) (split_driven drives whole.pins pin inside)

  open-kept : (x : Net) → (x ≡ whole) ⊎ IsAmong x (set w.nets net rest) → (x ≡ whole) ⊎ IsAmong x opened
  open-kept x (inl e) = inl e
  open-kept x (inr among) = inr (among_first x (set w.nets net rest) (apart ∷ []) among)

  open-back : (q : Pin) (y : Net) → IsAmong q y.pins → IsAmong y (set w.nets net rest) ⊎ IsAmong y (apart ∷ [])
      → (x : Net) × IsAmong x w.nets × IsAmong q x.pins
  open-back q y on (inl among) = by (set_back w.nets net rest y among)
    where
      by : (y ≡ rest) ⊎ IsAmong y w.nets → (x : Net) × IsAmong x w.nets × IsAmong q x.pins
      by (inl e) = (whole, among_at w.nets net nowhere there, removed_back whole.pins pin q (subst (λ (x : Net). IsAmong q x.pins) e on))
      by (inr there') = (y, there', on)
  open-back q y on (inr (inl e)) = (whole, among_at w.nets net nowhere there, alone-on q (subst (λ (x : Net). IsAmong q x.pins) (sym e) on))
  open-back q y on (inr (inr more)) = absurd more

  open-split : (q : Pin) → (net_of w.nets q.device q.port ≡ net_of opened q.device q.port) ⊎ ((x : Net) × (x ≡ whole) × IsAmong q x.pins)
      → (net_of w.nets q.device q.port ≡ net_of opened q.device q.port)
      ⊎ (IsAmong q (take 1 (drop pin whole.pins)) ⊎ IsAmong q (remove whole.pins pin))
  open-split q (inl same) = inl same
  open-split q (inr (x, is, on)) = inr (by (removed_kept whole.pins pin none q (subst (λ (y : Net). IsAmong q y.pins) is on)))
    where
      by : (q ≡ get_or whole.pins pin none) ⊎ IsAmong q (remove whole.pins pin) → IsAmong q (take 1 (drop pin whole.pins)) ⊎ IsAmong q (remove whole.pins pin)
      by (inl e) = inl (subst (λ (l : List Pin). IsAmong q l) (sym alone) (inl (sym e)))
      by (inr among) = inr among

  abbrev open-sees : (f g : Driven) → Bool
  open-sees f g = sees (together (pulled whole.pull) (together f g))

  open-two : Two w opened (take 1 (drop pin whole.pins)) (remove whole.pins pin)
      open-sees (λ f g. sees (together (pulled (pull_to bit)) f)) open-sees (λ f g. sees (together (pulled (rest_pull bit whole.pull)) g))
  open-two = record {
    once = subst (λ (l : List Pin). Once (l ++ remove whole.pins pin)) (sym alone) (removed_once whole.pins pin none inside (net_once w.nets net stands.once));
    split = λ q. open-split q (same_or_touched (λ x. x ≡ whole) w.nets opened stands.found stands.faulty q
        (λ x among. open-kept x (set_kept w.nets net rest nowhere x among))
        (λ y among on. open-back q y on (among_either y (set w.nets net rest) (apart ∷ []) among)));
    before1 = λ drives q on. open-before drives q (alone-on q on);
    after1 = λ drives q on.
        on-net drives opened stands.faulty apart (among_second apart (set w.nets net rest) (apart ∷ []) (inl refl)) q on ∙ sees_net drives apart refl;
    before2 = λ drives q on. open-before drives q (removed_back whole.pins pin q on);
    after2 = λ drives q on.
        on-net drives opened stands.faulty rest (among_first rest (set w.nets net rest) (apart ∷ []) (set_there w.nets net rest there)) q on
        ∙ sees_net drives rest (stands.counted whole (among_at w.nets net nowhere there));
  }

-- ---- a bridge

on-bridge : (winner : Winner) (a b : Net) (q : Pin) → IsAmong q a.pins ⊎ IsAmong q b.pins → IsAmong q (bridged winner a b).pins
on-bridge Zeros a b q (inl on) = among_first q a.pins b.pins on
on-bridge Zeros a b q (inr on) = among_second q a.pins b.pins on
on-bridge Ones a b q (inl on) = among_first q a.pins b.pins on
on-bridge Ones a b q (inr on) = among_second q a.pins b.pins on
on-bridge First a b q (inl on) = among_first q a.pins b.pins on
on-bridge First a b q (inr on) = among_second q a.pins b.pins on
on-bridge Second a b q (inl on) = among_second q b.pins a.pins on
on-bridge Second a b q (inr on) = among_first q b.pins a.pins on

turn : {X Y : Type 0} → X ⊎ Y → Y ⊎ X
turn (inl x) = inr x
turn (inr y) = inl y

off-bridge : (winner : Winner) (a b : Net) (q : Pin) → IsAmong q (bridged winner a b).pins → IsAmong q a.pins ⊎ IsAmong q b.pins
off-bridge Zeros a b q on = among_either q a.pins b.pins on
off-bridge Ones a b q on = among_either q a.pins b.pins on
off-bridge First a b q on = among_either q a.pins b.pins on
off-bridge Second a b q on = turn (among_either q b.pins a.pins on)

module _ (w : Wiring) (first second : ℕ) (winner : Winner) (stands : Stands w (way.Short first second winner)) (below : first < second)
    (there : second < length w.nets) where
  abbrev a : Net
  a = get_or w.nets first nowhere

  abbrev b : Net
  b = get_or w.nets second nowhere

  abbrev joint : Net
  joint = bridged winner a b

  abbrev short : List Net
  short = set (remove w.nets second) first joint

  a-there : IsAmong a w.nets
  a-there = among_at w.nets first nowhere (omega (arith, below, there))

  b-there : IsAmong b w.nets
  b-there = among_at w.nets second nowhere there

  inside' : first < length (remove w.nets second)
  inside' = omega (arith, below, there, length-remove w.nets second there)

  joint-there : IsAmong joint short
  joint-there = set_there (remove w.nets second) first joint inside'

  abbrev Ends : Net → Type 0
  Ends x = (x ≡ a) ⊎ (x ≡ b)

  short-kept : (x : Net) → (x ≡ b) ⊎ IsAmong x (remove w.nets second) → Ends x ⊎ IsAmong x short
  short-kept x (inl e) = inl (inr e)
  short-kept x (inr among) = by (set_kept (remove w.nets second) first joint nowhere x among)
    where
      by : (x ≡ get_or (remove w.nets second) first nowhere) ⊎ IsAmong x short → Ends x ⊎ IsAmong x short
      by (inl e) = inl (inl (e ∙ get_or-remove_below w.nets second nowhere first below there))
      by (inr h) = inr h

  short-back : (q : Pin) (y : Net) → IsAmong q y.pins → (y ≡ joint) ⊎ IsAmong y (remove w.nets second)
      → (x : Net) × IsAmong x w.nets × IsAmong q x.pins
  short-back q y on (inl e) = by (off-bridge winner a b q (subst (λ (x : Net). IsAmong q x.pins) e on))
    where
      by : IsAmong q a.pins ⊎ IsAmong q b.pins → (x : Net) × IsAmong x w.nets × IsAmong q x.pins
      by (inl h) = (a, a-there, h)
      by (inr h) = (b, b-there, h)
  short-back q y on (inr among) = (y, removed_back w.nets second y among, on)

  short-split : (q : Pin) → (net_of w.nets q.device q.port ≡ net_of short q.device q.port) ⊎ ((x : Net) × Ends x × IsAmong q x.pins)
      → (net_of w.nets q.device q.port ≡ net_of short q.device q.port) ⊎ (IsAmong q a.pins ⊎ IsAmong q b.pins)
  short-split q (inl same) = inl same
  short-split q (inr (x, inl is, on)) = inr (inl (subst (λ (y : Net). IsAmong q y.pins) is on))
  short-split q (inr (x, inr is, on)) = inr (inr (subst (λ (y : Net). IsAmong q y.pins) is on))

  abbrev after : (f g : Driven) → Bool
  after f g = bridge_sees winner (joined a.pull b.pull) f g

  short-after : (drives : Pin → Drive) (q : Pin) → IsAmong q a.pins ⊎ IsAmong q b.pins
      → sees_with drives short q ≡ after (made-by drives a.pins) (made-by drives b.pins)
  short-after drives q on = on-net drives short stands.faulty joint joint-there q (on-bridge winner a b q on) ∙ sees_bridge drives winner a b

  short-two : Two w short a.pins b.pins (λ f g. sees (together (pulled a.pull) f)) after (λ f g. sees (together (pulled b.pull) g)) after
  short-two = record {
    once = two_once w.nets first second below stands.once;
    split = λ q. short-split q (same_or_touched Ends w.nets short stands.found stands.faulty q
        (λ x among. short-kept x (removed_kept w.nets second nowhere x among))
        (λ y among on. short-back q y on (set_back (remove w.nets second) first joint y among)));
    before1 = λ drives q on. on-net drives w.nets stands.found a a-there q on ∙ sees_net drives a (stands.counted a a-there);
    after1 = λ drives q on. short-after drives q (inl on);
    before2 = λ drives q on. on-net drives w.nets stands.found b b-there q on ∙ sees_net drives b (stands.counted b b-there);
    after2 = λ drives q on. short-after drives q (inr on);
  }

-- ---- all ways

pub record Tells (w : Wiring) (its_way : Way) : Type 0 where
  pub quiet : shows w its_way ≡ false → IsInvisible w its_way
  pub loud : shows w its_way ≡ true → IsInvisible w its_way → ⊥

pub shown_ways : (w : Wiring) (its_way : Way) → Stands w its_way → IsWayOf w.nets its_way → Tells w its_way
shown_ways w (way.Pull net) stands there =
    let n = get_or w.nets net nowhere in
    let counted = stands.counted n (among_at w.nets net nowhere there) in
    let after = λ (f : Driven). sees (together (pulled (turned n.pull)) f) in
    record {
      quiet = one-quiet w net (turned_net n) refl there stands.counted stands.found stands.faulty stands.once after (λ drives. sees_net drives (turned_net n) counted);
      loud = one-loud w net (turned_net n) refl there stands.counted stands.found stands.faulty stands.once after (λ drives. sees_net drives (turned_net n) counted);
    }
shown_ways w (way.Stuck net bit) stands there =
    let n = get_or w.nets net nowhere in
    record {
      quiet = one-quiet w net (tied bit n) refl there stands.counted stands.found stands.faulty stands.once (λ f. bit) (λ drives. tied_reads bit);
      loud = one-loud w net (tied bit n) refl there stands.counted stands.found stands.faulty stands.once (λ f. bit) (λ drives. tied_reads bit);
    }
shown_ways w (way.Open net pin bit) stands its =
    let there : net < length w.nets = slice_get_within w.nets net its.0 its.1 in
    let is : get_or w.nets net nowhere ≡ its.0 = get_or_from_slice_get w.nets net its.0 nowhere its.1 in
    let inside : pin < length (get_or w.nets net nowhere).pins = subst (λ (n : Net). pin < length n.pins) (sym is) its.2 in
    let two = open-two w net pin bit stands there inside in
    record { quiet = two-quiet w _ _ _ _ _ _ _ two; loud = two-loud w _ _ _ _ _ _ _ two }
shown_ways w (way.Short first second winner) stands its =
    let two = short-two w first second winner stands its.0 its.1 in
    record { quiet = two-quiet w _ _ _ _ _ _ _ two; loud = two-loud w _ _ _ _ _ _ _ two }
