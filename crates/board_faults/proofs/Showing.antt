-- What is seen with a fault and without, by what its nets' pins drive together.
use Rattle.std.proofs.Common.{◌≡◌, Bool, true, false, not, ◌&&◌, ◌||◌, List, [], ◌∷◌, ◌++◌, length, map, take, slice_get, Option, Some, if◌then◌else◌, refl, sym, ap, ap₂, subst, ◌∙◌, ◌⊎◌, inl, inr}
use Rattle.std.specs.List.{list_any}
use Rattle.std.proofs.lemmas.Bool.{false≢true}
use Rattle.std.proofs.lemmas.List.{map-append}
use Rattle.pin_nets.specs.declared.Drive.{Drive}
use Rattle.pin_nets.specs.declared.Level.{Level}
use Rattle.pin_nets.specs.declared.Level.TheVariants.{One}
use Rattle.pin_nets.specs.declared.Pin.{Pin}
use Rattle.pin_nets.specs.declared.Pull.{Pull}
use Rattle.pin_nets.specs.declared.Rule.{Rule}
use Rattle.pin_nets.specs.declared.Rule.TheVariants.{Counted}
use Rattle.pin_nets.specs.Levels.{counts_of, is_opposed, led_by, level_of, pull_drive, reads, shown}
use Rattle.pin_nets.specs.Wired.{Net}
use Rattle.board_model.specs.Following.{AreFound, IsAmong}
use Rattle.board_model.specs.Nets.{net_of}
use Rattle.board_plan.specs.Planned.{Member}
use Rattle.board_faults.specs.declared.kinds.Winner.{Winner}
use Rattle.board_faults.specs.declared.kinds.Winner.TheVariants.{Zeros, Ones, First, Second}
use Rattle.board_faults.specs.declared.together.Driven.{Driven}
use Rattle.board_faults.specs.Faults.{bridged, joined}
use Rattle.board_faults.specs.Sight.{is_read, level_with}
use Rattle.board_faults.specs.Together.{all_driven, any_read, bridge_sees, driven, pulled, sees, sight_at, sight_of_pin, some_pair, some_single, together, unlike}
use Rattle.board_faults.proofs.Driving.{among_any, among_eight, counted_sees, driven_both, driven_pulled, led_sees, none_of, opposed_is, together_turned}
use Rattle.board_faults.proofs.Wires.{IsOn, IsOnNone, its_net, where_is}

-- ---- what is seen of a net

pub sees_net : (drives : Pin → Drive) (n : Net) → n.rule ≡ Counted
    → reads (level_with drives n) ≡ sees (together (pulled n.pull) (driven (map drives n.pins)))
sees_net drives n rule =
    ap (λ (r : Rule). reads (shown r (pull_drive n.pull) (map drives n.pins))) rule
    ∙ counted_sees (pull_drive n.pull ∷ map drives n.pins) ∙ ap sees (driven_pulled n.pull (map drives n.pins))

-- two groups of pins on one net
both-driven : (drives : Pin → Drive) (pull : Pull) (ps qs : List Pin)
    → driven (pull_drive pull ∷ map drives (ps ++ qs)) ≡ together (pulled pull) (together (driven (map drives ps)) (driven (map drives qs)))
both-driven drives pull ps qs =
    driven_pulled pull (map drives (ps ++ qs))
    ∙ ap (together (pulled pull)) (ap driven (map-append drives ps qs) ∙ driven_both (map drives ps) (map drives qs))

guarded : (x : Driven) → sees x ≡ (if x.zero && x.one then false else sees x)
guarded x = by x.zero x.one refl refl
  where
    by : (z o : Bool) → x.zero ≡ z → x.one ≡ o → sees x ≡ (if x.zero && x.one then false else sees x)
    by true true p q = ap (λ (b : Bool). not b && (x.one || not x.weak)) p ∙ sym (ap₂ (λ (a b : Bool). if a && b then false else sees x) p q)
    by true false p q = sym (ap₂ (λ (a b : Bool). if a && b then false else sees x) p q)
    by false o p q = sym (ap (λ (a : Bool). if a && x.one then false else sees x) p)

read-if : (b : Bool) (l k : Level) → reads (if b then l else k) ≡ (if b then reads l else reads k)
read-if true l k = refl
read-if false l k = refl

take-first : (drives : Pin → Drive) (ps qs : List Pin) → take (length ps) (map drives (ps ++ qs)) ≡ map drives ps
take-first drives [] qs = refl
take-first drives (p ∷ ps) qs = ap (λ (l : List Drive). drives p ∷ l) (take-first drives ps qs)

-- where strong drivers are opposed this, else what they say
either-sees : (drives : Pin → Drive) (pull : Pull) (ps qs : List Pin) (l : Level) (b : Bool) → reads l ≡ b
    → reads (if is_opposed (counts_of (pull_drive pull ∷ map drives (ps ++ qs))) then l else level_of (pull_drive pull ∷ map drives (ps ++ qs)))
    ≡ (let all = together (pulled pull) (together (driven (map drives ps)) (driven (map drives qs))) in if all.zero && all.one then b else sees all)
either-sees drives pull ps qs l b is =
    let ds = pull_drive pull ∷ map drives (ps ++ qs) in
    read-if (is_opposed (counts_of ds)) l (level_of ds)
    ∙ (λ i. if opposed_is ds i then is i else counted_sees ds i)
    ∙ ap (λ (x : Driven). if x.zero && x.one then b else sees x) (both-driven drives pull ps qs)

pub sees_bridge : (drives : Pin → Drive) (winner : Winner) (a b : Net)
    → reads (level_with drives (bridged winner a b))
    ≡ bridge_sees winner (joined a.pull b.pull) (driven (map drives a.pins)) (driven (map drives b.pins))
sees_bridge drives Zeros a b =
    let pull = joined a.pull b.pull in
    counted_sees (pull_drive pull ∷ map drives (a.pins ++ b.pins)) ∙ ap sees (both-driven drives pull a.pins b.pins)
    ∙ guarded (together (pulled pull) (together (driven (map drives a.pins)) (driven (map drives b.pins))))
sees_bridge drives Ones a b = either-sees drives (joined a.pull b.pull) a.pins b.pins One true refl
sees_bridge drives First a b =
    either-sees drives (joined a.pull b.pull) a.pins b.pins (led_by (take (length a.pins) (map drives (a.pins ++ b.pins)))) _
    (ap (λ (l : List Drive). reads (led_by l)) (take-first drives a.pins b.pins) ∙ led_sees (map drives a.pins))
sees_bridge drives Second a b =
    let f = driven (map drives a.pins) in
    let g = driven (map drives b.pins) in
    either-sees drives (joined a.pull b.pull) b.pins a.pins (led_by (take (length b.pins) (map drives (b.pins ++ a.pins)))) _
    (ap (λ (l : List Drive). reads (led_by l)) (take-first drives b.pins a.pins) ∙ led_sees (map drives b.pins))
    ∙ ap (λ (x : Driven). let all = together (pulled (joined a.pull b.pull)) x in if all.zero && all.one then g.one && not g.zero else sees all) (together_turned g f)

-- ---- the same net, or one that is touched

pub same_or_touched : (Touched : Net → Type 0) (nets faulty : List Net) → AreFound nets → AreFound faulty → (pin : Pin)
    → ((x : Net) → IsAmong x nets → Touched x ⊎ IsAmong x faulty)
    → ((y : Net) → IsAmong y faulty → IsAmong pin y.pins → (x : Net) × IsAmong x nets × IsAmong pin x.pins)
    → (net_of nets pin.device pin.port ≡ net_of faulty pin.device pin.port) ⊎ ((x : Net) × Touched x × IsAmong pin x.pins)
same_or_touched Touched nets faulty found found' pin kept back = by (where_is nets found pin) (where_is faulty found' pin)
  where
    by : IsOn nets pin ⊎ IsOnNone nets pin → IsOn faulty pin ⊎ IsOnNone faulty pin
        → (net_of nets pin.device pin.port ≡ net_of faulty pin.device pin.port) ⊎ ((x : Net) × Touched x × IsAmong pin x.pins)
    by (inl on) other = of (kept on.net on.among)
      where
        of : Touched on.net ⊎ IsAmong on.net faulty
            → (net_of nets pin.device pin.port ≡ net_of faulty pin.device pin.port) ⊎ ((x : Net) × Touched x × IsAmong pin x.pins)
        of (inl t) = inr (on.net, t, on.on)
        of (inr among) = inl (on.is ∙ sym (its_net faulty found' on.net among pin on.on))
    by (inr none) (inl on) =
        let b = back on.net on.among on.on in
        absurd (none.none b.0 b.1 b.2)
    by (inr none) (inr none') = inl (none.is ∙ sym none'.is)

-- ---- what is not seen otherwise

pub like : (a b : Bool) → unlike a b ≡ false → a ≡ b
like true true e = refl
like true false e = absurd (false≢true (sym e))
like false true e = absurd (false≢true (sym e))
like false false e = refl

pub alike : (a b : Bool) → a ≡ b → unlike a b ≡ false
alike a b e = ap (λ (x : Bool). unlike x b) e ∙ same b
  where
    same : (b : Bool) → unlike b b ≡ false
    same true = refl
    same false = refl

and-false : (a b : Bool) → (a && b) ≡ false → a ≡ true → b ≡ false
and-false true b e p = e
and-false false b e p = absurd (false≢true p)

or-false : (a b : Bool) → (a || b) ≡ false → (a ≡ false) × (b ≡ false)
or-false true b e = absurd (false≢true (sym e))
or-false false b e = (refl, e)

pub quiet_single : (can test : Driven → Bool) (f : Driven) → some_single can test ≡ false → can f ≡ true → test f ≡ false
quiet_single can test f none is = and-false (can f) (test f) (none_of (λ g. can g && test g) f all_driven none (among_eight f)) is

pub quiet_pair : (can can' : Driven → Bool) (test : Driven → Driven → Bool) (f g : Driven) → some_pair can can' test ≡ false
    → can f ≡ true → can' g ≡ true → test f g ≡ false
quiet_pair can can' test f g none is is' =
    quiet_single can' (test f) g (quiet_single can (λ x. list_any (λ y. can' y && test x y) all_driven) f none is) is'

pub quiet_and : (a b : Bool) → (a && b) ≡ false → a ≡ true → b ≡ false
quiet_and = and-false

pub quiet_or : (a b : Bool) → (a || b) ≡ false → (a ≡ false) × (b ≡ false)
quiet_or = or-false

-- a pin that is read is one of those
pub pin_read : (ms : List Member) (pin : Pin) (m : Member) → slice_get ms pin.device ≡ Some m → is_read m pin.port ≡ true
    → (sight_of_pin ms pin).read ≡ true
pin_read ms pin m at read =
    subst (λ (o : Option Member). (sight_at pin.port o).read ≡ true) (sym at) read

pub any_is_read : (ms : List Member) (pin : Pin) (pins : List Pin) → IsAmong pin pins → (sight_of_pin ms pin).read ≡ true
    → any_read ms pins ≡ true
any_is_read ms pin pins among read = among_any (λ p. (sight_of_pin ms p).read) pin pins among read
