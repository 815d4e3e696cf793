-- Strings put one after another, each behind those that its source's net depends on, make the core bits in force.
use Rattle.std.specs.List.{AllByRecursion}
use Rattle.pin_nets.specs.declared.Pin.{Pin}
use Rattle.std.specs.Prelude.{None}
use Rattle.bsdl_device.specs.Driving.{drives}
use Rattle.bsdl_device.specs.declared.Cell.{Cell}
use Rattle.boundary.specs.Cells.{driver_from, is_port}
use Rattle.std.proofs.lemmas.Bool.{cases_Bool, cases_lt, and_parts, eqb-true}
use Rattle.std.proofs.Common.{ap₂, true, false, Bool, ◌&&◌, if◌then◌else◌, ◌≡◌, ◌<◌, ◌≤◌, ◌+◌, arith, inl, inr, ℕ, zero, suc, List, [], ◌∷◌, length, slice_get, set, refl, sym, ap, ◌∙◌, subst, Option, Some, unwrap_or, length-set}
use Rattle.std.proofs.lemmas.Bool.{eq-eqb}
use Rattle.jt_bits.specs.Words.{bit_of}
use Rattle.pin_nets.specs.Levels.{reads}
use Rattle.pin_nets.specs.Wired.{Net}
use Rattle.pin_nets.specs.declared.Follow.{Follow}
use Rattle.board_model.specs.Cells.{Member}
use Rattle.board_model.specs.Nets.{core_at, given_by, level_under, net_of, sees_under}
use Rattle.board_model.specs.Following.{AreFound, FollowsNoOtherControl, IsOfBoard, RisingTargetsAreInOrder, IsAmong, takes_from, StringsHoldFrom, Placed, with_core_bit, after_string, after_strings, IsFreeOf, IsInOrder, IsHeld, AreHeld, StringsInOrderMakeTheBitsInForce, RisingStringsAreInOrder}
use Rattle.board_model.proofs.Following.{own-net, takes-driver, at-place, AreOf, level-same, only_in_force}

bit-set : (core : List Bool) (c : ℕ) (b : Bool) → c < length core → bit_of (set core c b) c ≡ b
bit-set [] c b low = absurd (omega (arith, low))
bit-set (x ∷ core) zero b low = refl
bit-set (x ∷ core) (suc c) b low = bit-set core c b (omega (arith, low))

pub bit-kept : (core : List Bool) (c j : ℕ) (b : Bool) → (j ≡ c → ⊥) → bit_of (set core c b) j ≡ bit_of core j
bit-kept [] c j b other = refl
bit-kept (x ∷ core) zero zero b other = absurd (other refl)
bit-kept (x ∷ core) zero (suc j) b other = refl
bit-kept (x ∷ core) (suc c) zero b other = refl
bit-kept (x ∷ core) (suc c) (suc j) b other = bit-kept core c j b (λ e. other (ap (λ n. suc n) e))

-- the bit that was set, and another one
put-bit : (ms held : List Member) (d c : ℕ) (b : Bool) (m : Member) → AreHeld ms held → slice_get ms d ≡ Some m → c < length m.core
    → bit_of (core_at (with_core_bit d c b held) d) c ≡ b
put-bit [] held d c b m are stands low = absurd (cc)
put-bit (a ∷ ms) [] d c b m are stands low = absurd are
put-bit (a ∷ ms) (h ∷ held) zero c b m are stands low =
    let e : length m.core ≡ length a.core = sym (ap (λ (o : Option Member). length (unwrap_or o a).core) stands) in
    bit-set h.core c b (omega (arith, low, e, are.0.long))
put-bit (a ∷ ms) (h ∷ held) (suc d) c b m are stands low = put-bit ms held d c b m are.1 stands low

other-bit : (held : List Member) (d c i j : ℕ) (b : Bool) → (i ≡ d → j ≡ c → ⊥)
    → bit_of (core_at (with_core_bit d c b held) i) j ≡ bit_of (core_at held i) j
other-bit [] d c i j b other = refl
other-bit (h ∷ held) zero c zero j b other = bit-kept h.core c j b (other refl)
other-bit (h ∷ held) zero c (suc i) j b other = refl
other-bit (h ∷ held) (suc d) c zero j b other = refl
other-bit (h ∷ held) (suc d) c (suc i) j b other = other-bit held d c i j b (λ e. other (ap (λ n. suc n) e))

-- what is held stays so
held-string : (m h : Member) (f : Follow) (b : Bool) → IsAmong f m.follows → IsHeld m h → IsHeld m (record h { core = set h.core f.cell b })
held-string m h f b among is = record {
  same = ap (λ (n : Member). record n { core = set h.core f.cell b }) is.same;
  long = length-set h.core f.cell b ∙ is.long;
  constant = λ bit none. bit-kept h.core f.cell bit b (λ e. none f among (sym e)) ∙ is.constant bit none;
}

held-put : (ms held : List Member) (d : ℕ) (m : Member) (f : Follow) (b : Bool) → AreHeld ms held → slice_get ms d ≡ Some m → IsAmong f m.follows
    → AreHeld ms (with_core_bit d f.cell b held)
held-put [] held d m f b are stands among = absurd (cc)
held-put (a ∷ ms) [] d m f b are stands among = absurd are
held-put (a ∷ ms) (h ∷ held) zero m f b are stands among =
    let e : m ≡ a = sym (ap (λ (o : Option Member). unwrap_or o a) stands) in
    (held-string a h f b (subst (λ (n : Member). IsAmong f n.follows) e among) are.0, are.1)
held-put (a ∷ ms) (h ∷ held) (suc d) m f b are stands among = (are.0, held-put ms held d m f b are.1 stands among)

held-after : (nets : List Net) (ms : List Member) (ss : List Placed) (held : List Member) → IsInOrder nets ms ss → AreHeld ms held → AreHeld ms (after_strings nets ss held)
held-after nets ms [] held ordered are = are
held-after nets ms (s ∷ ss) held ordered are =
    held-after nets ms ss (after_string nets s held) ordered.3 (held-put ms held s.device ordered.0.member s.string _ are ordered.0.stands ordered.0.follows)

AreOf-held : (ms held : List Member) → AreHeld ms held → AreOf ms held
AreOf-held [] [] are = tt
AreOf-held [] (h ∷ held) are = absurd are
AreOf-held (m ∷ ms) [] are = absurd are
AreOf-held (m ∷ ms) (h ∷ held) are =
    (record { same = are.0.same; constant = λ j none. are.0.constant j (λ f among e. none f among (eq-eqb f.cell j e)) }, AreOf-held ms held are.1)

-- A net whose pins do not take a string's bit keeps its level.
level-put : (nets : List Net) (ms held : List Member) (s : Placed) (net : Net) → AreHeld ms held → AreHeld ms (after_string nets s held) → IsFreeOf ms net s
    → level_under (after_string nets s held) net ≡ level_under held net
level-put nets ms held s net are after free =
    level-same ms (after_string nets s held) held net (AreOf-held ms (after_string nets s held) after) (AreOf-held ms held are)
    (λ pin on m stands j takes. other-bit held s.device s.string.cell pin.device j _
    (λ here same. free pin on here m stands (subst (λ (c : ℕ). takes_from pin.port c 0 m.device.cells ≡ true) same takes)))

level-after : (nets : List Net) (ms : List Member) (ss : List Placed) (held : List Member) (net : Net) → IsInOrder nets ms ss → AreHeld ms held
    → ((t : Placed) → IsAmong t ss → IsFreeOf ms net t) → level_under (after_strings nets ss held) net ≡ level_under held net
level-after nets ms [] held net ordered are free = refl
level-after nets ms (s ∷ ss) held net ordered are free =
    let after = held-put ms held s.device ordered.0.member s.string _ are ordered.0.stands ordered.0.follows in
    level-after nets ms ss (after_string nets s held) net ordered.3 after (λ t among. free t (inr among))
    ∙ level-put nets ms held s net are after (free s (inl refl))

bit-after : (nets : List Net) (ss : List Placed) (held : List Member) (d c : ℕ) → ((t : Placed) → IsAmong t ss → t.device ≡ d → t.string.cell ≡ c → ⊥)
    → bit_of (core_at (after_strings nets ss held) d) c ≡ bit_of (core_at held d) c
bit-after nets [] held d c other = refl
bit-after nets (s ∷ ss) held d c other =
    bit-after nets ss (after_string nets s held) d c (λ t among. other t (inr among))
    ∙ other-bit held s.device s.string.cell d c _ (λ here same. other s (inl refl) (sym here) (sym same))

-- Each string in order holds in the end.
string-after : (nets : List Net) (ms : List Member) (ss : List Placed) (held : List Member) → IsInOrder nets ms ss → AreHeld ms held → (t : Placed) → IsAmong t ss
    → bit_of (core_at (after_strings nets ss held) t.device) t.string.cell
    ≡ given_by t.string (sees_under nets (after_strings nets ss held) t.device t.string.source)
string-after nets ms [] held ordered are t among = absurd among
string-after nets ms (s ∷ ss) held ordered are t (inl e) =
    let net = net_of nets s.device s.string.source in
    let stays = level-after nets ms (s ∷ ss) held net ordered are ordered.1 in
    subst (λ (r : Placed). bit_of (core_at (after_strings nets (s ∷ ss) held) r.device) r.string.cell
    ≡ given_by r.string (sees_under nets (after_strings nets (s ∷ ss) held) r.device r.string.source)) e
    (bit-after nets ss (after_string nets s held) s.device s.string.cell ordered.2
    ∙ put-bit ms held s.device s.string.cell (given_by s.string (sees_under nets held s.device s.string.source)) ordered.0.member are ordered.0.stands ordered.0.there
    ∙ ap (λ l. given_by s.string (reads l)) (sym stays))
string-after nets ms (s ∷ ss) held ordered are t (inr among) =
    string-after nets ms ss (after_string nets s held) ordered.3
    (held-put ms held s.device ordered.0.member s.string _ are ordered.0.stands ordered.0.follows) t among

all-strings-hold : (sight : ℕ → ℕ → Bool) (k : ℕ) (ms held : List Member) → AreHeld ms held
    → ((i : ℕ) (m : Member) (f : Follow) → slice_get ms i ≡ Some m → IsAmong f m.follows → (d : ℕ) → d ≡ k + i → bit_of (core_at held i) f.cell ≡ given_by f (sight d f.source))
    → StringsHoldFrom sight k ms held
all-strings-hold sight k [] [] are each = tt
all-strings-hold sight k [] (h ∷ held) are each = absurd are
all-strings-hold sight k (m ∷ ms) [] are each = absurd are
all-strings-hold sight k (m ∷ ms) (h ∷ held) are each = (
  record {
    same = are.0.same;
    long = are.0.long;
    followed = λ f among. each 0 m f refl among k (omega arith);
    constant = are.0.constant;
  },
  all-strings-hold sight (suc k) ms held are.1 (λ i n f stands among d at. each (suc i) n f stands among d (omega arith)),
)

pub strings_in_order : StringsInOrderMakeTheBitsInForce
strings_in_order nets ms held order free are ordered all =
    let end = after_strings nets order held in
    only_in_force nets ms end free
    (all-strings-hold (sees_under nets end) 0 ms end (held-after nets ms order held ordered are) (λ i m f stands among d at.
    let here : i ≡ d = omega arith in
    let holds = string-after nets ms order held ordered are (record { device = i; string = f }) (all i m f stands among) in
    subst (λ (n : ℕ). bit_of (core_at end i) f.cell ≡ given_by f (sees_under nets end n f.source)) here holds))

pub rising_strings : RisingStringsAreInOrder
rising_strings nets ms number key [] numbered rising separate = tt
rising_strings nets ms number key (s ∷ ss) numbered rising separate =
    let up : (t : Placed) → IsAmong t (s ∷ ss) → key s ≤ key t = λ t among. elim among [
      | inl e ↦ omega (arith, ap key e)
      | inr later ↦ rising.0 t later
    ] in (
      numbered.of_board s (inl refl),
      (λ t among pin on here m stands takes.
          let high = numbered.below t among s.device s.string.source (λ free. free pin on here m stands takes) in
          absurd (omega (arith, high, numbered.above s (inl refl), up t among))),
      separate.0,
      rising_strings nets ms number key ss (record {
        of_board = λ t among. numbered.of_board t (inr among);
        above = λ t among. numbered.above t (inr among);
        below = λ t among. numbered.below t (inr among);
      }) rising.1 separate.1,
    )

-- a cell drives one port bit
driver-from : (p j k : ℕ) (cs : List Cell) → driver_from p k cs ≡ Some j → k ≤ j
driver-from p j k [] e = absurd (cc)
driver-from p j k (c ∷ cs) e =
    elim (cases_Bool (drives c.function && is_port p c.port)) [
      | inl hit ↦
          let one : Some k ≡ Some j = sym (ap (λ (x : Bool). if x then Some k else driver_from p (suc k) cs) hit) ∙ e in
          omega (arith, ap (λ (o : Option ℕ). unwrap_or o k) one)
      | inr miss ↦
          omega (arith, driver-from p j (suc k) cs (sym (ap (λ (x : Bool). if x then Some k else driver_from p (suc k) cs) miss) ∙ e))
    ]

one-port : (p q : ℕ) (port : Option ℕ) → is_port p port ≡ true → is_port q port ≡ true → p ≡ q
one-port p q None here there = absurd (cc)
one-port p q (Some r) here there = eqb-true p r here ∙ sym (eqb-true q r there)

same-driver : (p q j k : ℕ) (cs : List Cell) → driver_from p k cs ≡ Some j → driver_from q k cs ≡ Some j → p ≡ q
same-driver p q j k [] e f = absurd (cc)
same-driver p q j k (c ∷ cs) e f =
    let later : (r : ℕ) → (drives c.function && is_port r c.port) ≡ false → driver_from r k (c ∷ cs) ≡ Some j → driver_from r (suc k) cs ≡ Some j =
    λ r miss g. sym (ap (λ (x : Bool). if x then Some k else driver_from r (suc k) cs) miss) ∙ g in
    let now : (r : ℕ) → (drives c.function && is_port r c.port) ≡ true → driver_from r k (c ∷ cs) ≡ Some j → k ≡ j =
    λ r hit g. (let one : Some k ≡ Some j = sym (ap (λ (x : Bool). if x then Some k else driver_from r (suc k) cs) hit) ∙ g in
    ap (λ (o : Option ℕ). unwrap_or o k) one) in
    elim (cases_Bool (drives c.function && is_port p c.port)) [
      | inl hp ↦ elim (cases_Bool (drives c.function && is_port q c.port)) [
        | inl hq ↦ one-port p q c.port (and_parts (drives c.function) (is_port p c.port) hp).1 (and_parts (drives c.function) (is_port q c.port) hq).1
        | inr mq ↦ absurd (omega (arith, now p hp e, driver-from q j (suc k) cs (later q mq f)))
      ]
      | inr mp ↦ elim (cases_Bool (drives c.function && is_port q c.port)) [
        | inl hq ↦ absurd (omega (arith, now q hq f, driver-from p j (suc k) cs (later p mp e)))
        | inr mq ↦ same-driver p q j (suc k) cs (later p mp e) (later q mq f)
      ]
    ]

target-net : (nets : List Net) (ms : List Member) → AreFound nets → AllByRecursion (λ m. FollowsNoOtherControl m) ms
    → (s : Placed) → IsOfBoard ms s → (target : ℕ) → ((m : Member) → slice_get ms s.device ≡ Some m → driver_from target 0 m.device.cells ≡ Some s.string.cell)
    → (a b : ℕ) (pin : Pin) → IsAmong pin (net_of nets a b).pins → pin.device ≡ s.device → (m : Member) → slice_get ms pin.device ≡ Some m
    → takes_from pin.port s.string.cell 0 m.device.cells ≡ true → net_of nets a b ≡ net_of nets s.device target
target-net nets ms found none s is target drives a b pin on here m stands takes =
    let there : slice_get ms s.device ≡ Some m = subst (λ (d : ℕ). slice_get ms d ≡ Some m) here stands in
    let same : is.member ≡ m = ap (λ (o : Option Member). unwrap_or o m) (sym is.stands ∙ there) in
    let follows = subst (λ (n : Member). IsAmong s.string n.follows) same is.follows in
    let mine = takes-driver pin.port s.string.cell 0 m.device.cells
    (λ i c at control. let own = at-place ms s.device m (λ n. FollowsNoOtherControl n) none there s.string follows i c at control in omega (arith, own)) takes in
    own-net nets found (net_of nets a b) (a, b, refl) pin on
    ∙ ap₂ (λ d p. net_of nets d p) here (same-driver pin.port target s.string.cell 0 m.device.cells mine (drives m there))

pub rising_targets : RisingTargetsAreInOrder
rising_targets nets ms number target order found none numbered rising separate =
    rising_strings nets ms number (λ s. number (net_of nets s.device (target s))) order (record {
      of_board = numbered.of_board;
      above = numbered.lowers;
      below = λ s among a b taken. elim (cases_lt (number (net_of nets a b)) (number (net_of nets s.device (target s)))) [
        | inl low ↦ absurd (taken (λ pin on here m stands takes.
            let same = ap number (target-net nets ms found none s (numbered.of_board s among) (target s) (numbered.drives s among) a b pin on here m stands takes) in
            omega (arith, low, same)))
        | inr high ↦ high
      ];
    }) rising separate
