-- Where no net depends on itself, rounds settle, and on one assignment only: each step back along a string leaves one
-- string fewer.
use Rattle.std.specs.Prelude.{⊤}
use Rattle.std.proofs.Common.{◌≡◌, ◌<◌, ◌≤◌, ◌+◌, arith, Bool, true, false, ◌&&◌, ◌||◌, ◌⊎◌, inl, inr, ℕ, zero, suc, ◌==◌, List, [], ◌∷◌, ◌++◌, map, length, slice_get, refl, sym, ap, ap₂, ◌∙◌, subst, Option, Some, None, unwrap_or, option_map, suc-ne-zero, find, length-append, if◌then◌else◌}
use Rattle.std.specs.List.{AllByRecursion}
use Rattle.std.proofs.lemmas.Bool.{eqb-true, eq-eqb, both_ways, cases_Bool, and_from, and_parts}
use Rattle.jt_bits.specs.Words.{bit_of}
use Rattle.bsdl_device.specs.Driving.{drives}
use Rattle.bsdl_device.specs.declared.Cell.{Cell}
use Rattle.bsdl_device.specs.declared.Control3.{Control3}
use Rattle.chip_instructions.specs.declared.Mode.{Mode}
use Rattle.chip_instructions.specs.declared.Mode.TheVariants as mode
use Rattle.boundary.specs.Cells.{driver_from, is_port, same_bit, left_by, cell_drive, drive_from, drive_in}
use Rattle.pin_nets.specs.declared.Drive.{Drive}
use Rattle.pin_nets.specs.declared.Drive.TheVariants.{Strong, Nothing}
use Rattle.pin_nets.specs.declared.Pin.{Pin}
use Rattle.pin_nets.specs.Levels.{pull_drive, reads, shown}
use Rattle.pin_nets.specs.Wired.{Net, has_port_bit, joins}
use Rattle.chip_instructions.specs.Instruction.{meaning}
use Rattle.pin_nets.specs.declared.Follow.{Follow}
use Rattle.board_model.specs.Cells.{Member, drive}
use Rattle.board_model.specs.Nets.{pin_drive, level_under, lone_net, net_of, sees_under, given_by, followed_bit, followed, with_followed, with_followed_all, one_round, rounds, strings, in_force, core_at, told_under}
use Rattle.board_model.specs.Following.{Placed, IsAmong, is_control, takes_from, DependsOn, DependsIn, HasNoCircle, StringsHold, StringsHoldFrom, EveryStringHoldsInForce, HasOneEach, AreFit, ConstantsInForce, OneRoundMoreChangesNothing, OnlyInForce, LoweredNumbersShowNoLoop, LoweringStringsAreOnNoCircle, InSteps, StringBetween, FollowsNoOtherControl, AreFound, NoLoopIsNoCircle, NoCircleIsNoLoop}

-- 1. A pin drives the same where the core bits that it takes are the same.
own-taken : (k : ℕ) (b : Bool) → ((k == k) || b) ≡ true
own-taken k b = ap (λ (x : Bool). x || b) (eq-eqb k k refl)

pub right-taken : (a b : Bool) → b ≡ true → (a || b) ≡ true
right-taken true b e = refl
right-taken false b e = e

cell-same : (bits others : List Bool) (k : ℕ) (control : Option Control3)
    → ((j : ℕ) → ((k == j) || is_control j control) ≡ true → bit_of bits j ≡ bit_of others j)
    → cell_drive bits k control ≡ cell_drive others k control
cell-same bits others k None same = ap (λ b. Strong b) (same k (own-taken k false))
cell-same bits others k (Some t) same =
    ap₂ (λ a b. if same_bit a t.disabling then left_by t.leaves else Strong b)
    (same t.cell (right-taken (k == t.cell) (t.cell == t.cell) (eq-eqb t.cell t.cell refl)))
    (same k (own-taken k (is_control k (Some t))))

either-same : (b : Bool) (here after : ℕ → Bool) (bits others : List Bool) (d e d2 e2 : Drive)
    → (((j : ℕ) → here j ≡ true → bit_of bits j ≡ bit_of others j) → d ≡ d2)
    → (((j : ℕ) → after j ≡ true → bit_of bits j ≡ bit_of others j) → e ≡ e2)
    → ((j : ℕ) → (if b then here j else after j) ≡ true → bit_of bits j ≡ bit_of others j)
    → (if b then d else e) ≡ (if b then d2 else e2)
either-same true here after bits others d e d2 e2 one two same = one same
either-same false here after bits others d e d2 e2 one two same = two same

from-same : (bits others : List Bool) (p k : ℕ) (cs : List Cell)
    → ((j : ℕ) → takes_from p j k cs ≡ true → bit_of bits j ≡ bit_of others j)
    → drive_from bits p k cs ≡ drive_from others p k cs
from-same bits others p k [] same = refl
from-same bits others p k (c ∷ cs) same =
    either-same (drives c.function && is_port p c.port) (λ j. (k == j) || is_control j c.control) (λ j. takes_from p j (suc k) cs)
    bits others (cell_drive bits k c.control) (drive_from bits p (suc k) cs) (cell_drive others k c.control) (drive_from others p (suc k) cs)
    (cell-same bits others k c.control) (from-same bits others p (suc k) cs) same

pub drive-same : (m : Mode) (cells : List Cell) (update bits others : List Bool) (p : ℕ)
    → ((j : ℕ) → takes_from p j 0 cells ≡ true → bit_of bits j ≡ bit_of others j)
    → drive_in m cells update bits p ≡ drive_in m cells update others p
drive-same mode.HighZ cells update bits others p same = refl
drive-same mode.Extest cells update bits others p same = refl
drive-same mode.Clamp cells update bits others p same = refl
drive-same _ cells update bits others p same = from-same bits others p 0 cells same

-- 2. What is held: the members with other cores, each bit that no string is for its constant.
pub record IsOf (m h : Member) : Type 0 where
  pub same : h ≡ record m { core = h.core }
  pub constant : (j : ℕ) → ((f : Follow) → IsAmong f m.follows → (f.cell == j) ≡ true → ⊥) → bit_of h.core j ≡ bit_of m.core j

abbrev pub AreOf : (ms hs : List Member) → Type 0
AreOf [] [] = ⊤
AreOf (m ∷ ms) (h ∷ hs) = IsOf m h × AreOf ms hs
AreOf _ _ = ⊥

pub AreOf-itself : (ms : List Member) → AreOf ms ms
AreOf-itself [] = tt
AreOf-itself (m ∷ ms) = (record { same = refl; constant = λ j none. refl }, AreOf-itself ms)

bit-constant : (sight : ℕ → Bool) (fs : List Follow) (k : ℕ) (b : Bool) → ((f : Follow) → IsAmong f fs → (f.cell == k) ≡ true → ⊥)
    → followed_bit sight fs k b ≡ b
bit-constant sight [] k b none = refl
bit-constant sight (f ∷ fs) k b none =
    elim (cases_Bool (f.cell == k)) [
      | inl hit ↦ absurd (none f (inl refl) hit)
      | inr miss ↦ ap (λ (x : Bool). if x then given_by f (sight f.source) else followed_bit sight fs k b) miss
          ∙ bit-constant sight fs k b (λ g among. none g (inr among))
    ]

pub core-constant : (sight : ℕ → Bool) (fs : List Follow) (k : ℕ) (core : List Bool) (i j : ℕ) → j ≡ k + i
    → ((f : Follow) → IsAmong f fs → (f.cell == j) ≡ true → ⊥) → bit_of (followed sight fs k core) i ≡ bit_of core i
core-constant sight fs k [] i j at none = refl
core-constant sight fs k (b ∷ core) zero j at none =
    bit-constant sight fs k b (subst (λ (n : ℕ). (f : Follow) → IsAmong f fs → (f.cell == n) ≡ true → ⊥) (omega arith) none)
core-constant sight fs k (b ∷ core) (suc i) j at none = core-constant sight fs (suc k) core i j (omega arith) none

AreOf-followed : (sight : ℕ → ℕ → Bool) (k : ℕ) (ms : List Member) → AreOf ms (with_followed_all sight k ms)
AreOf-followed sight k [] = tt
AreOf-followed sight k (m ∷ ms) = (
  record { same = refl; constant = λ j none. core-constant (sight k) m.follows 0 m.core j j (omega arith) none },
  AreOf-followed sight (suc k) ms,
)

AreOf-round : (nets : List Net) (ms : List Member) (n : ℕ) (x : List Member) → AreOf ms x → AreOf ms (rounds n nets ms x)
AreOf-round nets ms zero x are = are
AreOf-round nets ms (suc n) x are = AreOf-followed (sees_under nets (rounds n nets ms x)) 0 ms

held-constant : (ms hs : List Member) (i : ℕ) (m : Member) (j : ℕ) → AreOf ms hs → slice_get ms i ≡ Some m
    → ((f : Follow) → IsAmong f m.follows → (f.cell == j) ≡ true → ⊥) → bit_of (core_at hs i) j ≡ bit_of m.core j
held-constant [] hs i m j are at none = absurd (cc)
held-constant (a ∷ ms) [] i m j are at none = absurd are
held-constant (a ∷ ms) (h ∷ hs) zero m j are at none =
    let e : a ≡ m = ap (λ (o : Option Member). unwrap_or o a) at in
    subst (λ (n : Member). ((f : Follow) → IsAmong f n.follows → (f.cell == j) ≡ true → ⊥) → bit_of h.core j ≡ bit_of n.core j) e (are.0.constant j) none
held-constant (a ∷ ms) (h ∷ hs) (suc i) m j are at none = held-constant ms hs i m j are.1 at none

-- 3. Where the sources of the strings for a bit see the same, a round gives the bit the same.
bit-same : (sight other : ℕ → Bool) (fs : List Follow) (k : ℕ) (b : Bool)
    → ((f : Follow) → IsAmong f fs → (f.cell == k) ≡ true → sight f.source ≡ other f.source)
    → followed_bit sight fs k b ≡ followed_bit other fs k b
bit-same sight other [] k b same = refl
bit-same sight other (f ∷ fs) k b same =
    elim (cases_Bool (f.cell == k)) [
      | inl hit ↦ ap (λ (x : Bool). if x then given_by f (sight f.source) else followed_bit sight fs k b) hit
          ∙ ap (λ s. given_by f s) (same f (inl refl) hit)
          ∙ sym (ap (λ (x : Bool). if x then given_by f (other f.source) else followed_bit other fs k b) hit)
      | inr miss ↦ ap (λ (x : Bool). if x then given_by f (sight f.source) else followed_bit sight fs k b) miss
          ∙ bit-same sight other fs k b (λ g among. same g (inr among))
          ∙ sym (ap (λ (x : Bool). if x then given_by f (other f.source) else followed_bit other fs k b) miss)
    ]

core-same : (sight other : ℕ → Bool) (fs : List Follow) (k : ℕ) (core : List Bool) (i j : ℕ) → j ≡ k + i
    → ((f : Follow) → IsAmong f fs → (f.cell == j) ≡ true → sight f.source ≡ other f.source)
    → bit_of (followed sight fs k core) i ≡ bit_of (followed other fs k core) i
core-same sight other fs k [] i j at same = refl
core-same sight other fs k (b ∷ core) zero j at same =
    bit-same sight other fs k b (subst (λ (n : ℕ). (f : Follow) → IsAmong f fs → (f.cell == n) ≡ true → sight f.source ≡ other f.source) (omega arith) same)
core-same sight other fs k (b ∷ core) (suc i) j at same = core-same sight other fs (suc k) core i j (omega arith) same

round-bit-same : (sight other : ℕ → ℕ → Bool) (k : ℕ) (ms : List Member) (i d : ℕ) (m : Member) (j : ℕ) → d ≡ k + i → slice_get ms i ≡ Some m
    → ((f : Follow) → IsAmong f m.follows → (f.cell == j) ≡ true → sight d f.source ≡ other d f.source)
    → bit_of (core_at (with_followed_all sight k ms) i) j ≡ bit_of (core_at (with_followed_all other k ms) i) j
round-bit-same sight other k [] i d m j at stands same = absurd (cc)
round-bit-same sight other k (a ∷ ms) zero d m j at stands same =
    let e : m ≡ a = sym (ap (λ (o : Option Member). unwrap_or o a) stands) in
    let here : d ≡ k = omega arith in
    core-same (sight k) (other k) a.follows 0 a.core j j (omega arith)
    (subst (λ (n : Member). (f : Follow) → IsAmong f n.follows → (f.cell == j) ≡ true → sight k f.source ≡ other k f.source) e
    (subst (λ (n : ℕ). (f : Follow) → IsAmong f m.follows → (f.cell == j) ≡ true → sight n f.source ≡ other n f.source) here same))
round-bit-same sight other k (a ∷ ms) (suc i) d m j at stands same = round-bit-same sight other (suc k) ms i d m j (omega arith) stands same

-- the whole round
pub all-bits-same : (sight other : ℕ → Bool) (fs : List Follow) (k : ℕ) (core : List Bool)
    → ((f : Follow) → IsAmong f fs → sight f.source ≡ other f.source) → followed sight fs k core ≡ followed other fs k core
all-bits-same sight other fs k [] same = refl
all-bits-same sight other fs k (b ∷ core) same =
    λ i. bit-same sight other fs k b (λ f among hit. same f among) i ∷ all-bits-same sight other fs (suc k) core same i

round-same : (sight other : ℕ → ℕ → Bool) (k : ℕ) (ms : List Member)
    → ((i : ℕ) (m : Member) (f : Follow) → slice_get ms i ≡ Some m → IsAmong f m.follows → (d : ℕ) → d ≡ k + i → sight d f.source ≡ other d f.source)
    → with_followed_all sight k ms ≡ with_followed_all other k ms
round-same sight other k [] same = refl
round-same sight other k (m ∷ ms) same =
    let here = all-bits-same (sight k) (other k) m.follows 0 m.core (λ f among. same 0 m f refl among k (omega arith)) in
    let rest = round-same sight other (suc k) ms (λ i n f stands among d at. same (suc i) n f stands among d (omega arith)) in
    λ i. record m { core = here i } ∷ rest i

-- 4. A net's level is the same where the core bits that its pins take are the same.
abbrev pub drive_at_place : List Member → ℕ → ℕ → Drive
drive_at_place x i p = unwrap_or (option_map (λ m. drive m p) (slice_get x i)) Nothing

pub member-same : (m a b : Member) (p : ℕ) → a ≡ record m { core = a.core } → b ≡ record m { core = b.core }
    → ((j : ℕ) → takes_from p j 0 m.device.cells ≡ true → bit_of a.core j ≡ bit_of b.core j) → drive a p ≡ drive b p
member-same m a b p ea eb same =
    ap (λ (n : Member). drive n p) ea
    ∙ drive-same (meaning m.device m.registers.latch).mode m.device.cells m.registers.update a.core b.core p same
    ∙ sym (ap (λ (n : Member). drive n p) eb)

place-same : (ms x y : List Member) (i p : ℕ) → AreOf ms x → AreOf ms y
    → ((m : Member) → slice_get ms i ≡ Some m → (j : ℕ) → takes_from p j 0 m.device.cells ≡ true → bit_of (core_at x i) j ≡ bit_of (core_at y i) j)
    → drive_at_place x i p ≡ drive_at_place y i p
place-same [] [] [] i p ax ay same = refl
place-same [] (a ∷ x) y i p ax ay same = absurd ax
place-same [] [] (b ∷ y) i p ax ay same = absurd ay
place-same (m ∷ ms) [] y i p ax ay same = absurd ax
place-same (m ∷ ms) (a ∷ x) [] i p ax ay same = absurd ay
place-same (m ∷ ms) (a ∷ x) (b ∷ y) zero p ax ay same = member-same m a b p ax.0.same ay.0.same (same m refl)
place-same (m ∷ ms) (a ∷ x) (b ∷ y) (suc i) p ax ay same = place-same ms x y i p ax.1 ay.1 same

pub pins-same : (f g : Pin → Drive) (pins : List Pin) → ((pin : Pin) → IsAmong pin pins → f pin ≡ g pin) → map f pins ≡ map g pins
pins-same f g [] same = refl
pins-same f g (pin ∷ pins) same = λ i. same pin (inl refl) i ∷ pins-same f g pins (λ q among. same q (inr among)) i

pub level-same : (ms x y : List Member) (net : Net) → AreOf ms x → AreOf ms y
    → ((pin : Pin) → IsAmong pin net.pins → (m : Member) → slice_get ms pin.device ≡ Some m
    → (j : ℕ) → takes_from pin.port j 0 m.device.cells ≡ true → bit_of (core_at x pin.device) j ≡ bit_of (core_at y pin.device) j)
    → level_under x net ≡ level_under y net
level-same ms x y net ax ay same =
    ap (λ ds. shown net.rule (pull_drive net.pull) ds)
    (pins-same (pin_drive x) (pin_drive y) net.pins (λ pin among. place-same ms x y pin.device pin.port ax ay (same pin among)))

-- 5. Where every step back along a string lowers a number, so many rounds give a net of that number the same level,
-- whatever was held.
abbrev Lowers : List Net → List Member → (ℕ → Net → Type 0) → Type 0
Lowers nets ms P = (n : ℕ) (net source : Net) → P n net → DependsOn nets ms net source → (k : ℕ) × (n ≡ suc k) × P k source

rounds-same : (nets : List Net) (ms : List Member) (P : ℕ → Net → Type 0) → Lowers nets ms P → (n : ℕ) (net : Net) → P n net
    → (x y : List Member) → AreOf ms x → AreOf ms y → level_under (rounds n nets ms x) net ≡ level_under (rounds n nets ms y) net
rounds-same nets ms P lowers zero net holds x y ax ay =
    level-same ms x y net ax ay (λ pin on m stands j takes.
    let none : (f : Follow) → IsAmong f m.follows → (f.cell == j) ≡ true → ⊥ = λ f among hit.
    let lower = lowers 0 net (net_of nets pin.device f.source) holds (record {
      pin = pin;
      member = m;
      string = f;
      on_net = on;
      stands = stands;
      follows = among;
      takes = subst (λ (b : ℕ). takes_from pin.port b 0 m.device.cells ≡ true) (sym (eqb-true f.cell j hit)) takes;
      its_net = refl;
    }) in absurd (suc-ne-zero lower.0 (sym lower.1)) in
    held-constant ms x pin.device m j ax stands none ∙ sym (held-constant ms y pin.device m j ay stands none))
rounds-same nets ms P lowers (suc n) net holds x y ax ay =
    level-same ms (rounds (suc n) nets ms x) (rounds (suc n) nets ms y) net (AreOf-round nets ms (suc n) x ax) (AreOf-round nets ms (suc n) y ay)
    (λ pin on m stands j takes.
    round-bit-same (sees_under nets (rounds n nets ms x)) (sees_under nets (rounds n nets ms y)) 0 ms pin.device pin.device m j (omega arith) stands
    (λ f among hit.
    let source = net_of nets pin.device f.source in
    let lower = lowers (suc n) net source holds (record {
      pin = pin;
      member = m;
      string = f;
      on_net = on;
      stands = stands;
      follows = among;
      takes = subst (λ (b : ℕ). takes_from pin.port b 0 m.device.cells ≡ true) (sym (eqb-true f.cell j hit)) takes;
      its_net = refl;
    }) in
    let e : lower.0 ≡ n = omega (arith, lower.1) in
    ap reads (rounds-same nets ms P lowers n source (subst (λ (k : ℕ). P k source) e lower.2) x y ax ay)))

-- 6. All strings of the board, each with its device's place; a list of them without one.
abbrev pub same_bool : Bool → Bool → Bool
same_bool true b = b
same_bool false true = false
same_bool false false = true

same_bool-itself : (b : Bool) → same_bool b b ≡ true
same_bool-itself true = refl
same_bool-itself false = refl

same_bool-true : (a b : Bool) → same_bool a b ≡ true → a ≡ b
same_bool-true true b e = sym e
same_bool-true false true e = cc
same_bool-true false false e = refl

abbrev pub is_same : Placed → Placed → Bool
is_same s t =
    ((s.device == t.device) && (s.string.cell == t.string.cell))
    && ((s.string.source == t.string.source) && same_bool s.string.inverted t.string.inverted)

is_same-itself : (s : Placed) → is_same s s ≡ true
is_same-itself s =
    and_from ((s.device == s.device) && (s.string.cell == s.string.cell)) ((s.string.source == s.string.source) && same_bool s.string.inverted s.string.inverted)
    (and_from (s.device == s.device) (s.string.cell == s.string.cell) (eq-eqb s.device s.device refl) (eq-eqb s.string.cell s.string.cell refl))
    (and_from (s.string.source == s.string.source) (same_bool s.string.inverted s.string.inverted) (eq-eqb s.string.source s.string.source refl) (same_bool-itself s.string.inverted))

is_same-true : (s t : Placed) → is_same s t ≡ true → s ≡ t
is_same-true s t e =
    let parts = and_parts ((s.device == t.device) && (s.string.cell == t.string.cell)) ((s.string.source == t.string.source) && same_bool s.string.inverted t.string.inverted) e in
    let first = and_parts (s.device == t.device) (s.string.cell == t.string.cell) parts.0 in
    let second = and_parts (s.string.source == t.string.source) (same_bool s.string.inverted t.string.inverted) parts.1 in
    let device = eqb-true s.device t.device first.0 in
    let cell = eqb-true s.string.cell t.string.cell first.1 in
    let source = eqb-true s.string.source t.string.source second.0 in
    let inverted = same_bool-true s.string.inverted t.string.inverted second.1 in
    λ i. record { device = device i; string = record { cell = cell i; source = source i; inverted = inverted i } }

abbrev pub is_in : Placed → List Placed → Bool
is_in t [] = false
is_in t (s ∷ ss) = is_same s t || is_in t ss

abbrev pub without : Placed → List Placed → List Placed
without t [] = []
without t (s ∷ ss) = if is_same s t then without t ss else s ∷ without t ss

without-le : (t : Placed) (ss : List Placed) → length (without t ss) ≤ length ss
without-le t [] = omega arith
without-le t (s ∷ ss) =
    elim (cases_Bool (is_same s t)) [
      | inl hit ↦ subst (λ (x : Bool). length (if x then without t ss else s ∷ without t ss) ≤ suc (length ss)) (sym hit) (omega (arith, without-le t ss))
      | inr miss ↦ subst (λ (x : Bool). length (if x then without t ss else s ∷ without t ss) ≤ suc (length ss)) (sym miss) (omega (arith, without-le t ss))
    ]

without-lt : (t : Placed) (ss : List Placed) → is_in t ss ≡ true → length (without t ss) < length ss
without-lt t [] e = absurd (cc)
without-lt t (s ∷ ss) e =
    elim (cases_Bool (is_same s t)) [
      | inl hit ↦ subst (λ (x : Bool). length (if x then without t ss else s ∷ without t ss) < suc (length ss)) (sym hit) (omega (arith, without-le t ss))
      | inr miss ↦
          let deep : is_in t ss ≡ true = sym (ap (λ (x : Bool). x || is_in t ss) miss) ∙ e in
          subst (λ (x : Bool). length (if x then without t ss else s ∷ without t ss) < suc (length ss)) (sym miss) (omega (arith, without-lt t ss deep))
    ]

-- what is not in it then is the one taken out, or was not in it
gone : (t s : Placed) (ss : List Placed) → is_in t (without s ss) ≡ false → (s ≡ t) ⊎ (is_in t ss ≡ false)
gone t s [] e = inr refl
gone t s (r ∷ ss) e =
    elim (cases_Bool (is_same r s)) [
      | inl hit ↦
          let r-s = is_same-true r s hit in
          let deep : is_in t (without s ss) ≡ false = sym (ap (λ (x : Bool). is_in t (if x then without s ss else r ∷ without s ss)) hit) ∙ e in
          elim (gone t s ss deep) [
            | inl it ↦ inl it
            | inr out ↦ elim (cases_Bool (is_same r t)) [
              | inl is ↦ inl (sym r-s ∙ is_same-true r t is)
              | inr isnt ↦ inr (ap (λ (x : Bool). x || is_in t ss) isnt ∙ out)
            ]
          ]
      | inr miss ↦
          let deep : (is_same r t || is_in t (without s ss)) ≡ false = sym (ap (λ (x : Bool). is_in t (if x then without s ss else r ∷ without s ss)) miss) ∙ e in
          elim (cases_Bool (is_same r t)) [
            | inl is ↦ absurd (both_ways (is_same r t || is_in t (without s ss)) deep (ap (λ (x : Bool). x || is_in t (without s ss)) is))
            | inr isnt ↦ elim (gone t s ss (sym (ap (λ (x : Bool). x || is_in t (without s ss)) isnt) ∙ deep)) [
              | inl it ↦ inl it
              | inr out ↦ inr (ap (λ (x : Bool). x || is_in t ss) isnt ∙ out)
            ]
          ]
    ]

abbrev pub placed : ℕ → List Follow → List Placed
placed k [] = []
placed k (f ∷ fs) = record { device = k; string = f } ∷ placed k fs

abbrev pub all_strings : ℕ → List Member → List Placed
all_strings k [] = []
all_strings k (m ∷ ms) = placed k m.follows ++ all_strings (suc k) ms

in-left : (t : Placed) (ss rest : List Placed) → is_in t ss ≡ true → is_in t (ss ++ rest) ≡ true
in-left t [] rest e = absurd (cc)
in-left t (s ∷ ss) rest e =
    elim (cases_Bool (is_same s t)) [
      | inl hit ↦ ap (λ (x : Bool). x || is_in t (ss ++ rest)) hit
      | inr miss ↦ ap (λ (x : Bool). x || is_in t (ss ++ rest)) miss ∙ in-left t ss rest (sym (ap (λ (x : Bool). x || is_in t ss) miss) ∙ e)
    ]

in-right : (t : Placed) (ss rest : List Placed) → is_in t rest ≡ true → is_in t (ss ++ rest) ≡ true
in-right t [] rest e = e
in-right t (s ∷ ss) rest e = right-taken (is_same s t) (is_in t (ss ++ rest)) (in-right t ss rest e)

in-placed : (k : ℕ) (fs : List Follow) (f : Follow) → IsAmong f fs → is_in (record { device = k; string = f }) (placed k fs) ≡ true
in-placed k [] f among = absurd among
in-placed k (g ∷ fs) f (inl e) =
    ap (λ (x : Bool). x || is_in (record { device = k; string = f }) (placed k fs))
    (subst (λ (h : Follow). is_same (record { device = k; string = g }) (record { device = k; string = h }) ≡ true) e (is_same-itself (record { device = k; string = g })))
in-placed k (g ∷ fs) f (inr among) =
    right-taken (is_same (record { device = k; string = g }) (record { device = k; string = f })) (is_in (record { device = k; string = f }) (placed k fs)) (in-placed k fs f among)

in-all : (k : ℕ) (ms : List Member) (i d : ℕ) (m : Member) (f : Follow) → d ≡ k + i → slice_get ms i ≡ Some m → IsAmong f m.follows
    → is_in (record { device = d; string = f }) (all_strings k ms) ≡ true
in-all k [] i d m f at stands among = absurd (cc)
in-all k (a ∷ ms) zero d m f at stands among =
    let e : m ≡ a = sym (ap (λ (o : Option Member). unwrap_or o a) stands) in
    let here : k ≡ d = omega arith in
    in-left (record { device = d; string = f }) (placed k a.follows) (all_strings (suc k) ms)
    (subst (λ (n : ℕ). is_in (record { device = n; string = f }) (placed k a.follows) ≡ true) here
    (in-placed k a.follows f (subst (λ (n : Member). IsAmong f n.follows) e among)))
in-all k (a ∷ ms) (suc i) d m f at stands among =
    in-right (record { device = d; string = f }) (placed k a.follows) (all_strings (suc k) ms) (in-all (suc k) ms i d m f (omega arith) stands among)

length-placed : (k : ℕ) (fs : List Follow) → length (placed k fs) ≡ length fs
length-placed k [] = refl
length-placed k (f ∷ fs) = ap (λ n. suc n) (length-placed k fs)

length-all : (k : ℕ) (ms : List Member) → length (all_strings k ms) ≡ strings ms
length-all k [] = refl
length-all k (m ∷ ms) = length-append (placed k m.follows) (all_strings (suc k) ms) ∙ ap₂ (λ a b. a + b) (length-placed k m.follows) (length-all (suc k) ms)

-- 7. Where there is no circle, the strings that were not yet gone back along are fewer with each step.
one-more : (nets : List Net) (ms : List Member) (n : ℕ) (a b c : Net) → DependsIn nets ms n a b → DependsOn nets ms b c → DependsIn nets ms (suc n) a c
one-more nets ms zero a b c path step = (c, subst (λ (x : Net). DependsOn nets ms x c) (sym path) step, refl)
one-more nets ms (suc n) a b c path step = (path.0, path.1, one-more nets ms n path.0 b c path.2 step)

abbrev pub source_of : List Net → Placed → Net
source_of nets s = net_of nets s.device s.string.source

-- at most so many strings are left, and the source's net of each other one depends on this net
pub record Left (nets : List Net) (ms : List Member) (n : ℕ) (net : Net) : Type 0 where
  pub strings : List Placed
  pub few : length strings ≤ n
  pub others : (s : Placed) → is_in s (all_strings 0 ms) ≡ true → is_in s strings ≡ false → (k : ℕ) × DependsIn nets ms k (source_of nets s) net

left-after : (nets : List Net) (ms : List Member) (n : ℕ) (net source : Net) (left : Left nets ms n net) → DependsOn nets ms net source
    → (s : Placed) → source_of nets s ≡ source → is_in s left.strings ≡ true → (k : ℕ) × (n ≡ suc k) × Left nets ms k source
left-after nets ms zero net source left step s at is = absurd (omega (arith, left.few, without-lt s left.strings is))
left-after nets ms (suc n) net source left step s at is = (
  n,
  refl,
  record {
    strings = without s left.strings;
    few = omega (arith, left.few, without-lt s left.strings is);
    others = λ t among out. elim (gone t s left.strings out) [
      | inl it ↦ (0, ap (source_of nets) (sym it) ∙ at)
      | inr was ↦ let path = left.others t among was in (suc path.0, one-more nets ms path.0 (source_of nets t) net source path.1 step)
    ];
  },
)

no-circle-lowers : (nets : List Net) (ms : List Member) → HasNoCircle nets ms → Lowers nets ms (Left nets ms)
no-circle-lowers nets ms free n net source left step =
    let s : Placed = record { device = step.pin.device; string = step.string } in
    let among = in-all 0 ms step.pin.device step.pin.device step.member step.string (omega arith) step.stands step.follows in
    elim (cases_Bool (is_in s left.strings)) [
      | inl is ↦ left-after nets ms n net source left step s (sym step.its_net) is
      | inr out ↦
          let path = left.others s among out in
          let here : DependsIn nets ms path.0 source net = subst (λ (x : Net). DependsIn nets ms path.0 x net) (sym step.its_net) path.1 in
          absurd (free source path.0 (one-more nets ms path.0 source net source here step))
    ]

-- one string fewer than all is left at the source of any
left-at-source : (nets : List Net) (ms : List Member) (n : ℕ) (s : Placed) → strings ms ≡ suc n → is_in s (all_strings 0 ms) ≡ true → Left nets ms n (source_of nets s)
left-at-source nets ms n s count is = record {
  strings = without s (all_strings 0 ms);
  few = omega (arith, count, length-all 0 ms, without-lt s (all_strings 0 ms) is);
  others = λ t among out. elim (gone t s (all_strings 0 ms) out) [
    | inl it ↦ (0, ap (source_of nets) (sym it))
    | inr was ↦ absurd (both_ways (is_in t (all_strings 0 ms)) was among)
  ];
}

-- 8. The laws.
follows-nothing : (sight : ℕ → Bool) (k : ℕ) (core : List Bool) → followed sight [] k core ≡ core
follows-nothing sight k [] = refl
follows-nothing sight k (b ∷ core) = λ i. b ∷ follows-nothing sight (suc k) core i

no-string : (sight : ℕ → Bool) (fs : List Follow) (core : List Bool) → length fs ≡ 0 → followed sight fs 0 core ≡ core
no-string sight [] core e = follows-nothing sight 0 core
no-string sight (f ∷ fs) core e = absurd (suc-ne-zero (length fs) e)

no-strings : (sight : ℕ → ℕ → Bool) (k : ℕ) (ms : List Member) → strings ms ≡ 0 → with_followed_all sight k ms ≡ ms
no-strings sight k [] e = refl
no-strings sight k (m ∷ ms) e =
    let here = no-string (sight k) m.follows m.core (omega (arith, e)) in
    let rest = no-strings sight (suc k) ms (omega (arith, e)) in
    λ i. record m { core = here i } ∷ rest i

count-none : (ms : List Member) → AllByRecursion (λ m. m.follows ≡ []) ms → strings ms ≡ 0
count-none [] all = refl
count-none (m ∷ ms) all = ap₂ (λ (fs : List Follow) n. length fs + n) all.0 (count-none ms all.1)

constants : (nets : List Net) (ms : List Member) → AllByRecursion (λ m. m.follows ≡ []) ms → in_force nets ms ≡ ms
constants nets ms all = ap (λ n. rounds n nets ms ms) (count-none ms all)

pub constants_in_force : ConstantsInForce
constants_in_force nets ms all = record {
  cores = constants nets ms all;
  levels = λ net. ap (λ held. level_under held net) (constants nets ms all);
  told = λ place m stands. ap (λ held. told_under nets held place) (constants nets ms all)
      ∙ ap (λ (o : Option Member). record { sight = sees_under nets ms place; core = unwrap_or (option_map (λ n. n.core) o) [] }) stands;
}

-- as many rounds as there are strings, and whatever was held before all but one of them
last-round : (nets : List Net) (ms : List Member) → HasNoCircle nets ms → (n : ℕ) → strings ms ≡ suc n → (x y : List Member) → AreOf ms x → AreOf ms y
    → one_round nets ms (rounds n nets ms x) ≡ one_round nets ms (rounds n nets ms y)
last-round nets ms free n count x y ax ay =
    round-same (sees_under nets (rounds n nets ms x)) (sees_under nets (rounds n nets ms y)) 0 ms (λ i m f stands among d at.
    let s : Placed = record { device = d; string = f } in
    ap reads (rounds-same nets ms (Left nets ms) (no-circle-lowers nets ms free) n (source_of nets s)
    (left-at-source nets ms n s count (in-all 0 ms i d m f at stands among)) x y ax ay))

rounds-after : (nets : List Net) (ms : List Member) (n : ℕ) (x : List Member) → rounds n nets ms (one_round nets ms x) ≡ one_round nets ms (rounds n nets ms x)
rounds-after nets ms zero x = refl
rounds-after nets ms (suc n) x = ap (one_round nets ms) (rounds-after nets ms n x)

rounds-held : (nets : List Net) (ms : List Member) (n : ℕ) (x : List Member) → x ≡ one_round nets ms x → rounds n nets ms x ≡ x
rounds-held nets ms zero x holds = refl
rounds-held nets ms (suc n) x holds = ap (one_round nets ms) (rounds-held nets ms n x holds) ∙ sym holds

settled : (nets : List Net) (ms : List Member) → HasNoCircle nets ms → (n : ℕ) → strings ms ≡ n → rounds n nets ms ms ≡ one_round nets ms (rounds n nets ms ms)
settled nets ms free zero count = sym (no-strings (sees_under nets ms) 0 ms count)
settled nets ms free (suc n) count =
    last-round nets ms free n count ms (one_round nets ms ms) (AreOf-itself ms) (AreOf-followed (sees_under nets ms) 0 ms)
    ∙ ap (one_round nets ms) (rounds-after nets ms n ms)

pub one_round_more : OneRoundMoreChangesNothing
one_round_more nets ms free = sym (settled nets ms free (strings ms) refl)

only : (nets : List Net) (ms held : List Member) → HasNoCircle nets ms → held ≡ one_round nets ms held → (n : ℕ) → strings ms ≡ n → held ≡ rounds n nets ms ms
only nets ms held free holds zero count = holds ∙ no-strings (sees_under nets held) 0 ms count
only nets ms held free holds (suc n) count =
    let are : AreOf ms held = subst (AreOf ms) (sym holds) (AreOf-followed (sees_under nets held) 0 ms) in
    holds
    ∙ sym (ap (one_round nets ms) (rounds-held nets ms n held holds))
    ∙ last-round nets ms free n count held ms are (AreOf-itself ms)

-- 9. By single bits.
length-followed : (sight : ℕ → Bool) (fs : List Follow) (k : ℕ) (core : List Bool) → length (followed sight fs k core) ≡ length core
length-followed sight fs k [] = refl
length-followed sight fs k (b ∷ core) = ap (λ n. suc n) (length-followed sight fs (suc k) core)

bit-of-followed : (sight : ℕ → Bool) (fs : List Follow) (k : ℕ) (core : List Bool) (i j : ℕ) → j ≡ k + i → i < length core
    → bit_of (followed sight fs k core) i ≡ followed_bit sight fs j (bit_of core i)
bit-of-followed sight fs k [] i j at low = absurd (omega (arith, low))
bit-of-followed sight fs k (b ∷ core) zero j at low =
    ap (λ n. followed_bit sight fs n b) (let e : k ≡ j = omega arith in e)
bit-of-followed sight fs k (b ∷ core) (suc i) j at low = bit-of-followed sight fs (suc k) core i j (omega arith) (omega arith)

bit-by-string : (sight : ℕ → Bool) (fs : List Follow) (f : Follow) (b : Bool) → HasOneEach fs → IsAmong f fs
    → followed_bit sight fs f.cell b ≡ given_by f (sight f.source)
bit-by-string sight [] f b one among = absurd among
bit-by-string sight (g ∷ fs) f b one (inl e) =
    ap (λ (x : Bool). if x then given_by g (sight g.source) else followed_bit sight fs f.cell b) (eq-eqb g.cell f.cell (ap (λ (h : Follow). h.cell) e))
    ∙ ap (λ (h : Follow). given_by h (sight h.source)) e
bit-by-string sight (g ∷ fs) f b one (inr among) =
    elim (cases_Bool (g.cell == f.cell)) [
      | inl hit ↦ absurd (one.0 f among (sym (eqb-true g.cell f.cell hit)))
      | inr miss ↦ ap (λ (x : Bool). if x then given_by g (sight g.source) else followed_bit sight fs f.cell b) miss
          ∙ bit-by-string sight fs f b one.1 among
    ]

device-holds : (sight : ℕ → Bool) (m : Member) → AreFit m → StringsHold sight m (with_followed sight m)
device-holds sight m fit = record {
  same = refl;
  long = length-followed sight m.follows 0 m.core;
  followed = λ f among. bit-of-followed sight m.follows 0 m.core f.cell f.cell (omega arith) (fit.there f among)
      ∙ bit-by-string sight m.follows f (bit_of m.core f.cell) fit.one among;
  constant = λ bit none. core-constant sight m.follows 0 m.core bit bit (omega arith) (λ f among hit. none f among (eqb-true f.cell bit hit));
}

all-hold : (sight : ℕ → ℕ → Bool) (k : ℕ) (ms : List Member) → AllByRecursion (λ m. AreFit m) ms → StringsHoldFrom sight k ms (with_followed_all sight k ms)
all-hold sight k [] fit = tt
all-hold sight k (m ∷ ms) fit = (device-holds (sight k) m fit.0, all-hold sight (suc k) ms fit.1)

pub every_string_holds : EveryStringHoldsInForce
every_string_holds nets ms free fit =
    let held = in_force nets ms in
    subst (λ (hs : List Member). StringsHoldFrom (sees_under nets held) 0 ms hs) (one_round_more nets ms free) (all-hold (sees_under nets held) 0 ms fit)

-- a bit that holds what each string for it gives, and its constant if there is none, is the followed bit
is-followed-bit : (sight : ℕ → Bool) (fs : List Follow) (j : ℕ) (b x : Bool)
    → ((f : Follow) → IsAmong f fs → (f.cell == j) ≡ true → x ≡ given_by f (sight f.source))
    → (((f : Follow) → IsAmong f fs → (f.cell == j) ≡ true → ⊥) → x ≡ b)
    → x ≡ followed_bit sight fs j b
is-followed-bit sight [] j b x gives otherwise = otherwise (λ f among hit. among)
is-followed-bit sight (g ∷ fs) j b x gives otherwise =
    elim (cases_Bool (g.cell == j)) [
      | inl hit ↦ gives g (inl refl) hit
          ∙ sym (ap (λ (t : Bool). if t then given_by g (sight g.source) else followed_bit sight fs j b) hit)
      | inr miss ↦
          is-followed-bit sight fs j b x (λ f among. gives f (inr among))
          (λ none. otherwise (λ f among hit. elim among [
            | inl e ↦ both_ways (f.cell == j) (sym (ap (λ (h : Follow). h.cell == j) e) ∙ miss) hit
            | inr later ↦ none f later hit
          ]))
          ∙ sym (ap (λ (t : Bool). if t then given_by g (sight g.source) else followed_bit sight fs j b) miss)
    ]

same-bits : (xs ys : List Bool) → length xs ≡ length ys → ((i : ℕ) → i < length ys → bit_of xs i ≡ bit_of ys i) → xs ≡ ys
same-bits [] [] long same = refl
same-bits [] (y ∷ ys) long same = absurd (suc-ne-zero (length ys) (sym long))
same-bits (x ∷ xs) [] long same = absurd (suc-ne-zero (length xs) long)
same-bits (x ∷ xs) (y ∷ ys) long same =
    let rest = same-bits xs ys (omega arith) (λ i low. same (suc i) (omega arith)) in
    λ i. same 0 (omega arith) i ∷ rest i

device-only : (sight : ℕ → Bool) (m h : Member) → StringsHold sight m h → h ≡ with_followed sight m
device-only sight m h holds =
    let cores : h.core ≡ followed sight m.follows 0 m.core =
    same-bits h.core (followed sight m.follows 0 m.core) (holds.long ∙ sym (length-followed sight m.follows 0 m.core)) (λ i low.
    is-followed-bit sight m.follows i (bit_of m.core i) (bit_of h.core i)
    (λ f among hit. ap (bit_of h.core) (sym (eqb-true f.cell i hit)) ∙ holds.followed f among)
    (λ none. holds.constant i (λ f among e. none f among (eq-eqb f.cell i e)))
    ∙ sym (bit-of-followed sight m.follows 0 m.core i i (omega arith) (omega (arith, low, length-followed sight m.follows 0 m.core)))) in
    holds.same ∙ ap (λ core. record m { core = core }) cores

all-only : (sight : ℕ → ℕ → Bool) (k : ℕ) (ms held : List Member) → StringsHoldFrom sight k ms held → held ≡ with_followed_all sight k ms
all-only sight k [] [] holds = refl
all-only sight k [] (h ∷ held) holds = absurd holds
all-only sight k (m ∷ ms) [] holds = absurd holds
all-only sight k (m ∷ ms) (h ∷ held) holds = λ i. device-only (sight k) m h holds.0 i ∷ all-only sight (suc k) ms held holds.1 i

pub only_in_force : OnlyInForce
only_in_force nets ms held free holds = only nets ms held free (all-only (sees_under nets held) 0 ms held holds) (strings ms) refl

-- 10. By targets and sources.
pub takes-driver : (p j k : ℕ) (cs : List Cell) → ((i : ℕ) (c : Cell) → slice_get cs i ≡ Some c → is_control j c.control ≡ true → k + i ≡ j)
    → takes_from p j k cs ≡ true → driver_from p k cs ≡ Some j
takes-driver p j k [] own takes = absurd (cc)
takes-driver p j k (c ∷ cs) own takes =
    elim (cases_Bool (drives c.function && is_port p c.port)) [
      | inl hit ↦
          let either : ((k == j) || is_control j c.control) ≡ true =
          sym (ap (λ (x : Bool). if x then (k == j) || is_control j c.control else takes_from p j (suc k) cs) hit) ∙ takes in
          ap (λ (x : Bool). if x then Some k else driver_from p (suc k) cs) hit
          ∙ ap (λ n. Some n) (own-bit k j c either (own 0 c refl))
      | inr miss ↦
          ap (λ (x : Bool). if x then Some k else driver_from p (suc k) cs) miss
          ∙ takes-driver p j (suc k) cs (λ i d at control. let here = own (suc i) d at control in omega (arith, here))
          (sym (ap (λ (x : Bool). if x then (k == j) || is_control j c.control else takes_from p j (suc k) cs) miss) ∙ takes)
    ]
  where
    own-bit : (k j : ℕ) (c : Cell) → ((k == j) || is_control j c.control) ≡ true → (is_control j c.control ≡ true → k + 0 ≡ j) → k ≡ j
    own-bit k j c either own =
        elim (cases_Bool (k == j)) [
          | inl e ↦ eqb-true k j e
          | inr other ↦
              let here = own (sym (ap (λ (x : Bool). x || is_control j c.control) other) ∙ either) in
              omega (arith, here)
        ]

pub at-place : (ms : List Member) (i : ℕ) (m : Member) (P : Member → Type 0) → AllByRecursion P ms → slice_get ms i ≡ Some m → P m
at-place [] i m P all stands = absurd (cc)
at-place (a ∷ ms) zero m P all stands = subst P (ap (λ (o : Option Member). unwrap_or o a) stands) all.0
at-place (a ∷ ms) (suc i) m P all stands = at-place ms i m P all.1 stands

found-among : (test : Net → Bool) (nets : List Net) (net : Net) → find test nets ≡ Some net → IsAmong net nets
found-among test [] net e = cc
found-among test (n ∷ nets) net e =
    elim (cases_Bool (test n)) [
      | inl hit ↦
          let one : Some n ≡ Some net = sym (ap (λ (x : Bool). if x then Some n else find test nets) hit) ∙ e in
          inl (ap (λ (o : Option Net). unwrap_or o n) one)
      | inr miss ↦ inr (found-among test nets net (sym (ap (λ (x : Bool). if x then Some n else find test nets) miss) ∙ e))
    ]

pin-net : (nets : List Net) → AreFound nets → (o : Option Net) (a b : ℕ) → ((net : Net) → o ≡ Some net → IsAmong net nets)
    → (found : o ≡ find (joins a b) nets) → (pin : Pin) → IsAmong pin (unwrap_or o (lone_net a b)).pins
    → unwrap_or o (lone_net a b) ≡ net_of nets pin.device pin.port
pin-net nets found None a b among at pin (inl e) =
    ap (λ (o : Option Net). unwrap_or o (lone_net a b)) at ∙ ap (λ (q : Pin). net_of nets q.device q.port) e
pin-net nets found None a b among at pin (inr more) = absurd more
pin-net nets found (Some net) a b among at pin on =
    sym (ap (λ (o : Option Net). unwrap_or o (lone_net pin.device pin.port)) (found net (among net refl) pin on))

-- some port bit's net
abbrev pub IsSome : List Net → Net → Type 0
IsSome nets net = (device : ℕ) × (port : ℕ) × (net ≡ net_of nets device port)

pub own-net : (nets : List Net) → AreFound nets → (net : Net) → IsSome nets net → (pin : Pin) → IsAmong pin net.pins → net ≡ net_of nets pin.device pin.port
own-net nets found net is pin on =
    is.2 ∙ pin-net nets found (find (joins is.0 is.1) nets) is.0 is.1 (λ n e. found-among (joins is.0 is.1) nets n e) refl pin
    (subst (λ (n : Net). IsAmong pin n.pins) is.2 on)

string-step : (nets : List Net) (ms : List Member) → AreFound nets → AllByRecursion (λ m. FollowsNoOtherControl m) ms → (net source : Net) → IsSome nets net
    → DependsOn nets ms net source → StringBetween nets ms net source
string-step nets ms found none net source is step = record {
  place = step.pin.device;
  member = step.member;
  string = step.string;
  target = step.pin.port;
  stands = step.stands;
  follows = step.follows;
  drives = takes-driver step.pin.port step.string.cell 0 step.member.device.cells
      (λ i c at control. let here = at-place ms step.pin.device step.member (λ m. FollowsNoOtherControl m) none step.stands step.string step.follows i c at control in omega (arith, here))
      step.takes;
  target_net = own-net nets found net is step.pin step.on_net;
  source_net = step.its_net;
}

string-path : (nets : List Net) (ms : List Member) → AreFound nets → AllByRecursion (λ m. FollowsNoOtherControl m) ms → (n : ℕ) (net source : Net) → IsSome nets net
    → DependsIn nets ms n net source → InSteps (StringBetween nets ms) n net source
string-path nets ms found none zero net source is path = path
string-path nets ms found none (suc n) net source is path = (
  path.0,
  string-step nets ms found none net path.0 is path.1,
  string-path nets ms found none n path.0 source (path.1.pin.device, path.1.string.source, path.1.its_net) path.2,
)

path-ends : (nets : List Net) (ms : List Member) (n : ℕ) (net next source : Net) → DependsOn nets ms net next → DependsIn nets ms n next source → IsSome nets source
path-ends nets ms zero net next source step path = (step.pin.device, step.string.source, sym path ∙ step.its_net)
path-ends nets ms (suc n) net next source step path = path-ends nets ms n next path.0 source path.1 path.2

pub no_loop : NoLoopIsNoCircle
no_loop nets ms found none free net n path =
    free net n (string-path nets ms found none (suc n) net net (path-ends nets ms n net path.0 net path.1 path.2) path)

-- 11. Numbers that strings lower.
path-lowers : (R : Net → Net → Type 0) (number : Net → ℕ) → ((net source : Net) → R net source → number source ≤ number net)
    → (n : ℕ) (net source : Net) → InSteps R n net source → number source ≤ number net
path-lowers R number lowers zero net source path = omega (arith, ap number path)
path-lowers R number lowers (suc n) net source path =
    omega (arith, lowers net path.0 path.1, path-lowers R number lowers n path.0 source path.2)

pub lowered_numbers : LoweredNumbersShowNoLoop
lowered_numbers nets ms number lowers net n path =
    let back = path-lowers (StringBetween nets ms) number (λ a b step. omega (arith, lowers a b step)) n path.0 net path.2 in
    omega (arith, lowers net path.0 path.1, back)

pub lowering_strings : LoweringStringsAreOnNoCircle
lowering_strings nets ms number lowers target source strict circle =
    omega (arith, strict, path-lowers (StringBetween nets ms) number lowers circle.steps source target circle.back)

-- 12. The other way round.
driver-takes : (p j k : ℕ) (cs : List Cell) → driver_from p k cs ≡ Some j → takes_from p j k cs ≡ true
driver-takes p j k [] e = cc
driver-takes p j k (c ∷ cs) e =
    elim (cases_Bool (drives c.function && is_port p c.port)) [
      | inl hit ↦
          let one : Some k ≡ Some j = sym (ap (λ (x : Bool). if x then Some k else driver_from p (suc k) cs) hit) ∙ e in
          let same : k ≡ j = ap (λ (o : Option ℕ). unwrap_or o k) one in
          ap (λ (x : Bool). if x then (k == j) || is_control j c.control else takes_from p j (suc k) cs) hit
          ∙ ap (λ (x : Bool). x || is_control j c.control) (eq-eqb k j same)
      | inr miss ↦
          ap (λ (x : Bool). if x then (k == j) || is_control j c.control else takes_from p j (suc k) cs) miss
          ∙ driver-takes p j (suc k) cs (sym (ap (λ (x : Bool). if x then Some k else driver_from p (suc k) cs) miss) ∙ e)
    ]

pin-among : (d p : ℕ) (pins : List Pin) → has_port_bit d p pins ≡ true → IsAmong (record { device = d; port = p }) pins
pin-among d p [] e = cc
pin-among d p (pin ∷ pins) e =
    elim (cases_Bool ((pin.device == d) && (pin.port == p))) [
      | inl hit ↦
          let parts = and_parts (pin.device == d) (pin.port == p) hit in
          inl (ap₂ (λ a b. record { device = a; port = b }) (eqb-true pin.device d parts.0) (eqb-true pin.port p parts.1))
      | inr miss ↦ inr (pin-among d p pins (sym (ap (λ (x : Bool). x || has_port_bit d p pins) miss) ∙ e))
    ]

on-own-net : (d p : ℕ) (nets : List Net) → IsAmong (record { device = d; port = p }) (net_of nets d p).pins
on-own-net d p [] = inl refl
on-own-net d p (n ∷ nets) =
    elim (cases_Bool (joins d p n)) [
      | inl hit ↦ subst (λ (x : Bool). IsAmong (record { device = d; port = p }) (unwrap_or (if x then Some n else find (joins d p) nets) (lone_net d p)).pins) (sym hit) (pin-among d p n.pins hit)
      | inr miss ↦ subst (λ (x : Bool). IsAmong (record { device = d; port = p }) (unwrap_or (if x then Some n else find (joins d p) nets) (lone_net d p)).pins) (sym miss) (on-own-net d p nets)
    ]

step-of-string : (nets : List Net) (ms : List Member) (net source : Net) → StringBetween nets ms net source → DependsOn nets ms net source
step-of-string nets ms net source st = record {
  pin = record { device = st.place; port = st.target };
  member = st.member;
  string = st.string;
  on_net = subst (λ (n : Net). IsAmong (record { device = st.place; port = st.target }) n.pins) (sym st.target_net) (on-own-net st.place st.target nets);
  stands = st.stands;
  follows = st.follows;
  takes = driver-takes st.target st.string.cell 0 st.member.device.cells st.drives;
  its_net = st.source_net;
}

path-of-strings : (nets : List Net) (ms : List Member) (n : ℕ) (net source : Net) → InSteps (StringBetween nets ms) n net source → DependsIn nets ms n net source
path-of-strings nets ms zero net source path = path
path-of-strings nets ms (suc n) net source path = (path.0, step-of-string nets ms net path.0 path.1, path-of-strings nets ms n path.0 source path.2)

pub no_circle : NoCircleIsNoLoop
no_circle nets ms free net n path = free net n (path-of-strings nets ms (suc n) net net path)
