-- Of a capture the notes of both groups tell which wanted bit is another, and whether one that stays is.
use Rattle.std.proofs.Common.{◌≡◌, ◌≤◌, ℕ, suc, Bool, true, false, ◌&&◌, ◌||◌, ◌==◌, List, [], ◌∷◌, length, drop, Option, Some, None, if◌then◌else◌, refl, sym, ap, ap₂, ◌∙◌, ◌⊎◌, inl, inr, arith}
use Rattle.std.specs.Prelude.{⊤, is_some, nat_lt, option_map}
use Rattle.std.specs.List.{list_any}
use Rattle.std.proofs.lemmas.Bool.{and_parts, eq-eqb, eqb-true, false≢true, le-ltb, lt-ltb}
use Rattle.scan_vectors.specs.declared.part.Part.{Part}
use Rattle.scan_vectors.specs.Vector.{VectorBit}
use Rattle.pin_nets.specs.declared.Pin.{Pin}
use Rattle.pin_nets.specs.Levels.{reads}
use Rattle.pin_nets.specs.Wired.{Net, has_port_bit}
use Rattle.board_model.specs.Cells.{Member}
use Rattle.board_model.specs.Following.{IsAmong}
use Rattle.board_model.specs.Nets.{level_under, net_of, pin_drive}
use Rattle.board_faults.specs.declared.together.Driven.{Driven}
use Rattle.board_faults.specs.Faults.{with_way}
use Rattle.board_faults.specs.Together.{unlike}
use Rattle.fault_events.specs.declared.notes.Spot.{Spot}
use Rattle.fault_events.specs.Events.{first_other, reads_other}
use Rattle.fault_events.specs.Notes.{NotesTellOfWays, earlier, first_differs, first_from, first_pins, note_of, second_differs, second_pins, some_if}
use Rattle.fault_events.specs.Sources.{Source, Fixed, Seen, is_from, sources, taken}
use Rattle.fault_events.proofs.Groups.{Groups, known, made-by, sights}

-- ---- a pin is one of some

among-has : (ps : List Pin) (q : Pin) → IsAmong q ps → has_port_bit q.device q.port ps ≡ true
among-has [] q among = absurd among
among-has (p ∷ ps) q (inl e) =
    ap (λ (b : Bool). b || has_port_bit q.device q.port ps)
    (ap₂ (λ (a b : Bool). a && b) (eq-eqb p.device q.device (ap (λ (x : Pin). x.device) e)) (eq-eqb p.port q.port (ap (λ (x : Pin). x.port) e)))
among-has (p ∷ ps) q (inr later) = or-true ((p.device == q.device) && (p.port == q.port)) (has_port_bit q.device q.port ps) (among-has ps q later)
  where
    or-true : (a b : Bool) → b ≡ true → (a || b) ≡ true
    or-true true b e = refl
    or-true false b e = e

has-among : (ps : List Pin) (q : Pin) → has_port_bit q.device q.port ps ≡ true → IsAmong q ps
has-among [] q e = absurd (false≢true e)
has-among (p ∷ ps) q e = by ((p.device == q.device) && (p.port == q.port)) refl e (has-among ps q)
  where
    by : (b : Bool) → ((p.device == q.device) && (p.port == q.port)) ≡ b → (b || has_port_bit q.device q.port ps) ≡ true
        → (has_port_bit q.device q.port ps ≡ true → IsAmong q ps) → IsAmong q (p ∷ ps)
    by true is h rest =
        let both = and_parts (p.device == q.device) (p.port == q.port) is in
        let device : p.device ≡ q.device = eqb-true p.device q.device both.0 in
        let port : p.port ≡ q.port = eqb-true p.port q.port both.1 in
        inl (λ i. record { device = device i; port = port i })
    by false is h rest = inr (rest h)

-- ---- which bits are others

unlike-same : (b : Bool) → unlike b b ≡ false
unlike-same true = refl
unlike-same false = refl

-- what is so of each of two groups, and of nothing else
of-groups : (u b1 b2 o1 o2 : Bool) → (b1 ≡ true → u ≡ o1) → (b2 ≡ true → u ≡ o2) → (b1 ≡ false → b2 ≡ false → u ≡ false)
    → u ≡ ((b1 && o1) || (b2 && o2))
of-groups u true true o1 o2 one two none = same u ∙ ap₂ (λ (a b : Bool). a || b) (one refl) (two refl)
  where
    same : (u : Bool) → u ≡ (u || u)
    same true = refl
    same false = refl
of-groups u true false o1 o2 one two none = one refl ∙ or-none o1
  where
    or-none : (b : Bool) → b ≡ (b || false)
    or-none true = refl
    or-none false = refl
of-groups u false true o1 o2 one two none = two refl
of-groups u false false o1 o2 one two none = none refl refl

module _ (nets faulty : List Net) (ps qs : List Pin) (b1 a1 b2 a2 : Driven → Driven → Bool) (groups : Groups nets faulty ps qs b1 a1 b2 a2) (ms : List Member) where
  abbrev f : Driven
  f = made-by (pin_drive ms) ps

  abbrev g : Driven
  g = made-by (pin_drive ms) qs

  -- whether a source is another with the fault
  abbrev other : Source → Bool
  other s = unlike (taken nets ms s) (taken faulty ms s)

  seen-other : (pin : Pin) → other (Seen pin) ≡ ((has_port_bit pin.device pin.port ps && unlike (b1 f g) (a1 f g)) || (has_port_bit pin.device pin.port qs && unlike (b2 f g) (a2 f g)))
  seen-other pin =
      of-groups (other (Seen pin)) (has_port_bit pin.device pin.port ps) (has_port_bit pin.device pin.port qs) (unlike (b1 f g) (a1 f g)) (unlike (b2 f g) (a2 f g))
      (λ h. let on = has-among ps pin h in ap₂ unlike (groups.before1 (pin_drive ms) pin on) (groups.after1 (pin_drive ms) pin on))
      (λ h. let on = has-among qs pin h in ap₂ unlike (groups.before2 (pin_drive ms) pin on) (groups.after2 (pin_drive ms) pin on))
      (none (groups.split pin))
    where
      none : (net_of nets pin.device pin.port ≡ net_of faulty pin.device pin.port) ⊎ (IsAmong pin ps ⊎ IsAmong pin qs)
          → has_port_bit pin.device pin.port ps ≡ false → has_port_bit pin.device pin.port qs ≡ false → other (Seen pin) ≡ false
      none (inl same) h k =
          ap (λ (n : Net). unlike (reads (level_under ms n)) (taken faulty ms (Seen pin))) same ∙ unlike-same (taken faulty ms (Seen pin))
      none (inr (inl on)) h k = absurd (false≢true (sym h ∙ among-has ps pin on))
      none (inr (inr on)) h k = absurd (false≢true (sym k ∙ among-has qs pin on))

  pub source-other : (s : Source) → other s ≡ ((is_from ps s && unlike (b1 f g) (a1 f g)) || (is_from qs s && unlike (b2 f g) (a2 f g)))
  source-other (Fixed b) = unlike-same b
  source-other (Seen pin) = seen-other pin

-- ---- the first of them

abbrev pub named : Spot → Part × ℕ
named s = (s.part, s.bit)

named-if : (b : Bool) (s : Spot) (o : Option Spot) (p : Option (Part × ℕ)) → p ≡ option_map named o
    → (if b then Some (s.part, s.bit) else p) ≡ option_map named (if b then Some s else o)
named-if true s o p e = refl
named-if false s o p e = e

first-named : (is : Source → Bool) (k : ℕ) (v : List VectorBit) (ss : List Source) → first_other is v ss ≡ option_map named (first_from is k v ss)
first-named is k [] ss = refl
first-named is k (v ∷ vs) [] = refl
first-named is k (v ∷ vs) (s ∷ ss) =
    named-if (is_some v.wanted && is s) (record { index = k; part = v.part; bit = v.place }) (first_from is (suc k) vs ss) (first_other is vs ss)
    (first-named is (suc k) vs ss)

-- a bit behind another
abbrev IsFrom : ℕ → Option Spot → Type 0
IsFrom k None = ⊤
IsFrom k (Some s) = k ≤ s.index

from-if : (b : Bool) (k : ℕ) (s : Spot) (o : Option Spot) → s.index ≡ k → IsFrom (suc k) o → IsFrom k (if b then Some s else o)
from-if true k s o e later = omega (arith, e)
from-if false k s None e later = tt
from-if false k s (Some x) e later = omega (arith, later)

first-is-from : (is : Source → Bool) (k : ℕ) (v : List VectorBit) (ss : List Source) → IsFrom k (first_from is k v ss)
first-is-from is k [] ss = tt
first-is-from is k (v ∷ vs) [] = tt
first-is-from is k (v ∷ vs) (s ∷ ss) =
    from-if (is_some v.wanted && is s) k (record { index = k; part = v.part; bit = v.place }) (first_from is (suc k) vs ss) refl (first-is-from is (suc k) vs ss)

same-either : {X : Type 0} (b : Bool) (x : X) → x ≡ (if b then x else x)
same-either true x = refl
same-either false x = refl

before-later : (s : Spot) (o : Option Spot) → IsFrom (suc s.index) o → Some s ≡ earlier (Some s) o
before-later s None later = refl
before-later s (Some x) later = sym (ap (λ (b : Bool). if b then Some x else Some s) (le-ltb x.index s.index (omega (arith, later))))

later-before : (s : Spot) (o : Option Spot) → IsFrom (suc s.index) o → Some s ≡ earlier o (Some s)
later-before s None later = refl
later-before s (Some x) later = sym (ap (λ (b : Bool). if b then Some s else Some x) (lt-ltb s.index x.index later))

earlier-if : (w a b : Bool) (s : Spot) (o p r : Option Spot) → IsFrom (suc s.index) o → IsFrom (suc s.index) p → r ≡ earlier o p
    → (if w && (a || b) then Some s else r) ≡ earlier (if w && a then Some s else o) (if w && b then Some s else p)
earlier-if false a b s o p r from from' e = e
earlier-if true true true s o p r from from' e = same-either (nat_lt s.index s.index) (Some s)
earlier-if true true false s o p r from from' e = before-later s p from'
earlier-if true false true s o p r from from' e = later-before s o from
earlier-if true false false s o p r from from' e = e

pub first_either : (one two : Source → Bool) (k : ℕ) (v : List VectorBit) (ss : List Source)
    → first_from (λ s. one s || two s) k v ss ≡ earlier (first_from one k v ss) (first_from two k v ss)
first_either one two k [] ss = refl
first_either one two k (v ∷ vs) [] = refl
first_either one two k (v ∷ vs) (s ∷ ss) =
    earlier-if (is_some v.wanted) (one s) (two s) (record { index = k; part = v.part; bit = v.place })
    (first_from one (suc k) vs ss) (first_from two (suc k) vs ss) (first_from (λ x. one x || two x) (suc k) vs ss)
    (first-is-from one (suc k) vs ss) (first-is-from two (suc k) vs ss) (first_either one two (suc k) vs ss)

and-true : (b : Bool) → (b && true) ≡ b
and-true true = refl
and-true false = refl

and-false : (b : Bool) → (b && false) ≡ false
and-false true = refl
and-false false = refl

pub first_none : (k : ℕ) (v : List VectorBit) (ss : List Source) → first_from (λ s. false) k v ss ≡ None
first_none k [] ss = refl
first_none k (v ∷ vs) [] = refl
first_none k (v ∷ vs) (s ∷ ss) =
    let spot : Spot = record { index = k; part = v.part; bit = v.place } in
    ap (λ (b : Bool). if b then Some spot else first_from (λ x. false) (suc k) vs ss) (and-false (is_some v.wanted)) ∙ first_none (suc k) vs ss

first-if : (is : Source → Bool) (o : Bool) (k : ℕ) (v : List VectorBit) (ss : List Source) → first_from (λ s. is s && o) k v ss ≡ some_if o (first_from is k v ss)
first-if is true k v ss = ap (λ (t : Source → Bool). first_from t k v ss) (λ i s. and-true (is s) i)
first-if is false k v ss = ap (λ (t : Source → Bool). first_from t k v ss) (λ i s. and-false (is s) i) ∙ first_none k v ss

-- ---- whether one is there

or-four : (a b c d : Bool) → ((a || b) || (c || d)) ≡ ((a || c) || (b || d))
or-four true b c d = refl
or-four false true true d = refl
or-four false true false d = refl
or-four false false c d = refl

pub any_either : (one two : Source → Bool) (ss : List Source) → list_any (λ s. one s || two s) ss ≡ (list_any one ss || list_any two ss)
any_either one two [] = refl
any_either one two (s ∷ ss) = ap (λ (b : Bool). (one s || two s) || b) (any_either one two ss) ∙ or-four (one s) (two s) (list_any one ss) (list_any two ss)

pub any_none : (ss : List Source) → list_any (λ s. false) ss ≡ false
any_none [] = refl
any_none (s ∷ ss) = any_none ss

any-if : (is : Source → Bool) (o : Bool) (ss : List Source) → list_any (λ s. is s && o) ss ≡ (list_any is ss && o)
any-if is true ss = ap (λ (t : Source → Bool). list_any t ss) (λ i s. and-true (is s) i) ∙ sym (and-true (list_any is ss))
any-if is false ss = ap (λ (t : Source → Bool). list_any t ss) (λ i s. and-false (is s) i) ∙ any_none ss ∙ sym (and-false (list_any is ss))

-- ---- the law

pub notes_tell : NotesTellOfWays
notes_tell w may its_way its e same =
    let nets = w.nets in
    let faulty = with_way its_way nets in
    let ms = e.board.members in
    let ps = first_pins nets its_way in
    let qs = second_pins nets its_way in
    let at = sights nets its_way (known w its_way may its) its in
    let one = note_of e ps in
    let two = note_of e qs in
    let o1 = first_differs nets its_way one.made two.made in
    let o2 = second_differs nets its_way one.made two.made in
    let others : (λ (s : Source). reads_other faulty e.board s) ≡ (λ (s : Source). (is_from ps s && o1) || (is_from qs s && o2)) =
    λ i s.
    (ap (λ (ns : List Net). unlike (taken ns ms s) (taken faulty ms s)) same
    ∙ source-other nets faulty ps qs at.b1 at.a1 at.b2 at.a2 at.groups ms s
    ∙ ap₂ (λ (a b : Bool). (is_from ps s && a) || (is_from qs s && b)) (sym (at.one one.made two.made)) (sym (at.two one.made two.made))) i in
    let ss = sources ms in (
      ap (λ (t : Source → Bool). first_other t e.vector ss) others
          ∙ first-named (λ s. (is_from ps s && o1) || (is_from qs s && o2)) 0 e.vector ss
          ∙ ap (option_map named)
          (first_either (λ s. is_from ps s && o1) (λ s. is_from qs s && o2) 0 e.vector ss
          ∙ ap₂ earlier (first-if (is_from ps) o1 0 e.vector ss) (first-if (is_from qs) o2 0 e.vector ss)),
      ap (λ (t : Source → Bool). list_any t (drop (length e.vector) ss)) others
          ∙ any_either (λ s. is_from ps s && o1) (λ s. is_from qs s && o2) (drop (length e.vector) ss)
          ∙ ap₂ (λ (a b : Bool). a || b) (any-if (is_from ps) o1 (drop (length e.vector) ss)) (any-if (is_from qs) o2 (drop (length e.vector) ss)),
    )
