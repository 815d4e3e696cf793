-- The strings of a planned board, wired by tables of port bits.
use Rattle.std.proofs.Common.{◌≡◌, ◌≢◌, ◌<◌, ◌≤◌, ◌+◌, ℕ, zero, suc, Bool, true, false, ◌&&◌, List, [], ◌∷◌, ◌++◌, append_assoc, length, map, take, get_or, set, slice_get, Option, Some, None, option_map, refl, sym, ap, subst, ◌∙◌, arith, ◌⊎◌, inl, inr, ⊎_elim, cond}
use Rattle.std.specs.List.{AllPairs, Contains}
use Rattle.std.proofs.lemmas.Bool.{cases_eq, cases_lt, eqb-true, false≢true}
use Rattle.std.proofs.lemmas.List.{append-nil, get_or-set_other, get_or-set_same, get_or_past, length-set, map-append, map_more, map_push, set_past}
use Rattle.std.proofs.lemmas.List.Elements.{Contains-append_cases, Contains-push_cases}
use Rattle.std.proofs.lemmas.Option.{get_or_from_slice_get, none-some, same_Some, slice_get-get_or, slice_get-map, slice_get_within}
use Rattle.bsdl_device.specs.Driving.{drives}
use Rattle.bsdl_device.specs.declared.Cell.{Cell}
use Rattle.boundary.specs.Cells.{driver_from, is_port}
use Rattle.pin_nets.specs.declared.Follow.{Follow}
use Rattle.pin_nets.specs.declared.Pin.{Pin}
use Rattle.pin_nets.specs.Wired.{Net}
use Rattle.board_plan.specs.AllCellNets.{HaveNets, empty_tables, table_at, with_pin}
use Rattle.board_plan.specs.CellNets.{first_net, net_by}
use Rattle.board_plan.specs.Planned.{IsPinOf, all_pins}
use Rattle.board_plan.specs.Planned as planned
use Rattle.board_plan.proofs.TableLaws.{empty_have}
use Rattle.board_model.specs.Following.{IsAmong, Placed, takes_from}
use Rattle.board_chips.specs.Planning.{CanBeWired, HasPins, HasStringsToWire, HaveNumbers, IsReadyForStrings, at_place, port_at, string_by, strings_from}
use Rattle.board_chips.specs.Strings.{AreStrung, IsStrung, placed_of}
use Rattle.board_chips.specs.declared.strings.WiredString.{WiredString}
use Rattle.board_chips.proofs.BuildLaws.{all_at}

-- ---- numbers of pins

pin_entered : (place : ℕ) (pins : List Pin) (n : ℕ) (old : List (Option ℕ)) (p : Pin) → HasPins place pins n old → slice_get pins n ≡ Some p
    → p.device ≡ place → p.port < length old → HasPins place pins (n + 1) (set old p.port (Some n))
pin_entered place pins n old p has at here inside = record { only = only; all = all }
  where
    new : List (Option ℕ)
    new = set old p.port (Some n)

    only : (port k : ℕ) → get_or new port None ≡ Some k → slice_get pins k ≡ Some (record { device = place; port = port })
    only port k e = ⊎_elim
        (λ (same : port ≡ p.port).
        let number : n ≡ k = same_Some n k (sym (get_or-set_same old p.port (Some n) None inside) ∙ sym (ap (λ (i : ℕ). get_or new i None) same) ∙ e) in
        let pin : p ≡ record { device = place; port = port } = λ i. record { device = here i; port = sym same i } in
        sym (ap (slice_get pins) number) ∙ at ∙ ap Some pin)
        (λ (other : port ≢ p.port). has.only port k (sym (get_or-set_other old p.port port (Some n) None other) ∙ e))
        (cases_eq port p.port)

    all : (k port : ℕ) → k < n + 1 → slice_get pins k ≡ Some (record { device = place; port = port }) → port < length new
        → (j : ℕ) × (get_or new port None ≡ Some j)
    all k port below there within = ⊎_elim
        (λ (same : port ≡ p.port). (n, ap (λ (i : ℕ). get_or new i None) same ∙ get_or-set_same old p.port (Some n) None inside))
        (λ (other : port ≢ p.port).
        let not-last : k ≡ n → ⊥ = λ e. other (sym (ap (λ (q : Pin). q.port) (same_Some p (record { device = place; port = port }) (sym at ∙ ap (slice_get pins) (sym e) ∙ there)))) in
        let kept = get_or-set_other old p.port port (Some n) None other in
        let found = has.all k port (omega (arith, below, not-last)) there (omega (arith, within, length-set-is)) in
        (found.0, kept ∙ found.1))
        (cases_eq port p.port)
      where
        length-set-is : length new ≡ length old
        length-set-is = length-set old p.port (Some n)

pin_passed : (place : ℕ) (pins : List Pin) (n : ℕ) (old : List (Option ℕ)) (p : Pin) → HasPins place pins n old → slice_get pins n ≡ Some p
    → (p.device ≡ place → p.port < length old → ⊥) → HasPins place pins (n + 1) old
pin_passed place pins n old p has at none = record {
  only = has.only;
  all = λ k port below there within.
      let not-last : k ≡ n → ⊥ = λ e.
      let is = same_Some p (record { device = place; port = port }) (sym at ∙ ap (slice_get pins) (sym e) ∙ there) in
      none (ap (λ (q : Pin). q.device) is) (omega (arith, within, ap (λ (q : Pin). q.port) is)) in
      has.all k port (omega (arith, below, not-last)) there within;
}

-- no number is entered
pub no_numbers : (members : List planned.Member) (pins : List Pin) (tables : List (List (Option ℕ))) → tables ≡ empty_tables members → HaveNumbers members pins 0 tables
no_numbers members pins tables is =
    let have = empty_have members 0 tables is in
    record {
      long = have.long;
      ports = have.ports;
      each = λ place. record {
        only = λ port k e. absurd (none-some k (sym (nothing place port (cases_lt port (length (table_at tables place))) have) ∙ e));
        all = λ k port below at inside. absurd (omega (arith, below));
      };
    }
  where
    nothing : (place port : ℕ) → (port < length (table_at tables place)) ⊎ (length (table_at tables place) ≤ port) → HaveNets 0 members [] tables
        → get_or (table_at tables place) port None ≡ None
    nothing place port (inl h) have = have.each place port h
    nothing place port (inr h) have = get_or_past (table_at tables place) port None h

-- one more number
pub number_entered : (members : List planned.Member) (pins : List Pin) (n : ℕ) (p : Pin) (old new : List (List (Option ℕ))) → HaveNumbers members pins n old → slice_get pins n ≡ Some p
    → new ≡ with_pin n p old → HaveNumbers members pins (n + 1) new
number_entered members pins n p old new has at is = subst (HaveNumbers members pins (n + 1)) (sym is) (record {
  long = length-set old p.device put ∙ has.long;
  ports = λ place m stands. (each place).0 ∙ has.ports place m stands;
  each = λ place. (each place).1;
})
  where
    put : List (Option ℕ)
    put = set (table_at old p.device) p.port (Some n)

    here : (place : ℕ) → place ≡ p.device → (p.port < length (table_at old p.device)) ⊎ (length (table_at old p.device) ≤ p.port)
        → (length put ≡ length (table_at old place)) × HasPins place pins (n + 1) put
    here place same (inl inside) = (
      length-set (table_at old p.device) p.port (Some n) ∙ ap (λ (i : ℕ). length (table_at old i)) (sym same),
      subst (λ (i : ℕ). HasPins i pins (n + 1) put) (sym same) (pin_entered p.device pins n (table_at old p.device) p (has.each p.device) at refl inside),
    )
    here place same (inr past) = (
      length-set (table_at old p.device) p.port (Some n) ∙ ap (λ (i : ℕ). length (table_at old i)) (sym same),
      subst (λ (i : ℕ). HasPins i pins (n + 1) put) (sym same)
          (subst (HasPins p.device pins (n + 1)) (sym (set_past (table_at old p.device) p.port (Some n) past))
          (pin_passed p.device pins n (table_at old p.device) p (has.each p.device) at (λ e below. omega (arith, below, past)))),
    )

    by : (place : ℕ) → (place ≡ p.device) ⊎ (place ≡ p.device → ⊥) → (p.device < length old) ⊎ (length old ≤ p.device)
        → (length (table_at (with_pin n p old) place) ≡ length (table_at old place)) × HasPins place pins (n + 1) (table_at (with_pin n p old) place)
    by place (inl same) (inl inside) =
        let now : table_at (with_pin n p old) place ≡ put = ap (table_at (with_pin n p old)) same ∙ get_or-set_same old p.device put [] inside in
        subst (λ (t : List (Option ℕ)). (length t ≡ length (table_at old place)) × HasPins place pins (n + 1) t) (sym now)
        (here place same (cases_lt p.port (length (table_at old p.device))))
    by place (inl same) (inr past) =
        let now : table_at (with_pin n p old) place ≡ table_at old place = ap (λ (ts : List (List (Option ℕ))). table_at ts place) (set_past old p.device put past) in
        let none : table_at old place ≡ [] = get_or_past old place [] (omega (arith, past, same)) in
        subst (λ (t : List (Option ℕ)). (length t ≡ length (table_at old place)) × HasPins place pins (n + 1) t) (sym now) (
          refl,
          pin_passed place pins n (table_at old place) p (has.each place) at
              (λ e below. omega (arith, below, ap length none)),
        )
    by place (inr other) _ =
        let now : table_at (with_pin n p old) place ≡ table_at old place = get_or-set_other old p.device place put [] other in
        subst (λ (t : List (Option ℕ)). (length t ≡ length (table_at old place)) × HasPins place pins (n + 1) t) (sym now)
        (refl, pin_passed place pins n (table_at old place) p (has.each place) at (λ e below. other (sym e)))

    each : (place : ℕ) → (length (table_at (with_pin n p old) place) ≡ length (table_at old place)) × HasPins place pins (n + 1) (table_at (with_pin n p old) place)
    each place = by place (cases_eq place p.device) (cases_lt p.device (length old))

-- where none stands twice, a pin has one number
pub one_number : (pins : List Pin) → AllPairs (λ (p q : Pin). p ≢ q) pins → (i j : ℕ) (p : Pin) → slice_get pins i ≡ Some p → slice_get pins j ≡ Some p → i ≡ j
one_number pins apart i j p at there = by (cases_lt i j) (cases_lt j i)
  where
    same : get_or pins i p ≡ get_or pins j p
    same = get_or_from_slice_get pins i p p at ∙ sym (get_or_from_slice_get pins j p p there)

    by : (i < j) ⊎ (j ≤ i) → (j < i) ⊎ (i ≤ j) → i ≡ j
    by (inl low) other = absurd (apart i j p low (slice_get_within pins j p there) same)
    by (inr high) (inl low) = absurd (apart j i p low (slice_get_within pins i p at) (sym same))
    by (inr high) (inr low) = omega (arith, high, low)

-- ---- the port bit of a driving cell

port-is : (p : ℕ) (o : Option ℕ) → is_port p o ≡ true → o ≡ Some p
port-is p None h = absurd (false≢true h)
port-is p (Some q) h = ap Some (sym (eqb-true p q h))

and-second : (a b : Bool) → (a && b) ≡ true → b ≡ true
and-second true b h = h
and-second false b h = absurd (false≢true h)

drives-at : (p k : ℕ) (cells : List Cell) (j : ℕ) → driver_from p k cells ≡ Some j → (i : ℕ) × (j ≡ k + i) × (port_at cells i ≡ Some p)
drives-at p k [] j e = absurd (none-some j e)
drives-at p k (c ∷ cs) j e = by (drives c.function && is_port p c.port) refl e (drives-at p (suc k) cs j)
  where
    by : (b : Bool) → (drives c.function && is_port p c.port) ≡ b → cond b (Some k) (driver_from p (suc k) cs) ≡ Some j
        → (driver_from p (suc k) cs ≡ Some j → (i : ℕ) × (j ≡ suc k + i) × (port_at cs i ≡ Some p)) → (i : ℕ) × (j ≡ k + i) × (port_at (c ∷ cs) i ≡ Some p)
    by true is e more =
        let here : j ≡ k + 0 = omega (arith, same_Some k j e) in
        (0, here, port-is p c.port (and-second (drives c.function) (is_port p c.port) is))
    by false is e more =
        let (i, at, port) = more e in
        let there : j ≡ k + suc i = omega (arith, at) in
        (suc i, there, port)

pub port_of_driver : (p : ℕ) (cells : List Cell) (j : ℕ) → driver_from p 0 cells ≡ Some j → port_at cells j ≡ Some p
port_of_driver p cells j e =
    let (i, at, port) = drives-at p 0 cells j e in
    let same : j ≡ i = omega (arith, at) in
    ap (port_at cells) same ∙ port

-- ---- one string

module _ (w : planned.Wiring) (ready : IsReadyForStrings w) (place : ℕ) (m : planned.Member) (stands : slice_get w.members place ≡ Some m) (nets pins : List (Option ℕ))
    (nets-long : length nets ≡ length m.device.ports) (nets-are : (p : ℕ) → p < length nets → get_or nets p None ≡ first_net place p 0 w.nets)
    (pins-long : length pins ≡ length m.device.ports) (has : HasPins place (all_pins w.nets) (length (all_pins w.nets)) pins) where
  abbrev cells : List Cell
  cells = m.device.cells

  below-ports : (p : Pin) (k : ℕ) → slice_get (all_pins w.nets) k ≡ Some p → p.device ≡ place → p.port < length pins
  below-ports p k at here =
      let its = all_at (IsPinOf w.members) (all_pins w.nets) k p ready.pins at in
      let owner : its.0 ≡ m = same_Some its.0 m (sym its.1 ∙ ap (slice_get w.members) here ∙ stands) in
      omega (arith, its.2, ap (λ (x : planned.Member). length x.device.ports) owner, pins-long)

  pin-of : (f : Follow) → CanBeWired m.device f → (k : ℕ) (p : Pin) → slice_get (all_pins w.nets) k ≡ Some p → p.device ≡ place
      → takes_from p.port f.cell 0 cells ≡ true → net_by pins (port_at cells f.cell) ≡ Some k
  pin-of f can k p at here takes =
      let pin : p ≡ record { device = place; port = p.port } = λ i. record { device = here i; port = p.port } in
      let there : slice_get (all_pins w.nets) k ≡ Some (record { device = place; port = p.port }) = at ∙ ap Some pin in
      let found = has.all k p.port (slice_get_within (all_pins w.nets) k p at) there (below-ports p k at here) in
      let number : found.0 ≡ k =
      one_number (all_pins w.nets) ready.apart found.0 k (record { device = place; port = p.port }) (has.only p.port found.0 found.1) there in
      ap (net_by pins) (port_of_driver p.port cells f.cell (can.alone p.port takes)) ∙ found.1 ∙ ap Some number

  number-inside : (o : Option ℕ) (k : ℕ) → net_by pins o ≡ Some k → k < length (all_pins w.nets)
  number-inside None k e = absurd (none-some k e)
  number-inside (Some p) k e = slice_get_within (all_pins w.nets) k (record { device = place; port = p }) (has.only p k e)

  strung-one : (f : Follow) → CanBeWired m.device f → IsStrung w.nets (map (λ (x : planned.Member). x.device.cells) w.members) (string_by place cells nets pins f)
  strung-one f can = record {
    mine = cells;
    stands = slice_get-map (λ (x : planned.Member). x.device.cells) w.members place ∙ ap (option_map (λ (x : planned.Member). x.device.cells)) stands;
    there = can.cell;
    net = nets-are f.source (omega (arith, can.source, nets-long));
    inside = λ k e. number-inside (port_at cells f.cell) k e;
    pin = λ k p at here takes. pin-of f can k p at here takes;
  }

  among : (fs : List Follow) (k : ℕ) (f : Follow) → slice_get fs k ≡ Some f → IsAmong f fs
  among [] k f at = absurd (none-some f at)
  among (x ∷ fs) zero f at = inl (same_Some x f at)
  among (x ∷ fs) (suc k) f at = inr (among fs k f at)

  mapped : {A B : Type 0} (g : A → B) (l : List A) (k : ℕ) (b : B) → slice_get (map g l) k ≡ Some b → (a : A) × (slice_get l k ≡ Some a) × (g a ≡ b)
  mapped g [] k b at = absurd (none-some b at)
  mapped g (a ∷ l) zero b at = (a, refl, same_Some (g a) b at)
  mapped g (a ∷ l) (suc k) b at = mapped g l k b at

  pub strung_here : AreStrung w.nets (map (λ (x : planned.Member). x.device.cells) w.members) (map (string_by place cells nets pins) m.follows)
  strung_here s has-it =
      let l = map (string_by place cells nets pins) m.follows in
      let at : slice_get l has-it.0 ≡ Some s = slice_get-get_or l has-it.0 s has-it.1 ∙ ap Some has-it.2 in
      let its = mapped (string_by place cells nets pins) m.follows has-it.0 s at in
      let can = all_at HasStringsToWire w.members place m ready.strings stands its.0 (among m.follows has-it.0 its.0 its.1) in
      subst (IsStrung w.nets (map (λ (x : planned.Member). x.device.cells) w.members)) its.2 (strung-one its.0 can)

  pub placed_here : (fs : List Follow) → map placed_of (map (string_by place cells nets pins) fs) ≡ map (at_place place) fs
  placed_here [] = refl
  placed_here (f ∷ fs) = ap (λ (l : List Placed). at_place place f ∷ l) (placed_here fs)

-- ---- device after device

strings_more : (k i : ℕ) (ms : List planned.Member) (m : planned.Member) → slice_get ms i ≡ Some m
    → strings_from k (take (i + 1) ms) ≡ strings_from k (take i ms) ++ map (at_place (k + i)) m.follows
strings_more k i [] m at = absurd (none-some m at)
strings_more k zero (x ∷ ms) m at =
    let same : k ≡ k + 0 = omega arith in
    append-nil (map (at_place k) x.follows)
    ∙ (λ i. map (at_place (same i)) (same_Some x m at i).follows)
strings_more k (suc i) (x ∷ ms) m at =
    let next : suc i + 1 ≡ suc (i + 1) = omega arith in
    let place : suc k + i ≡ k + suc i = omega arith in
    let mine = map (at_place k) x.follows in
    let rest = strings_from (suc k) (take i ms) in
    ap (λ (j : ℕ). strings_from k (take j (x ∷ ms))) next
    ∙ ap (λ (l : List Placed). mine ++ l) (strings_more (suc k) i ms m at)
    ∙ sym (append_assoc mine rest (map (at_place (suc k + i)) m.follows))
    ∙ ap (λ (j : ℕ). (mine ++ rest) ++ map (at_place j) m.follows) place

-- the strings of the first so many devices are wired
pub record AreWiredSoFar (w : planned.Wiring) (i : ℕ) (all : List WiredString) : Type 0 where
  pub strung : AreStrung w.nets (map (λ (m : planned.Member). m.device.cells) w.members) all
  pub placed : map placed_of all ≡ strings_from 0 (take i w.members)

pub wired_none : (w : planned.Wiring) → AreWiredSoFar w 0 []
wired_none w = record { strung = λ s has. absurd (omega (arith, has.1)); placed = refl }

pub wired_more : (w : planned.Wiring) (tables numbers : List (List (Option ℕ))) (i : ℕ) (m : planned.Member) (all new : List WiredString) (nets pins : List (Option ℕ)) (cells : List Cell) (strings : List Follow)
    → IsReadyForStrings w → HaveNets 0 w.members w.nets tables → HaveNumbers w.members (all_pins w.nets) (length (all_pins w.nets)) numbers
    → slice_get w.members i ≡ Some m → AreWiredSoFar w i all → nets ≡ table_at tables i → pins ≡ table_at numbers i → cells ≡ m.device.cells → strings ≡ m.follows
    → new ≡ all ++ map (string_by i cells nets pins) strings → AreWiredSoFar w (i + 1) new
wired_more w tables numbers i m all new nets pins cells strings ready have numbered at so_far is_table is_numbers is_cells is_strings e =
    let long : length pins ≡ length m.device.ports = ap length is_numbers ∙ numbered.ports i m at in
    let has : HasPins i (all_pins w.nets) (length (all_pins w.nets)) pins =
    subst (HasPins i (all_pins w.nets) (length (all_pins w.nets))) (sym is_numbers) (numbered.each i) in
    let nets-long : length nets ≡ length m.device.ports = ap length is_table ∙ have.ports i m at in
    let nets-are : (p : ℕ) → p < length nets → get_or nets p None ≡ first_net i p 0 w.nets =
    subst (λ (t : List (Option ℕ)). (p : ℕ) → p < length t → get_or t p None ≡ first_net i p 0 w.nets) (sym is_table) (have.each i) in
    let mine = map (string_by i m.device.cells nets pins) m.follows in
    let own : map (string_by i cells nets pins) strings ≡ mine = λ j. map (string_by i (is_cells j) nets pins) (is_strings j) in
    let whole : new ≡ all ++ mine = e ∙ ap (λ (l : List WiredString). all ++ l) own in
    let same : i ≡ 0 + i = omega arith in
    let its-cells = map (λ (x : planned.Member). x.device.cells) w.members in
    record {
      strung = subst (AreStrung w.nets its-cells) (sym whole) (λ s among. ⊎_elim
          (λ (old : Contains all s). so_far.strung s old)
          (λ (now : Contains mine s). strung_here w ready i m at nets pins nets-long nets-are long has s now)
          (Contains-append_cases all mine s among));
      placed =
          ap (map placed_of) whole
          ∙ map-append placed_of all mine
          ∙ ap (λ (l : List Placed). l ++ map placed_of mine) so_far.placed
          ∙ ap (λ (l : List Placed). strings_from 0 (take i w.members) ++ l) (placed_here w ready i m at nets pins nets-long nets-are long has m.follows)
          ∙ ap (λ (j : ℕ). strings_from 0 (take i w.members) ++ map (at_place j) m.follows) same
          ∙ sym (strings_more 0 i w.members m at);
    }

-- ---- some of them, in an order

pub picked_more : {A B : Type 0} (f : A → B) (all : List A) (from : List B) (order : List ℕ) (i : ℕ) (out new : List A) (x : A) → i < length order
    → map f all ≡ from → slice_get all (get_or order i 0) ≡ Some x → new ≡ out ++ x ∷ []
    → map (λ (a : A). Some (f a)) out ≡ map (slice_get from) (take i order) → map (λ (a : A). Some (f a)) new ≡ map (slice_get from) (take (i + 1) order)
picked_more {A} {B} f all from order i out new x inside are at e so_far =
    let place = get_or order i 0 in
    let there : slice_get from place ≡ Some (f x) = sym (ap (λ (l : List B). slice_get l place) are) ∙ slice_get-map f all place ∙ ap (option_map f) at in
    ap (map (λ (a : A). Some (f a))) e
    ∙ map_push (λ (a : A). Some (f a)) out x
    ∙ ap (λ (l : List (Option B)). l ++ Some (f x) ∷ []) so_far
    ∙ ap (λ (o : Option B). map (slice_get from) (take i order) ++ o ∷ []) (sym there)
    ∙ sym (map_more (slice_get from) order i 0 inside)

pub strung_more : (nets : List Net) (cells : List (List Cell)) (out new all : List WiredString) (x : WiredString) (k : ℕ) → AreStrung nets cells all → slice_get all k ≡ Some x
    → new ≡ out ++ x ∷ [] → AreStrung nets cells out → AreStrung nets cells new
strung_more nets cells out new all x k strung at e so_far =
    subst (AreStrung nets cells) (sym e) (λ s among. ⊎_elim
    (λ (old : Contains out s). so_far s old)
    (λ (same : x ≡ s). subst (IsStrung nets cells) same (strung x (k, slice_get_within all k x at, get_or_from_slice_get all k x x at)))
    (Contains-push_cases out x s among))

-- one more string of a device
pub appended : {A B : Type 0} (f : A → B) (xs : List A) (i : ℕ) (d : A) (old ys new : List B) (y : B) → i < length xs → ys ≡ old ++ map f (take i xs) → y ≡ f (get_or xs i d)
    → new ≡ ys ++ y ∷ [] → new ≡ old ++ map f (take (i + 1) xs)
appended {A} {B} f xs i d old ys new y inside are is e =
    e ∙ ap (λ (l : List B). l ++ y ∷ []) are ∙ ap (λ (z : B). (old ++ map f (take i xs)) ++ z ∷ []) is
    ∙ append_assoc old (map f (take i xs)) (f (get_or xs i d) ∷ []) ∙ ap (λ (l : List B). old ++ l) (sym (map_more f xs i d inside))
