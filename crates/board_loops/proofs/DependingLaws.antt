-- Strings as dependencies between nets, by tables of the nets of port bits.
use Rattle.std.proofs.Common.{◌≡◌, ◌<◌, ℕ, zero, suc, ◌+◌, nat_lt, Bool, true, false, ◌&&◌, ◌||◌, cond, List, [], ◌∷◌, ◌++◌, append_assoc, length, map, take, get_or, slice_get, Option, Some, None, option_and_then, unwrap_or, refl, sym, ap, subst, ◌∙◌, arith}
use Rattle.std.specs.List.{AllByRecursion, list_any}
use Rattle.std.proofs.lemmas.Bool.{false≢true, eqb-true, ltb-false}
use Rattle.std.proofs.lemmas.List.{append-nil, map_more}
use Rattle.std.proofs.lemmas.Option.{none-some, same_Some}
use Rattle.bsdl_device.specs.Driving.{drives}
use Rattle.bsdl_device.specs.declared.Cell.{Cell}
use Rattle.board_parts.specs.Cells.{driver_from, is_port}
use Rattle.board_loops.specs.Loops.{IsOnLoop}
use Rattle.board_loops.specs.declared.net_loops.Dependency.{Dependency}
use Rattle.board_plan.specs.AllCellNets.{HaveNets, table_at}
use Rattle.board_plan.specs.CellNets.{first_net}
use Rattle.board_plan.specs.Planned.{Member, Wiring}
use Rattle.board_plan.specs.View.{member as planned_member}
use Rattle.pin_nets.specs.declared.Follow.{Follow}
use Rattle.board_plan.specs.declared.plan.PlannedDevice.{PlannedDevice}
use Rattle.board_parts.specs.Strings.{HasStrings, IsStringOf}
use Rattle.board_loops.specs.Depending.{NoLoopWithoutStrings, dependencies, dependencies_from, dependency, dependency_by, net_number, number_by, port_of, ports_before}

-- ---- the port bit of a driving cell

port_is : (p : ℕ) (o : Option ℕ) → is_port p o ≡ true → o ≡ Some p
port_is p None h = absurd (false≢true h)
port_is p (Some q) h = ap Some (sym (eqb-true p q h))

and_second : (a b : Bool) → a && b ≡ true → b ≡ true
and_second true b h = h
and_second false b h = absurd (false≢true h)

drives_at : (p k : ℕ) (cells : List Cell) (j : ℕ) → driver_from p k cells ≡ Some j → (i : ℕ) × (j ≡ k + i) × (port_of cells i ≡ p)
drives_at p k [] j e = absurd (none-some j e)
drives_at p k (c ∷ cs) j e = by (drives c.function && is_port p c.port) refl e (drives_at p (suc k) cs j)
  where
    by : (b : Bool) → (drives c.function && is_port p c.port) ≡ b → cond b (Some k) (driver_from p (suc k) cs) ≡ Some j
        → (driver_from p (suc k) cs ≡ Some j → (i : ℕ) × (j ≡ suc k + i) × (port_of cs i ≡ p)) → (i : ℕ) × (j ≡ k + i) × (port_of (c ∷ cs) i ≡ p)
    by true is e more =
        let here : j ≡ k + 0 = omega (arith, same_Some k j e) in
        (0, here, ap (λ (o : Option ℕ). unwrap_or o 0) (port_is p c.port (and_second (drives c.function) (is_port p c.port) is)))
    by false is e more =
        let (i, at, port) = more e in
        let there : j ≡ k + suc i = omega (arith, at) in
        (suc i, there, port)

pub port_of_driver : (p : ℕ) (cells : List Cell) (j : ℕ) → driver_from p 0 cells ≡ Some j → port_of cells j ≡ p
port_of_driver p cells j e =
    let (i, at, port) = drives_at p 0 cells j e in
    let same : j ≡ i = omega (arith, at) in
    ap (port_of cells) same ∙ port

-- ---- numbers of nets

ports_more : (ms : List Member) (i : ℕ) (m : Member) → slice_get ms i ≡ Some m → ports_before (i + 1) ms ≡ ports_before i ms + length m.device.ports
ports_more [] i m at = absurd (none-some m at)
ports_more (x ∷ ms) zero m at =
    let one : ports_before (zero + 1) (x ∷ ms) ≡ length x.device.ports + 0 = refl in
    let same : length x.device.ports ≡ length m.device.ports = ap (λ (y : Member). length y.device.ports) (same_Some x m at) in
    let sum : length x.device.ports + 0 ≡ 0 + length m.device.ports = omega (arith, same) in
    one ∙ sum
ports_more (x ∷ ms) (suc i) m at =
    let next : suc i + 1 ≡ suc (i + 1) = omega arith in
    let sum : length x.device.ports + ports_before (i + 1) ms ≡ (length x.device.ports + ports_before i ms) + length m.device.ports = omega (arith, ports_more ms i m at) in
    ap (λ (j : ℕ). ports_before j (x ∷ ms)) next ∙ sum

-- ---- the strings of one device, by a table

module _ (w : Wiring) (place : ℕ) (m : Member) (table : List (Option ℕ)) (first : ℕ) (long : length table ≡ length m.device.ports)
    (nets_are : (p : ℕ) → p < length table → get_or table p None ≡ first_net place p 0 w.nets) (first_is : first ≡ length w.nets + ports_before place w.members) where
  number_is : (p : ℕ) → p < length m.device.ports → number_by table first p ≡ net_number w place p
  number_is p below =
      let inside : p < length table = omega (arith, below, long) in
      λ i. unwrap_or (nets_are p inside i) (first_is i + p)

  target_below : (f : Follow) → IsStringOf m.device f → port_of m.device.cells f.cell < length m.device.ports
  target_below f fits = subst (λ (p : ℕ). p < length m.device.ports) (sym (port_of_driver fits.target m.device.cells f.cell fits.drives)) fits.inside

  one_is : (f : Follow) → IsStringOf m.device f → dependency_by table first m.device.cells f ≡ dependency w place m.device.cells f
  one_is f fits =
      let target = number_is (port_of m.device.cells f.cell) (target_below f fits) in
      let source = number_is f.source fits.source in
      λ i. record { target = target i; source = source i }

  all_are : (fs : List Follow) → AllByRecursion (IsStringOf m.device) fs → map (dependency_by table first m.device.cells) fs ≡ map (dependency w place m.device.cells) fs
  all_are [] h = refl
  all_are (f ∷ fs) h =
      let one = one_is f h.0 in
      let rest = all_are fs h.1 in
      λ i. one i ∷ rest i

-- ---- device after device

strings_more : (w : Wiring) (k i : ℕ) (ms : List Member) (m : Member) → slice_get ms i ≡ Some m
    → dependencies_from w k (take (i + 1) ms) ≡ dependencies_from w k (take i ms) ++ map (dependency w (k + i) m.device.cells) m.follows
strings_more w k i [] m at = absurd (none-some m at)
strings_more w k zero (x ∷ ms) m at =
    let same : k ≡ k + 0 = omega arith in
    append-nil (map (dependency w k x.device.cells) x.follows)
    ∙ (λ i. map (dependency w (same i) (same_Some x m at i).device.cells) (same_Some x m at i).follows)
strings_more w k (suc i) (x ∷ ms) m at =
    let next : suc i + 1 ≡ suc (i + 1) = omega arith in
    let place : suc k + i ≡ k + suc i = omega arith in
    let mine = map (dependency w k x.device.cells) x.follows in
    let rest = dependencies_from w (suc k) (take i ms) in
    ap (λ (j : ℕ). dependencies_from w k (take j (x ∷ ms))) next
    ∙ ap (λ (l : List Dependency). mine ++ l) (strings_more w (suc k) i ms m at)
    ∙ sym (append_assoc mine rest (map (dependency w (suc k + i) m.device.cells) m.follows))
    ∙ ap (λ (j : ℕ). (mine ++ rest) ++ map (dependency w j m.device.cells) m.follows) place

each_at : {A : Type 0} (P : A → Type 0) (xs : List A) (i : ℕ) (x : A) → AllByRecursion P xs → slice_get xs i ≡ Some x → P x
each_at P [] i x all at = absurd (none-some x at)
each_at P (y ∷ ys) zero x all at = subst P (same_Some y x at) all.0
each_at P (y ∷ ys) (suc i) x all at = each_at P ys i x all.1 at

-- the strings of the first so many devices, and the number behind those of their port bits
pub record IsGathered (w : Wiring) (place : ℕ) (all : List Dependency) (first : ℕ) : Type 0 where
  pub strings : all ≡ dependencies_from w 0 (take place w.members)
  pub number : first ≡ length w.nets + ports_before place w.members

pub gathered_none : (w : Wiring) → IsGathered w 0 [] (length w.nets)
gathered_none w =
    let none : length w.nets ≡ length w.nets + 0 = omega arith in
    record { strings = refl; number = none }

pub gathered_more : (w : Wiring) (tables : List (List (Option ℕ))) (i : ℕ) (m : Member) (all new : List Dependency) (table : List (Option ℕ)) (cells : List Cell) (strings : List Follow) (first next : ℕ)
    → HaveNets 0 w.members w.nets tables → AllByRecursion HasStrings w.members → slice_get w.members i ≡ Some m → IsGathered w i all first
    → table ≡ table_at tables i → cells ≡ m.device.cells → strings ≡ m.follows
    → new ≡ all ++ map (dependency_by table first cells) strings → next ≡ first + length m.device.ports → IsGathered w (i + 1) new next
gathered_more w tables i m all new table cells strings first next have fit at so_far is_table is_cells is_strings e more =
    let fits : HasStrings m = each_at HasStrings w.members i m fit at in
    let long : length table ≡ length m.device.ports = ap length is_table ∙ have.ports i m at in
    let nets : (p : ℕ) → p < length table → get_or table p None ≡ first_net i p 0 w.nets =
    subst (λ (t : List (Option ℕ)). (p : ℕ) → p < length t → get_or t p None ≡ first_net i p 0 w.nets) (sym is_table) (have.each i) in
    let mine = map (dependency w i m.device.cells) m.follows in
    let own : map (dependency_by table first cells) strings ≡ mine =
    (λ j. map (dependency_by table first (is_cells j)) (is_strings j)) ∙ all_are w i m table first long nets so_far.number m.follows fits.each in
    let whole : new ≡ all ++ mine = e ∙ ap (λ (l : List Dependency). all ++ l) own in
    let same : i ≡ 0 + i = omega arith in
    record {
      strings =
          whole ∙ ap (λ (l : List Dependency). l ++ mine) so_far.strings
          ∙ ap (λ (j : ℕ). dependencies_from w 0 (take i w.members) ++ map (dependency w j m.device.cells) m.follows) same
          ∙ sym (strings_more w 0 i w.members m at);
      number = omega (arith, more, so_far.number, ports_more w.members i m at);
    }

-- one more string of a device
pub appended : {A B : Type 0} (f : A → B) (xs : List A) (i : ℕ) (d : A) (old ys new : List B) (y : B) → i < length xs → ys ≡ old ++ map f (take i xs) → y ≡ f (get_or xs i d)
    → new ≡ ys ++ y ∷ [] → new ≡ old ++ map f (take (i + 1) xs)
appended {A} {B} f xs i d old ys new y inside are is e =
    e ∙ ap (λ (l : List B). l ++ y ∷ []) are ∙ ap (λ (z : B). (old ++ map f (take i xs)) ++ z ∷ []) is
    ∙ append_assoc old (map f (take i xs)) (f (get_or xs i d) ∷ []) ∙ ap (λ (l : List B). old ++ l) (sym (map_more f xs i d inside))

-- ---- no strings

nothing : (fs : List Follow) → nat_lt 0 (length fs) ≡ false → fs ≡ []
nothing [] h = refl
nothing (f ∷ fs) h = let none = ltb-false 0 (suc (length fs)) h in absurd (omega (arith, none))

pub none_there : (w : Wiring) (k : ℕ) (devices : List PlannedDevice) → list_any (λ (d : PlannedDevice). nat_lt 0 (length d.follows.items)) devices ≡ false
    → dependencies_from w k (map planned_member devices) ≡ []
none_there w k [] h = refl
none_there w k (d ∷ ds) h = by (nat_lt 0 (length d.follows.items)) refl h (λ rest. none_there w (suc k) ds rest)
  where
    by : (b : Bool) → nat_lt 0 (length d.follows.items) ≡ b → b || list_any (λ (x : PlannedDevice). nat_lt 0 (length x.follows.items)) ds ≡ false
        → (list_any (λ (x : PlannedDevice). nat_lt 0 (length x.follows.items)) ds ≡ false → dependencies_from w (suc k) (map planned_member ds) ≡ [])
        → dependencies_from w k (planned_member d ∷ map planned_member ds) ≡ []
    by true e h rest = absurd (false≢true (sym h))
    by false e h rest =
        ap (λ (fs : List Follow). map (dependency w k d.device.cells) fs ++ dependencies_from w (suc k) (map planned_member ds)) (nothing d.follows.items e)
        ∙ rest h

plain_from : (w : Wiring) (k : ℕ) (ms : List Member) → AllByRecursion (λ (m : Member). m.follows ≡ []) ms → dependencies_from w k ms ≡ []
plain_from w k [] h = refl
plain_from w k (m ∷ ms) h =
    ap (λ (fs : List Follow). map (dependency w k m.device.cells) fs ++ dependencies_from w (suc k) ms) h.0 ∙ plain_from w (suc k) ms h.1

pub no_loop : NoLoopWithoutStrings
no_loop w plain place loop =
    let none : dependencies w ≡ [] = plain_from w 0 w.members plain in
    none-some loop.string (sym (ap (λ (l : List Dependency). slice_get l place) none) ∙ loop.stands)
