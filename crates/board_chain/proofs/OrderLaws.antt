-- An order of work by the numbers of nets is one by the meaning of the board.
use Rattle.std.proofs.Common.{◌≡◌, ◌<◌, ◌≤◌, ◌+◌, ℕ, zero, suc, Bool, true, false, ◌||◌, ◌==◌, List, [], ◌∷◌, ◌++◌, length, map, get_or, slice_get, Option, Some, None, option_map, option_and_then, unwrap_or, All, refl, sym, ap, subst, ◌∙◌, arith, ◌⊎◌, inl, inr}
use Rattle.std.specs.List.{AllByRecursion}
use Rattle.std.proofs.lemmas.Bool.{eq-eqb, false≢true}
use Rattle.std.proofs.lemmas.List.{length-append, length-map}
use Rattle.std.proofs.lemmas.Option.{none-some, same_Some, slice_get-get_or, slice_get-map, slice_get_within}
use Rattle.bsdl_device.specs.declared.Cell.{Cell}
use Rattle.boundary.specs.Cells.{driver_from}
use Rattle.pin_nets.specs.declared.Follow.{Follow}
use Rattle.pin_nets.specs.Wired.{Net}
use Rattle.board_loops.specs.Loops.{IsInOrder as IsWorkOrder, HasNoLoop as HasNoNumberLoop, HasEachOnce}
use Rattle.board_loops.specs.Loops as numbers
use Rattle.board_loops.specs.declared.net_loops.Dependency.{Dependency}
use Rattle.board_loops.proofs.OnceLaws.{each_once}
use Rattle.board_plan.specs.Planned.{HasCore}
use Rattle.board_plan.specs.Planned as planned
use Rattle.board_loops.specs.Strings.{HasStrings, HaveOneEach, IsStringOf, has_cell}
use Rattle.board_loops.specs.Depending.{dependencies, dependencies_from, dependency, net_number, port_of}
use Rattle.board_model.specs.Cells.{Member}
use Rattle.board_model.specs.Following.{AreAll, AreFound, FollowsNoOtherControl, HasNoLoop, InSteps, IsAmong, IsFreeOf, IsInOrder, IsOfBoard, IsOrderOf, Placed, StringBetween, takes_from}
use Rattle.board_model.specs.Nets.{net_of}
use Rattle.board_model.specs.Planned.{members_of, powered_up}
use Rattle.board_model.proofs.Following.{at-place, no_loop, own-net, takes-driver}
use Rattle.board_chips.specs.Planning.{HasStringsToWire, IsReadyForStrings, at_place, strings_from, strings_of}
use Rattle.board_chips.proofs.BuildLaws.{all_at}
use Rattle.board_chips.proofs.PlanningLaws.{port_of_driver}
use Rattle.board_chain.specs.Ready.{IsReady}
use Rattle.board_chain.proofs.NetLaws.{are_found, same_number}

-- ---- lists

pub among_at : {X : Type 0} (l : List X) (x : X) → IsAmong x l → (i : ℕ) × (slice_get l i ≡ Some x)
among_at [] x among = absurd among
among_at (y ∷ l) x (inl e) = (0, ap Some e)
among_at (y ∷ l) x (inr later) = let its = among_at l x later in (suc its.0, its.1)

pub among_from : {X : Type 0} (l : List X) (i : ℕ) (x : X) → slice_get l i ≡ Some x → IsAmong x l
among_from [] i x at = absurd (none-some x at)
among_from (y ∷ l) zero x at = inl (same_Some y x at)
among_from (y ∷ l) (suc i) x at = inr (among_from l i x at)

-- ---- the devices of a plan

module _ (w : planned.Wiring) where
  abbrev ms : List Member
  ms = members_of w

  powered-at : (i : ℕ) (m : planned.Member) → slice_get w.members i ≡ Some m → slice_get ms i ≡ Some (powered_up m)
  powered-at i m at = slice_get-map powered_up w.members i ∙ ap (option_map powered_up) at

  planned-at : (i : ℕ) (m : Member) → slice_get ms i ≡ Some m → (p : planned.Member) × (slice_get w.members i ≡ Some p) × (powered_up p ≡ m)
  planned-at i m at = by (slice_get w.members i) refl (sym (slice_get-map powered_up w.members i) ∙ at)
    where
      by : (o : Option planned.Member) → slice_get w.members i ≡ o → option_map powered_up o ≡ Some m → (p : planned.Member) × (slice_get w.members i ≡ Some p) × (powered_up p ≡ m)
      by None is e = absurd (none-some m e)
      by (Some p) is e = (p, is, same_Some (powered_up p) m e)

-- ---- strings and what depends on what

-- the string at a place among all, of the device m at place + i
record IsStringAt (w : planned.Wiring) (place : ℕ) (members : List planned.Member) (k : ℕ) (s : Placed) : Type 0 where
  i : ℕ
  m : planned.Member
  number : ℕ
  device : s.device ≡ place + i
  stands : slice_get members i ≡ Some m
  among : slice_get m.follows number ≡ Some s.string
  depends : slice_get (dependencies_from w place members) k ≡ Some (dependency w s.device m.device.cells s.string)

module _ (w : planned.Wiring) (place : ℕ) (cells : List Cell) where
  -- it is one of the first list
  record IsOwn (fs : List Follow) (others : List Dependency) (k : ℕ) (s : Placed) : Type 0 where
    f : Follow
    n : ℕ
    there : slice_get fs n ≡ Some f
    is : s ≡ at_place place f
    depends : slice_get (map (dependency w place cells) fs ++ others) k ≡ Some (dependency w place cells f)

  -- it is one of those behind it
  record IsLater (fs : List Follow) (rest : List Placed) (others : List Dependency) (k : ℕ) (s : Placed) : Type 0 where
    j : ℕ
    there : slice_get rest j ≡ Some s
    depends : slice_get (map (dependency w place cells) fs ++ others) k ≡ slice_get others j

  own-or-later : (fs : List Follow) (rest : List Placed) (others : List Dependency) (k : ℕ) (s : Placed) → slice_get (map (at_place place) fs ++ rest) k ≡ Some s
      → IsOwn fs others k s ⊎ IsLater fs rest others k s
  own-or-later [] rest others k s at = inr (record { j = k; there = at; depends = refl })
  own-or-later (f ∷ fs) rest others zero s at = inl (record { f = f; n = 0; there = refl; is = sym (same_Some (at_place place f) s at); depends = refl })
  own-or-later (f ∷ fs) rest others (suc k) s at = by (own-or-later fs rest others k s at)
    where
      by : IsOwn fs others k s ⊎ IsLater fs rest others k s → IsOwn (f ∷ fs) others (suc k) s ⊎ IsLater (f ∷ fs) rest others (suc k) s
      by (inl own) = inl (record { f = own.f; n = suc own.n; there = own.there; is = own.is; depends = own.depends })
      by (inr later) = inr (record { j = later.j; there = later.there; depends = later.depends })

  own-place : (fs : List Follow) (rest : List Placed) (n : ℕ) (f : Follow) → slice_get fs n ≡ Some f → slice_get (map (at_place place) fs ++ rest) n ≡ Some (at_place place f)
  own-place [] rest n f at = absurd (none-some f at)
  own-place (g ∷ fs) rest zero f at = ap (option_map (at_place place)) at
  own-place (g ∷ fs) rest (suc n) f at = own-place fs rest n f at

later-place : (xs ys : List Placed) (j : ℕ) (s : Placed) → slice_get ys j ≡ Some s → slice_get (xs ++ ys) (length xs + j) ≡ Some s
later-place [] ys j s at = let same : zero + j ≡ j = omega arith in ap (slice_get ys) same ∙ at
later-place (x ∷ xs) ys j s at =
    let next : suc (length xs) + j ≡ suc (length xs + j) = omega arith in
    ap (slice_get (x ∷ xs ++ ys)) next ∙ later-place xs ys j s at

string-at : (w : planned.Wiring) (place : ℕ) (members : List planned.Member) (k : ℕ) (s : Placed) → slice_get (strings_from place members) k ≡ Some s
    → IsStringAt w place members k s
string-at w place [] k s at = absurd (none-some s at)
string-at w place (m ∷ members) k s at =
    by (own-or-later w place m.device.cells m.follows (strings_from (suc place) members) (dependencies_from w (suc place) members) k s at)
    (string-at w (suc place) members)
  where
    rest : List Placed
    rest = strings_from (suc place) members

    others : List Dependency
    others = dependencies_from w (suc place) members

    by : IsOwn w place m.device.cells m.follows others k s ⊎ IsLater w place m.device.cells m.follows rest others k s
        → ((j : ℕ) (t : Placed) → slice_get rest j ≡ Some t → IsStringAt w (suc place) members j t) → IsStringAt w place (m ∷ members) k s
    by (inl own) more = record {
      i = 0;
      m = m;
      number = own.n;
      device = omega (arith, ap (λ (t : Placed). t.device) own.is);
      stands = refl;
      among = own.there ∙ ap (λ (t : Placed). Some t.string) (sym own.is);
      depends = own.depends ∙ ap (λ (t : Placed). Some (dependency w t.device m.device.cells t.string)) (sym own.is);
    }
    by (inr later) more =
        let its = more later.j s later.there in
        record {
          i = suc its.i;
          m = its.m;
          number = its.number;
          device = omega (arith, its.device);
          stands = its.stands;
          among = its.among;
          depends = later.depends ∙ its.depends;
        }

-- where the string of a device stands
place-of : (place : ℕ) (members : List planned.Member) (i : ℕ) (m : planned.Member) (f : Follow) → slice_get members i ≡ Some m → IsAmong f m.follows
    → (k : ℕ) × (slice_get (strings_from place members) k ≡ Some (record { device = place + i; string = f }))
place-of place [] i m f at among = absurd (none-some m at)
place-of place (x ∷ members) zero m f at among =
    let its = among_at x.follows f (subst (λ (y : planned.Member). IsAmong f y.follows) (sym (same_Some x m at)) among) in
    let here : place ≡ place + 0 = omega arith in
    (its.0, own-place w-none place x.device.cells x.follows (strings_from (suc place) members) its.0 f its.1 ∙ ap (λ (d : ℕ). Some (at_place d f)) here)
  where
    w-none : planned.Wiring
    w-none = record { members = []; nets = [] }
place-of place (x ∷ members) (suc i) m f at among =
    let its = place-of (suc place) members i m f at among in
    let next : suc place + i ≡ place + suc i = omega arith in (
      length (map (at_place place) x.follows) + its.0,
      later-place (map (at_place place) x.follows) (strings_from (suc place) members) its.0 (at_place (suc place + i) f) its.1
          ∙ ap (λ (d : ℕ). Some (at_place d f)) next,
    )

-- ---- a device has one string for a cell

all-has : (cell : ℕ) (before : List Follow) (f : Follow) → has_cell cell (before ++ f ∷ []) ≡ false → (has_cell cell before ≡ false) × (cell ≡ f.cell → ⊥)
all-has cell [] f e = (refl, λ same. false≢true (sym e ∙ ap (λ (b : Bool). b || false) (eq-eqb cell f.cell same)))
all-has cell (g ∷ before) f e = by (cell == g.cell) refl e (all-has cell before f)
  where
    by : (b : Bool) → (cell == g.cell) ≡ b → (b || has_cell cell (before ++ f ∷ [])) ≡ false
        → (has_cell cell (before ++ f ∷ []) ≡ false → (has_cell cell before ≡ false) × (cell ≡ f.cell → ⊥))
        → (has_cell cell (g ∷ before) ≡ false) × (cell ≡ f.cell → ⊥)
    by true is h more = absurd (false≢true (sym h))
    by false is h more = let rest = more h in (ap (λ (b : Bool). b || has_cell cell before) is ∙ rest.0, rest.1)

fresh : (before fs : List Follow) → HaveOneEach before fs → (k : ℕ) (f : Follow) → slice_get fs k ≡ Some f → has_cell f.cell before ≡ false
fresh before [] have k f at = absurd (none-some f at)
fresh before (g ∷ fs) have zero f at = ap (λ (h : Follow). has_cell h.cell before) (sym (same_Some g f at)) ∙ have.0
fresh before (g ∷ fs) have (suc k) f at = (all-has f.cell before g (fresh (before ++ g ∷ []) fs have.1 k f at)).0

one-each : (before fs : List Follow) → HaveOneEach before fs → (k l : ℕ) (f g : Follow) → slice_get fs k ≡ Some f → slice_get fs l ≡ Some g → f.cell ≡ g.cell → k ≡ l
one-each before [] have k l f g at there same = absurd (none-some f at)
one-each before (x ∷ fs) have zero zero f g at there same = refl
one-each before (x ∷ fs) have zero (suc l) f g at there same =
    absurd ((all-has g.cell before x (fresh (before ++ x ∷ []) fs have.1 l g there)).1 (sym same ∙ sym (ap (λ (h : Follow). h.cell) (same_Some x f at))))
one-each before (x ∷ fs) have (suc k) zero f g at there same =
    absurd ((all-has f.cell before x (fresh (before ++ x ∷ []) fs have.1 k f at)).1 (same ∙ sym (ap (λ (h : Follow). h.cell) (same_Some x g there))))
one-each before (x ∷ fs) have (suc k) (suc l) f g at there same = ap suc (one-each (before ++ x ∷ []) fs have.1 k l f g at there same)

-- no two places among the strings have one device and one cell
one-place : (place : ℕ) (members : List planned.Member) → AllByRecursion HasStrings members → (k l : ℕ) (s t : Placed) → slice_get (strings_from place members) k ≡ Some s
    → slice_get (strings_from place members) l ≡ Some t → s.device ≡ t.device → s.string.cell ≡ t.string.cell → k ≡ l
one-place place [] have k l s t at there device cell = absurd (none-some s at)
one-place place (m ∷ members) have k l s t at there device cell =
    by (mine m.follows k s at) (mine m.follows l t there) (λ i j one two. one-place (suc place) members have.1 i j s t one two device cell)
  where
    rest : List Placed
    rest = strings_from (suc place) members

    -- it is one of the device's own, or stands behind them
    Mine : List Follow → ℕ → Placed → Type 0
    Mine fs n r = ((f : Follow) × (slice_get fs n ≡ Some f) × (r ≡ at_place place f)) ⊎ ((j : ℕ) × (n ≡ length fs + j) × (slice_get rest j ≡ Some r))

    mine : (fs : List Follow) (n : ℕ) (r : Placed) → slice_get (map (at_place place) fs ++ rest) n ≡ Some r → Mine fs n r
    mine [] n r e = let same : n ≡ zero + n = omega arith in inr (n, same, e)
    mine (f ∷ fs) zero r e = inl (f, refl, sym (same_Some (at_place place f) r e))
    mine (f ∷ fs) (suc n) r e = more (mine fs n r e)
      where
        more : Mine fs n r → Mine (f ∷ fs) (suc n) r
        more (inl own) = inl own
        more (inr (j, is, later)) = let next : suc n ≡ suc (length fs) + j = omega (arith, is) in inr (j, next, later)

    -- a later string is of a later device
    behind : (from : ℕ) (others : List planned.Member) (j : ℕ) (r : Placed) → slice_get (strings_from from others) j ≡ Some r → from ≤ r.device
    behind from others j r e = let its = string-at (record { members = []; nets = [] }) from others j r e in omega (arith, its.device)

    by : Mine m.follows k s → Mine m.follows l t → ((i j : ℕ) → slice_get rest i ≡ Some s → slice_get rest j ≡ Some t → i ≡ j) → k ≡ l
    by (inl (f, one, is-s)) (inl (g, two, is-t)) more =
        one-each [] m.follows have.0.one k l f g one two
        (sym (ap (λ (r : Placed). r.string.cell) is-s) ∙ cell ∙ ap (λ (r : Placed). r.string.cell) is-t)
    by (inl (f, one, is-s)) (inr (j, is, later)) more =
        absurd (omega (arith, behind (suc place) members j t later, device, ap (λ (r : Placed). r.device) is-s))
    by (inr (j, is, later)) (inl (g, two, is-t)) more =
        absurd (omega (arith, behind (suc place) members j s later, device, ap (λ (r : Placed). r.device) is-t))
    by (inr (i, is, one)) (inr (j, is-l, two)) more =
        let same = more i j one two in
        omega (arith, same, is, is-l)

-- ---- no loop by numbers is none by nets

abbrev made : (target source : ℕ) → Dependency
made target source = record { target = target; source = source }

module _ (w : planned.Wiring) (fit : AllByRecursion HasStrings w.members) where
  record IsDependency (net source : Net) : Type 0 where
    place : ℕ
    target : ℕ
    string : Follow
    cells : List Cell
    k : ℕ
    depends : slice_get (dependencies w) k ≡ Some (dependency w place cells string)
    port : port_of cells string.cell ≡ target
    target_net : net ≡ net_of w.nets place target
    source_net : source ≡ net_of w.nets place string.source

  one-dependency : (net source : Net) → StringBetween w.nets (members_of w) net source → IsDependency net source
  one-dependency net source b =
      let its = planned-at w b.place b.member b.stands in
      let follows : IsAmong b.string its.0.follows = subst (λ (m : Member). IsAmong b.string m.follows) (sym its.2) b.follows in
      let where-it-is = place-of 0 w.members b.place its.0 b.string its.1 follows in
      let zero-more : 0 + b.place ≡ b.place = omega arith in
      let at = string-at w 0 w.members where-it-is.0 (record { device = 0 + b.place; string = b.string }) where-it-is.1 in
      let here : at.i ≡ b.place = omega (arith, at.device) in
      let same : at.m ≡ its.0 = same_Some at.m its.0 (sym at.stands ∙ ap (slice_get w.members) here ∙ its.1) in
      let cells : List Cell = its.0.device.cells in
      let driven : driver_from b.target 0 cells ≡ Some b.string.cell = subst (λ (m : Member). driver_from b.target 0 m.device.cells ≡ Some b.string.cell) (sym its.2) b.drives in
      record {
        place = b.place;
        target = b.target;
        string = b.string;
        cells = cells;
        k = where-it-is.0;
        depends = at.depends ∙ (λ i. Some (dependency w (zero-more i) (same i).device.cells b.string));
        port = ap (λ (o : Option ℕ). unwrap_or o 0) (port_of_driver b.target cells b.string.cell driven);
        target_net = b.target_net;
        source_net = b.source_net;
      }

  path : (n p a q b : ℕ) (net source : Net) → net ≡ net_of w.nets p a → source ≡ net_of w.nets q b → InSteps (StringBetween w.nets (members_of w)) n net source
      → numbers.InSteps (dependencies w) n (net_number w p a) (net_number w q b)
  path zero p a q b net source here there same = same_number w p a q b (sym here ∙ same ∙ there)
  path (suc n) p a q b net source here there (next, step, rest) =
      let d = one-dependency net next step in
      let first : net_number w p a ≡ net_number w d.place d.target = same_number w p a d.place d.target (sym here ∙ d.target_net) in
      let target : (dependency w d.place d.cells d.string).target ≡ net_number w p a = ap (net_number w d.place) d.port ∙ sym first in (
        net_number w d.place d.string.source,
        (d.k, d.depends ∙ ap (λ (t : ℕ). Some (made t (net_number w d.place d.string.source))) target),
        path n d.place d.string.source q b next source d.source_net there rest,
      )

  pub no_net_loop : HasNoNumberLoop (dependencies w) → HasNoLoop w.nets (members_of w)
  no_net_loop none net n (next, step, rest) =
      let d = one-dependency net next step in
      none d.k (record {
        string = dependency w d.place d.cells d.string;
        stands = d.depends;
        back = (
          n,
          subst (λ (t : ℕ). numbers.InSteps (dependencies w) n (net_number w d.place d.string.source) (net_number w d.place t)) (sym d.port)
              (path n d.place d.string.source d.place d.target next net d.source_net d.target_net rest),
        );
      })

-- ---- an order of work

-- strings in a row, by their places there
module _ (nets : List Net) (ms : List Member) where
  pub ordered : (ss : List Placed) → ((i : ℕ) (s : Placed) → slice_get ss i ≡ Some s → IsOfBoard ms s)
      → ((i j : ℕ) (s t : Placed) → slice_get ss i ≡ Some s → slice_get ss j ≡ Some t → i ≤ j → IsFreeOf ms (net_of nets s.device s.string.source) t)
      → ((i j : ℕ) (s t : Placed) → slice_get ss i ≡ Some s → slice_get ss j ≡ Some t → i < j → t.device ≡ s.device → t.string.cell ≡ s.string.cell → ⊥)
      → IsInOrder nets ms ss
  ordered [] board free apart = tt
  ordered (s ∷ ss) board free apart = (
    board 0 s refl,
    (λ t among. let its = among_at (s ∷ ss) t among in free 0 its.0 s t refl its.1 (omega arith)),
    (λ t among. let its = among_at ss t among in apart 0 (suc its.0) s t refl its.1 (omega arith)),
    ordered ss (λ i t at. board (suc i) t at) (λ i j x y at there below. free (suc i) (suc j) x y at there (omega (arith, below)))
        (λ i j x y at there below. apart (suc i) (suc j) x y at there (omega (arith, below))),
  )

-- what a list of picked strings has at a place
module _ (all : List Placed) (order : List ℕ) (ss : List Placed) (are : map (λ (s : Placed). Some s) ss ≡ map (slice_get all) order) where
  same-at : (i : ℕ) → option_map (λ (s : Placed). Some s) (slice_get ss i) ≡ option_map (slice_get all) (slice_get order i)
  same-at i =
      sym (slice_get-map (λ (s : Placed). Some s) ss i) ∙ ap (λ (l : List (Option Placed)). slice_get l i) are ∙ slice_get-map (slice_get all) order i

  pub picked_from : (i : ℕ) (s : Placed) → slice_get ss i ≡ Some s → (k : ℕ) × (slice_get order i ≡ Some k) × (slice_get all k ≡ Some s)
  picked_from i s at = by (slice_get order i) refl (sym (ap (option_map (λ (r : Placed). Some r)) at) ∙ same-at i)
    where
      by : (o : Option ℕ) → slice_get order i ≡ o → Some (Some s) ≡ option_map (slice_get all) o → (k : ℕ) × (slice_get order i ≡ Some k) × (slice_get all k ≡ Some s)
      by None is e = absurd (none-some (Some s) (sym e))
      by (Some k) is e = (k, is, sym (same_Some (Some s) (slice_get all k) e))

  pub picked_to : (i k : ℕ) (s : Placed) → slice_get order i ≡ Some k → slice_get all k ≡ Some s → slice_get ss i ≡ Some s
  picked_to i k s at there = by (slice_get ss i) refl (same-at i ∙ ap (option_map (slice_get all)) at ∙ ap Some there)
    where
      by : (o : Option Placed) → slice_get ss i ≡ o → option_map (λ (r : Placed). Some r) o ≡ Some (Some s) → slice_get ss i ≡ Some s
      by None is e = absurd (none-some (Some s) e)
      by (Some r) is e = is ∙ same_Some (Some r) (Some s) e

module _ (w : planned.Wiring) (ready : IsReady w) where
  found : AreFound w.nets
  found = are_found w.nets ready.apart

  -- what a string's device says of it
  its-control : (i : ℕ) (m : planned.Member) (f : Follow) → slice_get w.members i ≡ Some m → IsAmong f m.follows → (p : ℕ)
      → takes_from p f.cell 0 m.device.cells ≡ true → driver_from p 0 m.device.cells ≡ Some f.cell
  its-control i m f stands among p takes =
      takes-driver p f.cell 0 m.device.cells
      (λ k c at control.
      let own = at-place (members_of w) i (powered_up m) (λ n. FollowsNoOtherControl n) ready.controls (powered-at w i m stands) f among k c at control in
      omega (arith, own))
      takes

  its-fit : (i : ℕ) (m : planned.Member) (f : Follow) → slice_get w.members i ≡ Some m → IsAmong f m.follows → IsStringOf m.device f
  its-fit i m f stands among =
      let its = among_at m.follows f among in
      all_at (IsStringOf m.device) m.follows its.0 f (all_at HasStrings w.members i m ready.strings stands).each its.1

  -- the strings can be wired
  to-wire : (i : ℕ) (m : planned.Member) → slice_get w.members i ≡ Some m → HasStringsToWire m
  to-wire i m stands = λ f among.
      let fits = its-fit i m f stands among in
      record { source = fits.source; cell = fits.cell; alone = its-control i m f stands among }

  all-by : {A : Type 0} (P : A → Type 0) (l : List A) → ((i : ℕ) (x : A) → slice_get l i ≡ Some x → P x) → AllByRecursion P l
  all-by P [] each = tt
  all-by P (x ∷ l) each = (each 0 x refl, all-by P l (λ i y at. each (suc i) y at))

  pub ready_for_strings : IsReadyForStrings w
  ready_for_strings = record { pins = ready.chips.pins; apart = ready.apart; strings = all-by HasStringsToWire w.members to-wire }

  -- a string of the board
  its-board : (k : ℕ) (s : Placed) → slice_get (strings_of w.members) k ≡ Some s → IsOfBoard (members_of w) s
  its-board k s at =
      let its = string-at w 0 w.members k s at in
      let here : its.i ≡ s.device = omega (arith, its.device) in
      let stands : slice_get w.members s.device ≡ Some its.m = sym (ap (slice_get w.members) here) ∙ its.stands in
      let among = among_from its.m.follows its.number s.string its.among in
      let core : length its.m.core ≡ length its.m.device.cells = all_at HasCore w.members s.device its.m ready.chips.cores stands in
      record {
        member = powered_up its.m;
        stands = powered-at w s.device its.m stands;
        follows = among;
        there = omega (arith, (its-fit s.device its.m s.string stands among).cell, core);
      }

  module _ (order : List ℕ) (works : IsWorkOrder (dependencies w) order) (ss : List Placed) (are : map (λ (s : Placed). Some s) ss ≡ map (slice_get (strings_of w.members)) order) where
    each : HasEachOnce (dependencies w) order
    each = each_once (dependencies w) order works

    of-board : (i : ℕ) (s : Placed) → slice_get ss i ≡ Some s → IsOfBoard (members_of w) s
    of-board i s at = let its = picked_from (strings_of w.members) order ss are i s at in its-board its.0 s its.2

    -- what the order has at a place
    nth-is : (i : ℕ) (s : Placed) → slice_get ss i ≡ Some s → (m : planned.Member) × (slice_get w.members s.device ≡ Some m)
        × (numbers.nth_string (dependencies w) order i ≡ Some (dependency w s.device m.device.cells s.string))
    nth-is i s at =
        let its = picked_from (strings_of w.members) order ss are i s at in
        let string = string-at w 0 w.members its.0 s its.2 in
        let here : string.i ≡ s.device = omega (arith, string.device) in
        (string.m, sym (ap (slice_get w.members) here) ∙ string.stands, ap (option_and_then (λ (place : ℕ). slice_get (dependencies w) place)) its.1 ∙ string.depends)

    free-of : (i j : ℕ) (s t : Placed) → slice_get ss i ≡ Some s → slice_get ss j ≡ Some t → i ≤ j → IsFreeOf (members_of w) (net_of w.nets s.device s.string.source) t
    free-of i j s t at there below pin on here m stands takes =
        let one = nth-is i s at in
        let other = nth-is j t there in
        let its = planned-at w pin.device m stands in
        let same : its.0 ≡ other.0 = same_Some its.0 other.0 (sym its.1 ∙ ap (slice_get w.members) here ∙ other.1) in
        let cells : List Cell = other.0.device.cells in
        let takes-it : takes_from pin.port t.string.cell 0 cells ≡ true =
        subst (λ (n : planned.Member). takes_from pin.port t.string.cell 0 n.device.cells ≡ true) same
        (subst (λ (n : Member). takes_from pin.port t.string.cell 0 n.device.cells ≡ true) (sym its.2) takes) in
        let string = picked_from (strings_of w.members) order ss are j t there in
        let at-place-j = string-at w 0 w.members string.0 t string.2 in
        let there-i : at-place-j.i ≡ t.device = omega (arith, at-place-j.device) in
        let member-is : at-place-j.m ≡ other.0 = same_Some at-place-j.m other.0 (sym at-place-j.stands ∙ ap (slice_get w.members) there-i ∙ other.1) in
        let among : IsAmong t.string other.0.follows =
        subst (λ (n : planned.Member). IsAmong t.string n.follows) member-is (among_from at-place-j.m.follows at-place-j.number t.string at-place-j.among) in
        let driven : driver_from pin.port 0 cells ≡ Some t.string.cell = its-control t.device other.0 t.string other.1 among pin.port takes-it in
        let port : port_of cells t.string.cell ≡ pin.port = ap (λ (o : Option ℕ). unwrap_or o 0) (port_of_driver pin.port cells t.string.cell driven) in
        let net : net_of w.nets s.device s.string.source ≡ net_of w.nets t.device pin.port =
        own-net w.nets found (net_of w.nets s.device s.string.source) (s.device, s.string.source, refl) pin on ∙ ap (λ (d : ℕ). net_of w.nets d pin.port) here in
        let number : net_number w t.device (port_of cells t.string.cell) ≡ net_number w s.device s.string.source =
        ap (net_number w t.device) port ∙ sym (same_number w s.device s.string.source t.device pin.port net) in
        let before = works.before j i (dependency w t.device cells t.string) (dependency w s.device one.0.device.cells s.string) other.2 one.2 number in
        absurd (omega (arith, before, below))

    not-twice : (i j : ℕ) (s t : Placed) → slice_get ss i ≡ Some s → slice_get ss j ≡ Some t → i < j → t.device ≡ s.device → t.string.cell ≡ s.string.cell → ⊥
    not-twice i j s t at there below device cell =
        let one = picked_from (strings_of w.members) order ss are i s at in
        let other = picked_from (strings_of w.members) order ss are j t there in
        let same = one-place 0 w.members ready.strings one.0 other.0 s t one.2 other.2 (sym device) (sym cell) in
        let place = each.once i j one.0 one.1 (other.1 ∙ ap Some (sym same)) in
        absurd (omega (arith, place, below))

    are-all : AreAll (members_of w) ss
    are-all place m f stands among =
        let its = planned-at w place m stands in
        let follows : IsAmong f its.0.follows = subst (λ (n : Member). IsAmong f n.follows) (sym its.2) among in
        let at = place-of 0 w.members place its.0 f its.1 follows in
        let zero-more : 0 + place ≡ place = omega arith in
        let string = string-at w 0 w.members at.0 (record { device = 0 + place; string = f }) at.1 in
        let inside = slice_get_within (dependencies w) at.0 _ string.depends in
        let where-it-is = each.each at.0 inside in
        let there = picked_to (strings_of w.members) order ss are where-it-is.0 at.0 (record { device = 0 + place; string = f }) where-it-is.1 at.1 in
        subst (λ (d : ℕ). IsAmong (record { device = d; string = f }) ss) zero-more (among_from ss where-it-is.0 (record { device = 0 + place; string = f }) there)

    pub order_of_work : IsOrderOf w.nets (members_of w) ss
    order_of_work = record {
      free = no_loop w.nets (members_of w) found ready.controls (no_net_loop w ready.strings ready.no_loop);
      ordered = ordered w.nets (members_of w) ss of-board free-of not-twice;
      all = are-all;
    }

  -- the places of an order are those of strings
  same-long : (place : ℕ) (members : List planned.Member) → length (dependencies_from w place members) ≡ length (strings_from place members)
  same-long place [] = refl
  same-long place (m ∷ members) =
      let rest = same-long (suc place) members in
      omega (
        arith,
        rest,
        length-append (map (dependency w place m.device.cells) m.follows) (dependencies_from w (suc place) members),
        length-append (map (at_place place) m.follows) (strings_from (suc place) members),
        length-map m.follows (dependency w place m.device.cells),
        length-map m.follows (at_place place),
      )

  pub places_inside : (order : List ℕ) → IsWorkOrder (dependencies w) order → All (λ (k : ℕ). k < length (strings_of w.members)) order
  places_inside order works = λ i d inside.
      let once = each_once (dependencies w) order works in
      let place = once.strings_alone i (get_or order i d) (slice_get-get_or order i d inside) in
      omega (arith, place, same-long 0 w.members)

pub as_options : {A B : Type 0} (f : A → B) (l : List A) → map (λ (b : B). Some b) (map f l) ≡ map (λ (a : A). Some (f a)) l
as_options f [] = refl
as_options f (a ∷ l) = ap (λ (r : List _). Some (f a) ∷ r) (as_options f l)
