-- The nets of the cells of all devices, by tables of port bits.
use Rattle.std.proofs.Common.{◌≡◌, ◌<◌, ◌≤◌, ℕ, zero, suc, ◌+◌, Bool, true, false, ◌&&◌, ◌||◌, ◌==◌, List, [], ◌∷◌, ◌++◌, length, map, take, drop, get_or, set, replicate, slice_get, Option, Some, None, option_map, refl, sym, ap, subst, ◌∙◌, arith, if◌then◌else◌, ◌⊎◌, inl, inr}
use Rattle.std.specs.Global.{Vec}
use Rattle.std.proofs.lemmas.Bool.{cases_eq, cases_lt}
use Rattle.std.proofs.lemmas.List.{get_or-set_same, get_or-set_other, get_or-replicate, get_or_past, get_or-map, length-map, length-replicate, length-set, map-append, map-set, map_more, set-get_or, set_past}
use Rattle.std.proofs.lemmas.List.Folds.{list_any_more}
use Rattle.std.proofs.lemmas.Option.{get_or_from_slice_get, none-some, same_Some, slice_get-map, slice_get_cases, slice_get_read, slice_get_within}
use Rattle.chip_instructions.specs.Cell.{Cell}
use Rattle.pin_nets.specs.declared.Pin.{Pin}
use Rattle.pin_nets.specs.Wired.{Net, has_port_bit}
use Rattle.pin_nets.proofs.Counting.{eq_false, eq_true}
use Rattle.board_plan.specs.AllCellNets.{AllPortsFit, EntersPins, HaveNets, all_cell_nets, empty_tables, lists_of, table_at, with_pin}
use Rattle.board_plan.specs.CellNets.{EntersNet, HasNets, cell_net, net_by}
use Rattle.board_plan.specs.Planned as planned
use Rattle.board_plan.specs.View.{member as planned_member}
use Rattle.board_plan.specs.declared.plan.PlannedDevice.{PlannedDevice}
use Rattle.board_plan.proofs.CellLaws.{cells_by_table, entered}

-- ---- a pin is entered

either : (seen now : Bool) (x y : Option ℕ) → (if now then x else if seen then x else y) ≡ (if seen || now then x else y)
either true true x y = refl
either true false x y = refl
either false true x y = refl
either false false x y = refl

-- one more pin, as the table of a place has it
more_in : (place net i : ℕ) (pins : List Pin) (d : Pin) (old table new : List (Option ℕ)) → i < length pins → EntersNet place net (take i pins) old table → length new ≡ length table
    → ((p : ℕ) → p < length table → get_or new p None ≡ (if (get_or pins i d).device == place && (get_or pins i d).port == p then Some net else get_or table p None))
    → EntersNet place net (take (i + 1) pins) old new
more_in place net i pins d old table new h so_far long is = record {
  long = long ∙ so_far.long;
  each = λ p below.
      let inside : p < length table = omega (arith, below, so_far.long) in
      let test = λ (q : Pin). (q.device == place) && (q.port == p) in
      let now = test (get_or pins i d) in
      is p inside
      ∙ ap (λ (o : Option ℕ). if now then Some net else o) (so_far.each p below)
      ∙ either (has_port_bit place p (take i pins)) now (Some net) (get_or old p None)
      ∙ sym (ap (λ (b : Bool). if b then Some net else get_or old p None) (list_any_more test pins i d h));
}

no_more_in : (place net i : ℕ) (pins : List Pin) (d : Pin) (old table : List (Option ℕ)) → i < length pins → EntersNet place net (take i pins) old table
    → ((p : ℕ) → p < length table → ((get_or pins i d).device == place && (get_or pins i d).port == p) ≡ false) → EntersNet place net (take (i + 1) pins) old table
no_more_in place net i pins d old table h so_far none =
    more_in place net i pins d old table table h so_far refl (λ p below. sym (ap (λ (b : Bool). if b then Some net else get_or table p None) (none p below)))

pub entered_pin : (net i : ℕ) (pins : List Pin) (d : Pin) (old tables new : List (List (Option ℕ))) → i < length pins → EntersPins net (take i pins) old tables
    → new ≡ with_pin net (get_or pins i d) tables → EntersPins net (take (i + 1) pins) old new
entered_pin net i pins d old tables new h so_far is = record {
  long = ap length is ∙ length-set tables q.device (set table q.port (Some net)) ∙ so_far.long;
  each = λ place. subst (λ (t : List (Option ℕ)). EntersNet place net (take (i + 1) pins) (table_at old place) t) (sym (ap (λ (ts : List (List (Option ℕ))). table_at ts place) is))
      (by place (cases_eq place q.device) (cases_lt q.device (length tables)));
}
  where
    q : Pin
    q = get_or pins i d

    table : List (Option ℕ)
    table = table_at tables q.device

    new-table : List (Option ℕ)
    new-table = set table q.port (Some net)

    read : (place p : ℕ) → place ≡ q.device → p < length table → (p ≡ q.port) ⊎ (p ≡ q.port → ⊥) → get_or new-table p None ≡ (if (q.device == place) && (q.port == p) then Some net else get_or table p None)
    read place p here below (inl same) = rw (eq_true q.device place (sym here), eq_true q.port p (sym same), same) (get_or-set_same table q.port (Some net) None (omega (arith, below, same)))
    read place p here below (inr other) = rw (eq_true q.device place (sym here), eq_false q.port p (λ e. other (sym e))) (get_or-set_other table q.port p (Some net) None other)

    by : (place : ℕ) → (place ≡ q.device) ⊎ (place ≡ q.device → ⊥) → (q.device < length tables) ⊎ (length tables ≤ q.device)
        → EntersNet place net (take (i + 1) pins) (table_at old place) (table_at (with_pin net q tables) place)
    by place (inr other) _ =
        subst (λ (t : List (Option ℕ)). EntersNet place net (take (i + 1) pins) (table_at old place) t) (sym (get_or-set_other tables q.device place new-table [] other))
        (no_more_in place net i pins d (table_at old place) (table_at tables place) h (so_far.each place) (λ p below. ap (λ (b : Bool). b && (q.port == p)) (eq_false q.device place (λ e. other (sym e)))))
    by place (inl here) (inl inside) =
        let was : table_at tables place ≡ table = ap (table_at tables) here in
        let is_now : table_at (with_pin net q tables) place ≡ new-table = ap (table_at (with_pin net q tables)) here ∙ get_or-set_same tables q.device new-table [] inside in
        subst (λ (t : List (Option ℕ)). EntersNet place net (take (i + 1) pins) (table_at old place) t) (sym is_now)
        (more_in place net i pins d (table_at old place) table new-table h (subst (λ (t : List (Option ℕ)). EntersNet place net (take i pins) (table_at old place) t) was (so_far.each place))
        (length-set table q.port (Some net)) (λ p below. read place p here below (cases_eq p q.port)))
    by place (inl here) (inr past) =
        let none : table_at tables place ≡ [] = get_or_past tables place [] (omega (arith, past, here)) in
        let none_new : table_at (with_pin net q tables) place ≡ [] = get_or_past (with_pin net q tables) place [] (omega (arith, past, here, length-set tables q.device new-table)) in
        subst (λ (t : List (Option ℕ)). EntersNet place net (take (i + 1) pins) (table_at old place) t) (none ∙ sym none_new)
        (no_more_in place net i pins d (table_at old place) (table_at tables place) h (so_far.each place) (λ p below. absurd (omega (arith, below, ap length none))))

-- ---- the code's tables

pub vector_at : (vs : List (Vec (Option ℕ))) (i : ℕ) (v : Vec (Option ℕ)) → i < length vs → v ≡ get_or vs i v → v.items ≡ table_at (lists_of vs) i
vector_at vs i v h is = ap (λ (w : Vec (Option ℕ)). w.items) is ∙ sym (get_or-map (λ w. w.items) vs i v [] h)

pub put_in : (vs : List (Vec (Option ℕ))) (net : ℕ) (q : Pin) (v w : Vec (Option ℕ)) → q.device < length vs → v ≡ get_or vs q.device v → w.items ≡ set v.items q.port (Some net)
    → lists_of (set vs q.device w) ≡ with_pin net q (lists_of vs)
put_in vs net q v w h is items =
    map-set (λ x. x.items) vs q.device w
    ∙ ap (λ (t : List (Option ℕ)). set (lists_of vs) q.device t) (items ∙ ap (λ (t : List (Option ℕ)). set t q.port (Some net)) (vector_at vs q.device v h is))

-- a port bit past the last of its device, and a device past the last
pub past_port : (tables : List (List (Option ℕ))) (net : ℕ) (q : Pin) → length (table_at tables q.device) ≤ q.port → tables ≡ with_pin net q tables
past_port tables net q past =
    sym (ap (λ (t : List (Option ℕ)). set tables q.device t) (set_past (table_at tables q.device) q.port (Some net) past) ∙ set-get_or tables q.device [])

pub past_device : (tables : List (List (Option ℕ))) (net : ℕ) (q : Pin) → length tables ≤ q.device → tables ≡ with_pin net q tables
past_device tables net q past = sym (set_past tables q.device _ past)

pub empty_more : (devices : List PlannedDevice) (i : ℕ) (x : PlannedDevice) (tables new : List (List (Option ℕ))) (table : List (Option ℕ)) → i < length devices → x ≡ get_or devices i x
    → tables ≡ empty_tables (map planned_member (take i devices)) → table ≡ replicate (length x.device.ports) None → new ≡ tables ++ table ∷ [] → new ≡ empty_tables (map planned_member (take (i + 1) devices))
empty_more devices i x tables new table h is are empty e =
    let no_net = λ (m : planned.Member). replicate {A = Option ℕ} (length m.device.ports) None in
    e ∙ ap (λ (ts : List (List (Option ℕ))). ts ++ table ∷ []) are
    ∙ ap (λ (t : List (Option ℕ)). empty_tables (map planned_member (take i devices)) ++ t ∷ []) (empty ∙ ap (λ (d : PlannedDevice). no_net (planned_member d)) is)
    ∙ sym (map-append no_net (map planned_member (take i devices)) (planned_member (get_or devices i x) ∷ []))
    ∙ sym (ap empty_tables (map_more planned_member devices i x h))

-- ---- net after net

-- no net is entered
pub empty_have : (members : List planned.Member) (n : ℕ) (tables : List (List (Option ℕ))) → tables ≡ empty_tables members → HaveNets n members [] tables
empty_have members n tables is = subst (HaveNets n members []) (sym is) (record {
  long = length-map members no_net;
  ports = λ place m at. ap length (there place m at) ∙ length-replicate (length m.device.ports) None;
  each = λ place p below. none place p (slice_get_cases members place).1 below;
})
  where
    no_net : planned.Member → List (Option ℕ)
    no_net m = replicate (length m.device.ports) None

    there : (place : ℕ) (m : planned.Member) → slice_get members place ≡ Some m → table_at (empty_tables members) place ≡ replicate (length m.device.ports) None
    there place m at =
        get_or-map no_net members place m [] (slice_get_within members place m at) ∙ ap no_net (get_or_from_slice_get members place m m at)

    none : (place p : ℕ)
        → ((m : planned.Member) × (place < length members) × (slice_get members place ≡ Some m) × (get_or members place m ≡ m)) ⊎ ((length members ≤ place) × (slice_get members place ≡ None))
        → p < length (table_at (empty_tables members) place) → get_or (table_at (empty_tables members) place) p None ≡ None
    none place p (inl at) below =
        let ports = length at.0.device.ports in
        let is_empty : table_at (empty_tables members) place ≡ replicate ports None = there place at.0 at.2 in
        ap (λ (t : List (Option ℕ)). get_or t p None) is_empty
        ∙ get_or-replicate ports p None None (omega (arith, below, ap length is_empty, length-replicate {A = Option ℕ} ports None))
    none place p (inr past) below = absurd (omega (arith, below, ap length (get_or_past (empty_tables members) place [] (omega (arith, past.0, length-map members no_net)))))

-- one more net
pub more_have : (members : List planned.Member) (nets : List Net) (n : ℕ) (x : Net) (old new : List (List (Option ℕ))) → n < length nets → x ≡ get_or nets n x → EntersPins n x.pins old new
    → HaveNets (suc n) members (drop (suc n) nets) old → HaveNets n members (drop n nets) new
more_have members nets n x old new h is e have = record {
  long = e.long ∙ have.long;
  ports = λ place m at. (e.each place).long ∙ have.ports place m at;
  each = λ place. entered nets place n x (table_at old place) (table_at new place) h is (e.each place) (have.each place);
}

-- ---- device after device

pub length-all_cell_nets : (nets : List Net) (k : ℕ) (ms : List planned.Member) → length (all_cell_nets nets k ms) ≡ length ms
length-all_cell_nets nets k [] = refl
length-all_cell_nets nets k (m ∷ ms) = let rest = length-all_cell_nets nets (suc k) ms in omega (arith, rest)

pub cells_more : (nets : List Net) (k i : ℕ) (ms : List planned.Member) (m : planned.Member) → slice_get ms i ≡ Some m
    → take (i + 1) (all_cell_nets nets k ms) ≡ take i (all_cell_nets nets k ms) ++ map (cell_net nets (k + i)) m.device.cells ∷ []
cells_more nets k i [] m at = absurd (none-some m at)
cells_more nets k zero (x ∷ ms) m at =
    let same : k ≡ k + 0 = omega arith in
    λ i. map (cell_net nets (same i)) (same_Some _ _ at i).device.cells ∷ []
cells_more nets k (suc i) (x ∷ ms) m at =
    let next : suc i + 1 ≡ suc (i + 1) = omega arith in
    let same : suc k + i ≡ k + suc i = omega arith in
    let first = map (cell_net nets k) x.device.cells in
    ap (λ (j : ℕ). take j (all_cell_nets nets k (x ∷ ms))) next
    ∙ ap (λ (r : List (List (Option ℕ))). first ∷ r) (cells_more nets (suc k) i ms m at)
    ∙ ap (λ (j : ℕ). first ∷ take i (all_cell_nets nets (suc k) ms) ++ map (cell_net nets j) m.device.cells ∷ []) same

pub cells_push : (nets : List Net) (ms : List planned.Member) (tables : List (List (Option ℕ))) (i : ℕ) (m : planned.Member) (all new : List (List (Option ℕ))) (table own : List (Option ℕ)) (cells : List Cell)
    → AllPortsFit ms nets → HaveNets 0 ms nets tables → slice_get ms i ≡ Some m → all ≡ take i (all_cell_nets nets 0 ms) → table ≡ table_at tables i → cells ≡ m.device.cells
    → own ≡ map (λ (c : Cell). net_by table c.port) cells → new ≡ all ++ own ∷ [] → new ≡ take (i + 1) (all_cell_nets nets 0 ms)
cells_push nets ms tables i m all new table own cells fit have at are is_table is_cells is_own e =
    let place : i ≡ 0 + i = omega arith in
    let long : length table ≡ length m.device.ports = ap length is_table ∙ have.ports i m at in
    let has : HasNets i nets table = subst (HasNets i nets) (sym is_table) (record { each = have.each i }) in
    let own_are : own ≡ map (cell_net nets (0 + i)) m.device.cells =
    is_own ∙ ap (map (λ (c : Cell). net_by table c.port)) is_cells ∙ cells_by_table nets i (length m.device.ports) table m.device.cells long (fit.each i m at) has
    ∙ ap (λ (k : ℕ). map (cell_net nets k) m.device.cells) place in
    e ∙ ap (λ (l : List (List (Option ℕ))). l ++ own ∷ []) are
    ∙ ap (λ (o : List (Option ℕ)). take i (all_cell_nets nets 0 ms) ++ o ∷ []) own_are
    ∙ sym (cells_more nets 0 i ms m at)

pub planned_at : (devices : List PlannedDevice) (i : ℕ) (d : PlannedDevice) → i < length devices → d ≡ get_or devices i d → slice_get (map planned_member devices) i ≡ Some (planned_member d)
planned_at devices i d h is = slice_get-map planned_member devices i ∙ ap (option_map planned_member) (slice_get_read devices (length devices) i d refl h is)
