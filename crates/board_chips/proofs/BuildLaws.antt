-- How a planned chain is made, device after device and net after net.
use Rattle.std.proofs.Common.{◌≡◌, ◌<◌, ◌≤◌, ℕ, zero, suc, ◌+◌, false, List, [], ◌∷◌, ◌++◌, length, map, take, get_or, slice_get, Option, Some, None, refl, sym, ap, subst, ◌∙◌, arith, take_all}
use Rattle.std.proofs.Common.{Global}
use Rattle.std.specs.Global.{Vec}
use Rattle.std.specs.List.{AllByRecursion}
use Rattle.std.proofs.lemmas.List.{length-map, length-take-le}
use Rattle.std.proofs.lemmas.Iterator.{YieldsList}
use Rattle.std.proofs.lemmas.Iterator.Adapters.{YieldsList-from_vec}
use Rattle.std.proofs.lemmas.Iterator.Consumers.{YieldsList-end, YieldsList-turn}
use Rattle.std.specs.Iterator.{Yields}
use Rattle.std.specs.Vec.Iter.{into_iter_items, into_iter_len, into_iter_steps}
use Rattle.std.proofs.lemmas.Option.{none-some, same_Some, slice_get_within}
use Rattle.bsdl_device.specs.Device.{Device}
use Rattle.pin_nets.specs.declared.Pin.{Pin}
use Rattle.pin_nets.specs.Wired.{Net}
use Rattle.board_plan.specs.AllCellNets.{AllPortsFit, all_cell_nets, lists_of}
use Rattle.board_plan.specs.CellNets.{cell_net}
use Rattle.board_plan.specs.Planned.{IsPinOf, all_pins}
use Rattle.board_plan.specs.Planned as planned
use Rattle.board_plan.specs.View.{member as planned_member}
use Rattle.board_plan.specs.declared.plan.PlannedDevice.{PlannedDevice}
use Rattle.board_plan.proofs.CellLaws.{ports_fit}
use Rattle.board_plan.proofs.TableLaws.{length-all_cell_nets, planned_at, vector_at}
use Rattle.board_model.specs.Nets.{pin_drive}
use Rattle.board_chips.specs.Building.{wired_chip_of, wired_chips_of}
use Rattle.board_chips.specs.WiredChips.{AllTold, WiredChipValue, held_of}
use Rattle.board_chips.specs.WiringValues.{WiringValue}
use Rattle.board_chips.specs.Wires.{ArePinsBelow, AreWired, IsWired}

-- ---- pins are port bits

pub pins_within : (members : List planned.Member) (pins : List Pin) → AllByRecursion (IsPinOf members) pins → ArePinsBelow (length members) pins
pins_within members [] all = tt
pins_within members (q ∷ pins) all = let its = all.0 in (slice_get_within members q.device its.0 its.1, pins_within members pins all.1)

pub all_fit : (members : List planned.Member) (nets : List Net) → AllByRecursion (IsPinOf members) (all_pins nets) → AllPortsFit members nets
all_fit members nets pins = record { each = λ place m at. ports_fit place members m nets at pins }

-- ---- chips

pub length-chips : (nets : List Net) (k : ℕ) (ms : List planned.Member) → length (wired_chips_of nets k ms) ≡ length ms
length-chips nets k [] = refl
length-chips nets k (m ∷ ms) = let rest = length-chips nets (suc k) ms in omega (arith, rest)

pub chip_more : (nets : List Net) (k i : ℕ) (ms : List planned.Member) (m : planned.Member) → slice_get ms i ≡ Some m
    → take (i + 1) (wired_chips_of nets k ms) ≡ take i (wired_chips_of nets k ms) ++ wired_chip_of (map (cell_net nets (k + i)) m.device.cells) m ∷ []
chip_more nets k i [] m at = absurd (none-some m at)
chip_more nets k zero (x ∷ ms) m at =
    let same : k ≡ k + 0 = omega arith in
    λ i. wired_chip_of (map (cell_net nets (same i)) (same_Some _ _ at i).device.cells) (same_Some _ _ at i) ∷ []
chip_more nets k (suc i) (x ∷ ms) m at =
    let next : suc i + 1 ≡ suc (i + 1) = omega arith in
    let same : suc k + i ≡ k + suc i = omega arith in
    let first = wired_chip_of (map (cell_net nets k) x.device.cells) x in
    ap (λ (j : ℕ). take j (wired_chips_of nets k (x ∷ ms))) next
    ∙ ap (λ (r : List WiredChipValue). first ∷ r) (chip_more nets (suc k) i ms m at)
    ∙ ap (λ (j : ℕ). first ∷ take i (wired_chips_of nets (suc k) ms) ++ wired_chip_of (map (cell_net nets j) m.device.cells) m ∷ []) same

pub chips_wired : (nets : List Net) (k : ℕ) (ms : List planned.Member) → AreWired nets k (wired_chips_of nets k ms)
chips_wired nets k [] = tt
chips_wired nets k (m ∷ ms) = (refl, chips_wired nets (suc k) ms)

pub chips_told : (nets : List Net) (k : ℕ) (ms : List planned.Member) → AllTold false (wired_chips_of nets k ms)
chips_told nets k [] = tt
chips_told nets k (m ∷ ms) = (refl, chips_told nets (suc k) ms)

pub all_at : {A : Type 0} (P : A → Type 0) (l : List A) (i : ℕ) (x : A) → AllByRecursion P l → slice_get l i ≡ Some x → P x
all_at P [] i x all at = absurd (none-some x at)
all_at P (y ∷ l) zero x all at = subst P (same_Some _ _ at) all.0
all_at P (y ∷ l) (suc i) x all at = all_at P l i x all.1 at

-- ---- lists that grow

pub chips_end : (nets : List Net) (ms : List planned.Member) (chips : List WiredChipValue) (i : ℕ) → chips ≡ take i (wired_chips_of nets 0 ms) → length ms ≤ i → chips ≡ wired_chips_of nets 0 ms
chips_end nets ms chips i e h = e ∙ take_all i (wired_chips_of nets 0 ms) (omega (arith, h, length-chips nets 0 ms))

pub chip_push : (nets : List Net) (ms : List planned.Member) (i : ℕ) (m : planned.Member) (chips new : List WiredChipValue) (s : WiredChipValue) (cells : List (Option ℕ)) (d : Device)
    → slice_get ms i ≡ Some m → chips ≡ take i (wired_chips_of nets 0 ms) → d ≡ m.device → cells ≡ map (cell_net nets i) d.cells → s ≡ wired_chip_of cells m → new ≡ chips ++ s ∷ []
    → new ≡ take (i + 1) (wired_chips_of nets 0 ms)
chip_push nets ms i m chips new s cells d at are described wired is e =
    let place : i ≡ 0 + i = omega arith in
    let cells-are : cells ≡ map (cell_net nets (0 + i)) m.device.cells =
    wired ∙ ap (λ (x : Device). map (cell_net nets i) x.cells) described ∙ ap (λ (k : ℕ). map (cell_net nets k) m.device.cells) place in
    e ∙ ap (λ (l : List WiredChipValue). l ++ s ∷ []) are
    ∙ ap (λ (x : WiredChipValue). take i (wired_chips_of nets 0 ms) ++ x ∷ []) (is ∙ ap (λ (cs : List (Option ℕ)). wired_chip_of cs m) cells-are)
    ∙ sym (chip_more nets 0 i ms m at)

-- ---- each device with its cells

-- where a device of a chain stands, and what nets its cells are on
pub record IsTurn (nets : List Net) (devices : List PlannedDevice) (i : ℕ) (d : PlannedDevice) (cells : List (Option ℕ)) : Type 0 where
  pub at : slice_get (map planned_member devices) i ≡ Some (planned_member d)
  pub wired : cells ≡ map (cell_net nets i) d.device.cells

get_or-all_cell_nets : (nets : List Net) (k i : ℕ) (ms : List planned.Member) (m : planned.Member) → slice_get ms i ≡ Some m → get_or (all_cell_nets nets k ms) i [] ≡ map (cell_net nets (k + i)) m.device.cells
get_or-all_cell_nets nets k i [] m at = absurd (none-some m at)
get_or-all_cell_nets nets k zero (x ∷ ms) m at =
    let same : k ≡ k + 0 = omega arith in
    ap (λ (y : planned.Member). map (cell_net nets k) y.device.cells) (same_Some _ _ at) ∙ ap (λ (j : ℕ). map (cell_net nets j) m.device.cells) same
get_or-all_cell_nets nets k (suc i) (x ∷ ms) m at =
    let same : suc k + i ≡ k + suc i = omega arith in
    get_or-all_cell_nets nets (suc k) i ms m at ∙ ap (λ (j : ℕ). map (cell_net nets j) m.device.cells) same

long-cells : (nets : List Net) (devices : List PlannedDevice) (all : List (Vec (Option ℕ))) → lists_of all ≡ all_cell_nets nets 0 (map planned_member devices) → length all ≡ length devices
long-cells nets devices all are =
    sym (length-map all (λ v. v.items)) ∙ ap length are ∙ length-all_cell_nets nets 0 (map planned_member devices) ∙ length-map devices planned_member

pub turn_at : (nets : List Net) (devices : List PlannedDevice) (all : List (Vec (Option ℕ))) (i : ℕ) (d : PlannedDevice) (cells : Vec (Option ℕ)) → lists_of all ≡ all_cell_nets nets 0 (map planned_member devices)
    → (i < length all) × (cells ≡ get_or all i cells) → d ≡ get_or devices i d → IsTurn nets devices i d cells.items
turn_at nets devices all i d cells are is device =
    let within : i < length devices = omega (arith, is.0, long-cells nets devices all are) in
    let at = planned_at devices i d within device in
    let place : 0 + i ≡ i = omega arith in
    record {
      at = at;
      wired =
          vector_at all i cells is.0 is.1
          ∙ ap (λ (ls : List (List (Option ℕ))). get_or ls i []) are
          ∙ get_or-all_cell_nets nets 0 i (map planned_member devices) (planned_member d) at
          ∙ ap (λ (k : ℕ). map (cell_net nets k) d.device.cells) place;
    }

-- as many chips are made as vectors were taken
pub made : (nets : List Net) (devices : List PlannedDevice) (all : List (Vec (Option ℕ))) (chips : List WiredChipValue) (i place : ℕ) → lists_of all ≡ all_cell_nets nets 0 (map planned_member devices)
    → chips ≡ take i (wired_chips_of nets 0 (map planned_member devices)) → i < length all → place ≡ length chips → (place ≡ i) × (place < length devices)
made nets devices all chips i place are is h long =
    let whole = wired_chips_of nets 0 (map planned_member devices) in
    let within : i < length devices = omega (arith, h, long-cells nets devices all are) in
    let front : i ≤ length whole = omega (arith, within, length-chips nets 0 (map planned_member devices), length-map devices planned_member) in
    let same = long ∙ ap length is ∙ length-take-le i whole front in
    (same, omega (arith, same, within))

-- a loop over the vectors of the nets of the cells
road : (s : _) (all : Vec (Vec (Option ℕ))) → into_iter_items {X = Vec (Option ℕ)} {Z = Global} s ≡ all.items → into_iter_len s ≡ all.len → YieldsList (into_iter_steps {X = Vec (Option ℕ)} {Z = Global}) (λ y. y) s all.items
road s all items long = YieldsList-from_vec all.items items (long ∙ all.ok.0)

pub turn : (s t u : _) (all : Vec (Vec (Option ℕ))) → into_iter_items {X = Vec (Option ℕ)} {Z = Global} s ≡ all.items → into_iter_len s ≡ all.len
    → (xs : List (Vec (Option ℕ))) → Yields (into_iter_steps {X = Vec (Option ℕ)} {Z = Global}) s xs t → (r : Option (Vec (Option ℕ))) (x : Vec (Option ℕ)) → r ≡ Some x → into_iter_steps {X = Vec (Option ℕ)} {Z = Global} t r u
    → (length xs < length all.items) × (x ≡ get_or all.items (length xs) x)
turn s t u all items long xs so_far r x is steps = YieldsList-turn (road s all items long) xs t so_far r u x is steps

pub turns_end : (s t u : _) (nets : List Net) (devices : List PlannedDevice) (all : Vec (Vec (Option ℕ))) → into_iter_items {X = Vec (Option ℕ)} {Z = Global} s ≡ all.items → into_iter_len s ≡ all.len
    → lists_of all.items ≡ all_cell_nets nets 0 (map planned_member devices)
    → (xs : List (Vec (Option ℕ))) → Yields (into_iter_steps {X = Vec (Option ℕ)} {Z = Global}) s xs t → (r : Option (Vec (Option ℕ))) → r ≡ None → into_iter_steps {X = Vec (Option ℕ)} {Z = Global} t r u → length (map planned_member devices) ≤ length xs
turns_end s t u nets devices all items long are xs so_far r is steps =
    let end = YieldsList-end (road s all items long) xs t so_far r u is steps in
    omega (arith, end.1, long-cells nets devices all.items are, length-map devices planned_member)

-- ---- the start

pub start_within : (nets : List Net) (ms : List planned.Member) (chips : List WiredChipValue) (w : WiringValue) → AllByRecursion (IsPinOf ms) (all_pins nets)
    → chips ≡ wired_chips_of nets 0 ms → w.nets ≡ nets → ArePinsBelow (length chips) (all_pins w.nets)
start_within nets ms chips w all are same =
    subst (λ (l : List Net). ArePinsBelow (length chips) (all_pins l)) (sym same)
    (subst (λ (n : ℕ). ArePinsBelow n (all_pins nets)) (sym (ap length are ∙ length-chips nets 0 ms)) (pins_within ms (all_pins nets) all))

pub start_wired : (nets : List Net) (ms : List planned.Member) (w v : WiringValue) → AllByRecursion (IsPinOf ms) (all_pins nets) → w.nets ≡ nets
    → v ≡ record w { drives = map (pin_drive (map held_of (wired_chips_of nets 0 ms))) (all_pins w.nets) } → IsWired (wired_chips_of nets 0 ms) v
start_wired nets ms w v all same is = subst (λ (x : WiringValue). IsWired (wired_chips_of nets 0 ms) x) (sym is) (record {
  drives = refl;
  cells = subst (λ (l : List Net). AreWired l 0 (wired_chips_of nets 0 ms)) (sym same) (chips_wired nets 0 ms);
  pins = start_within nets ms (wired_chips_of nets 0 ms) w all refl same;
})
