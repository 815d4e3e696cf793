-- The nets of cells, by a table of port bits.
use Rattle.std.proofs.Common.{◌≡◌, ◌<◌, ◌≤◌, ℕ, suc, ◌+◌, Bool, true, false, ◌&&◌, ◌||◌, ◌==◌, List, [], ◌∷◌, ◌++◌, length, map, take, drop, get_or, slice_get, Option, Some, None, refl, sym, ap, ◌∙◌, arith, if◌then◌else◌, ◌⊎◌, inl, inr}
use Rattle.std.specs.List.{AllByRecursion}
use Rattle.std.specs.Prelude.{slice_index_or}
use Rattle.std.proofs.Math.Seq.{drop-cons}
use Rattle.std.proofs.lemmas.Bool.{cases_eq, cases_lt}
use Rattle.std.proofs.lemmas.List.{get_or_past, map-append, take_more}
use Rattle.std.proofs.lemmas.Option.{same_Some}
use Rattle.chip_instructions.specs.Cell.{Cell}
use Rattle.pin_nets.specs.declared.Pin.{Pin}
use Rattle.pin_nets.specs.Wired.{Net, has_port_bit}
use Rattle.pin_nets.proofs.Counting.{eq_false}
use Rattle.board_plan.specs.CellNets.{EntersNet, HasNets, PortsFit, cell_net, first_net, net_by}
use Rattle.board_plan.specs.Planned.{IsPinOf, all_pins}
use Rattle.board_plan.specs.Planned as planned

-- ---- the nets of ports

pub entered : (nets : List Net) (place n : ℕ) (x : Net) (old new : List (Option ℕ)) → n < length nets → x ≡ get_or nets n x → EntersNet place n x.pins old new
    → ((p : ℕ) → p < length old → slice_index_or old p None ≡ first_net place p (suc n) (drop (suc n) nets))
    → (p : ℕ) → p < length new → slice_index_or new p None ≡ first_net place p n (drop n nets)
entered nets place n x old new h is e each p below =
    let inside : p < length old = omega (arith, below, e.long) in
    let front : drop n nets ≡ x ∷ drop (suc n) nets = drop-cons nets n x h ∙ ap (λ (y : Net). y ∷ drop (suc n) nets) (sym is) in
    e.each p inside
    ∙ ap (λ (o : Option ℕ). if has_port_bit place p x.pins then Some n else o) (each p inside)
    ∙ sym (ap (first_net place p n) front)

pub cell_by_table : (nets : List Net) (place ports : ℕ) (table : List (Option ℕ)) (c : Cell) → length table ≡ ports → PortsFit place ports nets → HasNets place nets table
    → net_by table c.port ≡ cell_net nets place c
cell_by_table nets place ports table c long fit has = by c.port refl
  where
    by : (o : Option ℕ) → c.port ≡ o → net_by table c.port ≡ cell_net nets place c
    by None is = rw is refl
    by (Some p) is = rw is (there p (cases_lt p (length table)))
      where
        there : (p : ℕ) → (p < length table) ⊎ (length table ≤ p) → slice_index_or table p None ≡ first_net place p 0 nets
        there p (inl h) = has.each p h
        there p (inr h) = get_or_past table p None h ∙ sym (fit.past p (omega (arith, h, long)))

pub cells_by_table : (nets : List Net) (place ports : ℕ) (table : List (Option ℕ)) (cells : List Cell) → length table ≡ ports → PortsFit place ports nets → HasNets place nets table
    → map (λ (c : Cell). net_by table c.port) cells ≡ map (cell_net nets place) cells
cells_by_table nets place ports table [] long fit has = refl
cells_by_table nets place ports table (c ∷ cells) long fit has =
    ap (λ (o : Option ℕ). o ∷ map (λ (x : Cell). net_by table x.port) cells) (cell_by_table nets place ports table c long fit has)
    ∙ ap (λ (os : List (Option ℕ)). cell_net nets place c ∷ os) (cells_by_table nets place ports table cells long fit has)

-- ---- pins are port bits

pins-apart : (place p : ℕ) (members : List planned.Member) (m : planned.Member) (pins : List Pin) → slice_get members place ≡ Some m → length m.device.ports ≤ p
    → AllByRecursion (IsPinOf members) pins → has_port_bit place p pins ≡ false
pins-apart place p members m [] at past all = refl
pins-apart place p members m (q ∷ pins) at past all = ap (λ (b : Bool). b || has_port_bit place p pins) (by (cases_eq q.device place) (cases_eq q.port p)) ∙ pins-apart place p members m pins at past all.1
  where
    by : (q.device ≡ place) ⊎ (q.device ≡ place → ⊥) → (q.port ≡ p) ⊎ (q.port ≡ p → ⊥) → ((q.device == place) && (q.port == p)) ≡ false
    by (inr other) e = ap (λ (b : Bool). b && (q.port == p)) (eq_false q.device place other)
    by (inl here) (inr other) = ap (λ (b : Bool). (q.device == place) && b) (eq_false q.port p other) ∙ none (q.device == place)
      where
        none : (b : Bool) → (b && false) ≡ false
        none true = refl
        none false = refl
    by (inl here) (inl same) =
        let its = all.0 in
        let owner : its.0 ≡ m = same_Some _ _ (sym its.1 ∙ ap (slice_get members) here ∙ at) in
        absurd (omega (arith, its.2, ap (λ (x : planned.Member). length x.device.ports) owner, same, past))

none-first : (place p n : ℕ) (members : List planned.Member) (m : planned.Member) (nets : List Net) → slice_get members place ≡ Some m → length m.device.ports ≤ p
    → AllByRecursion (IsPinOf members) (all_pins nets) → first_net place p n nets ≡ None
none-first place p n members m [] at past all = refl
none-first place p n members m (x ∷ nets) at past all =
    let both = all-split x.pins (all_pins nets) all in
    rw (pins-apart place p members m x.pins at past both.0) (none-first place p (suc n) members m nets at past both.1)
  where
    all-split : (xs ys : List Pin) → AllByRecursion (IsPinOf members) (xs ++ ys) → AllByRecursion (IsPinOf members) xs × AllByRecursion (IsPinOf members) ys
    all-split [] ys all = (tt, all)
    all-split (q ∷ xs) ys all = let rest = all-split xs ys all.1 in ((all.0, rest.0), rest.1)

pub ports_fit : (place : ℕ) (members : List planned.Member) (m : planned.Member) (nets : List Net) → slice_get members place ≡ Some m
    → AllByRecursion (IsPinOf members) (all_pins nets) → PortsFit place (length m.device.ports) nets
ports_fit place members m nets at all = record { past = λ p past. none-first place p 0 members m nets at past all }

-- ---- lists that grow

pub mapped_push : {A B : Type 0} (f : A → B) (xs : List A) (i : ℕ) (d : A) (ys new : List B) (y : B) → i < length xs → ys ≡ map f (take i xs) → y ≡ f (get_or xs i d)
    → new ≡ ys ++ y ∷ [] → new ≡ map f (take (i + 1) xs)
mapped_push {A} {B} f xs i d ys new y h are is e =
    e ∙ ap (λ (l : List B). l ++ y ∷ []) are ∙ ap (λ (z : B). map f (take i xs) ++ z ∷ []) is
    ∙ sym (map-append f (take i xs) (get_or xs i d ∷ [])) ∙ ap (map f) (sym (take_more xs i d h))
