-- The cells that capture what their port sees, by their table, and how they are told that, one after another.
use Rattle.std.proofs.Common.{◌≡◌, ◌≢◌, ◌<◌, ◌≤◌, ℕ, zero, suc, ◌+◌, Bool, true, false, List, [], ◌∷◌, length, map, slice_get, slice_index_or, Option, Some, None, option_and_then, option_map, refl, sym, ap, subst, ◌∙◌, arith, ◌⊎◌, inl, inr, ⊎_elim}
use Rattle.std.proofs.lemmas.Bool.{cases_eq}
use Rattle.std.proofs.lemmas.Option.{none-some, same_Some, slice_get-get_or, slice_get-map, slice_get_within}
use Rattle.bsdl_device.specs.declared.Cell.{Cell}
use Rattle.bsdl_device.specs.declared.Function.{Function}
use Rattle.boundary.specs.Masks.{is_sighted, sighted_port}
use Rattle.board_plan.specs.CellNets.{cell_net, first_net}
use Rattle.board_model.specs.Cells.{Member}
use Rattle.board_chips.specs.WiringValues.{WiringValue}
use Rattle.board_chips.specs.WiredChips.{AreBelow, WiredChipValue}
use Rattle.board_chips.specs.Sighted.{IsBelow, sighted_from, sighted_of, with_sighted}
use Rattle.board_chips.specs.Telling.{IsAt}
use Rattle.board_chips.specs.declared.sighted.SightedCell.{SightedCell}

-- ---- what stands in it

-- an entry is that of one of the cells
pub record IsEntry (k : ℕ) (nets : List (Option ℕ)) (cells : List Cell) (e : SightedCell) : Type 0 where
  pub at : ℕ
  pub is : e.cell ≡ k + at
  pub c : Cell
  pub here : slice_get cells at ≡ Some c
  pub port : c.port ≡ Some e.port
  pub net : e.net ≡ slice_index_or nets e.cell None

port-is : (port : Option ℕ) (function : Function) (p : ℕ) → sighted_port port function ≡ Some p → port ≡ Some p
port-is port function p e = by (is_sighted port function) refl
  where
    by : (b : Bool) → is_sighted port function ≡ b → port ≡ Some p
    by true is = rw is at e
    by false is = absurd (none-some p (rw is at e))

pub entry : (k : ℕ) (nets : List (Option ℕ)) (cells : List Cell) (j : ℕ) (e : SightedCell) → slice_get (sighted_from k nets cells) j ≡ Some e → IsEntry k nets cells e
entry k nets [] j e there = absurd (none-some e there)
entry k nets (c ∷ cs) j e there = by (λ i it. entry (suc k) nets cs i e it) (sighted_port c.port c.function) refl j there
  where
    net : Option ℕ
    net = slice_index_or nets k None

    later : IsEntry (suc k) nets cs e → IsEntry k nets (c ∷ cs) e
    later r = record { at = suc r.at; is = omega (arith, r.is); c = r.c; here = r.here; port = r.port; net = r.net }

    by : ((i : ℕ) → slice_get (sighted_from (suc k) nets cs) i ≡ Some e → IsEntry (suc k) nets cs e)
        → (o : Option ℕ) → sighted_port c.port c.function ≡ o → (i : ℕ)
        → slice_get (with_sighted k net (sighted_port c.port c.function) (sighted_from (suc k) nets cs)) i ≡ Some e → IsEntry k nets (c ∷ cs) e
    by rest None is i it = later (rest i (rw is at it))
    by rest (Some p) is zero it =
        let same : record { cell = k; port = p; net = net } ≡ e = same_Some _ _ (rw is at it) in
        let number : e.cell ≡ k = sym (ap (λ (x : SightedCell). x.cell) same) in
        record {
          at = 0;
          is = omega (arith, number);
          c = c;
          here = refl;
          port = port-is c.port c.function p is ∙ ap (λ (x : SightedCell). Some x.port) same;
          net = sym (ap (λ (x : SightedCell). x.net) same) ∙ sym (ap (λ (i : ℕ). slice_index_or nets i None) number);
        }
    by rest (Some p) is (suc i) it = later (rest i (rw is at it))

-- each such cell has an entry
pub record HasEntry (n : ℕ) (table : List SightedCell) (from : ℕ) : Type 0 where
  pub at : ℕ
  pub e : SightedCell
  pub late : from ≤ at
  pub there : slice_get table at ≡ Some e
  pub cell : e.cell ≡ n

pub entered : (k : ℕ) (nets : List (Option ℕ)) (cells : List Cell) (n : ℕ) (c : Cell) (p : ℕ) → slice_get cells n ≡ Some c
    → is_sighted c.port c.function ≡ true → c.port ≡ Some p → HasEntry (k + n) (sighted_from k nets cells) 0
entered k nets [] n c p at sees-it port = absurd (none-some c at)
entered k nets (x ∷ cs) zero c p at sees-it port =
    let same : x ≡ c = same_Some _ _ at in
    let is : sighted_port x.port x.function ≡ Some p =
    ap (λ (y : Cell). sighted_port y.port y.function) same ∙ marked sees-it in
    let place : k ≡ k + 0 = omega arith in
    subst (λ (l : List SightedCell). HasEntry (k + 0) l 0)
    (sym (ap (λ (o : Option ℕ). with_sighted k (slice_index_or nets k None) o (sighted_from (suc k) nets cs)) is))
    (record { at = 0; e = record { cell = k; port = p; net = slice_index_or nets k None }; late = omega arith; there = refl; cell = place })
  where
    marked : is_sighted c.port c.function ≡ true → sighted_port c.port c.function ≡ Some p
    marked y = rw y port
entered k nets (x ∷ cs) (suc n) c p at sees-it port =
    let r = entered (suc k) nets cs n c p at sees-it port in
    let place : suc k + n ≡ k + suc n = omega arith in
    by (sighted_port x.port x.function) refl (subst (λ (m : ℕ). HasEntry m (sighted_from (suc k) nets cs) 0) place r)
  where
    by : (o : Option ℕ) → sighted_port x.port x.function ≡ o → HasEntry (k + suc n) (sighted_from (suc k) nets cs) 0
        → HasEntry (k + suc n) (sighted_from k nets (x ∷ cs)) 0
    by None is r = rw is r
    by (Some q) is r = rw is (record { at = suc r.at; e = r.e; late = omega arith; there = r.there; cell = r.cell })

-- ---- cells told one after another

-- each cell was told what its port sees, or its entry stands at place i or later
abbrev pub ToldUntil : (ℕ → Bool) → List Cell → List SightedCell → ℕ → List Bool → Type 0
ToldUntil sees cells table i seen = (k : ℕ) (c : Cell) → slice_get cells k ≡ Some c → is_sighted c.port c.function ≡ true
    → (p : ℕ) → c.port ≡ Some p → (slice_get seen k ≡ Some (sees p)) ⊎ HasEntry k table i

pub told_first : (sees : ℕ → Bool) (nets : List (Option ℕ)) (cells : List Cell) (seen : List Bool) → ToldUntil sees cells (sighted_from 0 nets cells) 0 seen
told_first sees nets cells seen k c at sees-it p port =
    let same : 0 + k ≡ k = omega arith in
    inr (subst (λ (n : ℕ). HasEntry n (sighted_from 0 nets cells) 0) same (entered 0 nets cells k c p at sees-it port))

pub told_next : (sees : ℕ → Bool) (nets : List (Option ℕ)) (cells : List Cell) (i : ℕ) (seen new : List Bool) (e : SightedCell)
    → slice_get (sighted_from 0 nets cells) i ≡ Some e → ((j : ℕ) → j ≢ e.cell → slice_get new j ≡ slice_get seen j) → slice_get new e.cell ≡ Some (sees e.port)
    → ToldUntil sees cells (sighted_from 0 nets cells) i seen → ToldUntil sees cells (sighted_from 0 nets cells) (i + 1) new
told_next sees nets cells i seen new e there others told kept k c at sees-it p port = ⊎_elim
    (λ (same : k ≡ e.cell).
    let r = entry 0 nets cells i e there in
    let place : r.at ≡ k = omega (arith, r.is, same) in
    let cell-is : r.c ≡ c = same_Some _ _ (sym r.here ∙ ap (slice_get cells) place ∙ at) in
    let port-same : e.port ≡ p = same_Some _ _ (sym r.port ∙ ap (λ (x : Cell). x.port) cell-is ∙ port) in
    inl (ap (slice_get new) same ∙ told ∙ ap (λ (q : ℕ). Some (sees q)) port-same))
    (λ apart. ⊎_elim
    (λ known. inl (others k apart ∙ known))
    (λ later. inr (on apart later))
    (kept k c at sees-it p port))
    (cases_eq k e.cell)
  where
    on : k ≢ e.cell → HasEntry k (sighted_from 0 nets cells) i → HasEntry k (sighted_from 0 nets cells) (i + 1)
    on apart r = record {
      at = r.at;
      e = r.e;
      late = ⊎_elim
          (λ (here : r.at ≡ i). absurd (apart (sym r.cell ∙ ap (λ (x : SightedCell). x.cell) (same_Some _ _ (sym r.there ∙ ap (slice_get (sighted_from 0 nets cells)) here ∙ there)))))
          (λ past. omega (arith, r.late, past))
          (cases_eq r.at i);
      there = r.there;
      cell = r.cell;
    }

pub told_last : (sees : ℕ → Bool) (cells : List Cell) (table : List SightedCell) (i : ℕ) (seen : List Bool) → length table ≤ i → ToldUntil sees cells table i seen
    → (k : ℕ) (c : Cell) → slice_get cells k ≡ Some c → is_sighted c.port c.function ≡ true → (p : ℕ) → c.port ≡ Some p → slice_get seen k ≡ Some (sees p)
told_last sees cells table i seen h kept k c at sees-it p port = ⊎_elim
    (λ known. known)
    (λ (r : HasEntry k table i). absurd (omega (arith, h, r.late, slice_get_within table r.at r.e r.there)))
    (kept k c at sees-it p port)

-- ---- the net of an entry

pub entry_cell : (nets : List (Option ℕ)) (cells : List Cell) (i : ℕ) (e : SightedCell) → slice_get (sighted_from 0 nets cells) i ≡ Some e → e.cell < length cells
entry_cell nets cells i e there =
    let r = entry 0 nets cells i e there in
    omega (arith, r.is, slice_get_within cells r.at r.c r.here)

entry-net : (nets : List (Option ℕ)) (cells : List Cell) (i : ℕ) (e : SightedCell) → length nets ≡ length cells
    → slice_get (sighted_from 0 nets cells) i ≡ Some e → slice_get nets e.cell ≡ Some e.net
entry-net nets cells i e long there =
    let r = entry 0 nets cells i e there in
    let inside : e.cell < length nets = omega (arith, long, entry_cell nets cells i e there) in
    slice_get-get_or nets e.cell None inside ∙ ap (λ (o : Option ℕ). Some o) (sym r.net)

pub entry_below : (n : ℕ) (nets : List (Option ℕ)) (cells : List Cell) (i : ℕ) (e : SightedCell) → length nets ≡ length cells → AreBelow n nets
    → slice_get (sighted_from 0 nets cells) i ≡ Some e → IsBelow n e.net
entry_below n nets cells i e long below there net is =
    below e.cell net (entry-net nets cells i e long there ∙ ap (λ (o : Option ℕ). Some o) is)

pub entry_first : (w : WiringValue) (place : ℕ) (ms : List Member) (s : WiredChipValue) (i : ℕ) (e : SightedCell) → length s.nets ≡ length s.chip.device.cells
    → IsAt w place ms s → slice_get (sighted_of s) i ≡ Some e → e.net ≡ first_net place e.port 0 w.nets
entry_first w place ms s i e long at there =
    let cells = s.chip.device.cells in
    let r = entry 0 s.nets cells i e there in
    let same : e.cell ≡ r.at = omega (arith, r.is) in
    let mapped : slice_get s.nets e.cell ≡ Some (cell_net w.nets place r.c) =
    ap (λ (l : List (Option ℕ)). slice_get l e.cell) at.nets ∙ ap (slice_get (map (cell_net w.nets place) cells)) same
    ∙ slice_get-map (cell_net w.nets place) cells r.at ∙ ap (option_map (cell_net w.nets place)) r.here in
    same_Some _ _ (sym (entry-net s.nets cells i e long there) ∙ mapped)
    ∙ ap (λ (o : Option ℕ). option_and_then (λ p. first_net place p 0 w.nets) o) r.port
