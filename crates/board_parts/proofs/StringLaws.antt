-- Strings that texts say, one after another.
use Rattle.std.proofs.Common.{◌≡◌, ◌<◌, ℕ, suc, ◌+◌, ◌==◌, Bool, true, false, ◌&&◌, ◌||◌, cond, List, [], ◌∷◌, ◌++◌, append_assoc, length, nat_cmp, slice_get, Option, Some, None, is_some, option_map, option_and_then, unwrap_or, refl, ap, sym, subst, ◌∙◌, arith}
use Rattle.std.specs.Prelude.{slice_index_or}
use Rattle.std.specs.List.{AllByRecursion, list_any, position}
use Rattle.std.specs.Ordering.{is_eq}
use Rattle.std.proofs.lemmas.Bool.{false≢true}
use Rattle.std.proofs.lemmas.List.{append-nil, map-append}
use Rattle.std.proofs.lemmas.Option.{slice_get_within}
use Rattle.bsdl_device.specs.Device.{Device, PortBit}
use Rattle.bsdl_device.specs.Driving.{drives}
use Rattle.bsdl_device.specs.declared.Cell.{Cell}
use Rattle.boundary.specs.Cells.{AreDrivers, driver_from, is_port}
use Rattle.board_tables.specs.PinTexts.{PortText}
use Rattle.board_tables.specs.FollowTexts.{FollowText, follow_of}
use Rattle.board_tables.proofs.TextLaws.{is_there, list_any_map}
use Rattle.board_parts.specs.Pins.{pin_bit}
use Rattle.board_parts.proofs.PinLaws.{bit_inside, same_number}
use Rattle.pin_nets.specs.declared.Follow.{Follow}
use Rattle.board_parts.specs.Strings.{HaveOneEach, IsStringOf, cells_of, has_cell, is_source, readable, said_by, source_of, string_of, string_to, strings_after, strings_of, target_of}

none_some : {A : Type 0} (x : A) → None ≡ Some x → ⊥
none_some x e = absurd cc

same_some : {A : Type 0} (x y : A) → Some x ≡ Some y → x ≡ y
same_some x y e = ap (λ o. unwrap_or o x) e

-- ---- cells that drive

-- what a table of driving cells has at a port bit
pub driver_there : (cells : List Cell) (table : List (Option ℕ)) (p : ℕ) → AreDrivers cells table → p < length table → slice_index_or table p None ≡ driver_from p 0 cells
driver_there cells table p are below = are.each p below

below_from : (p k : ℕ) (cells : List Cell) (j : ℕ) → driver_from p k cells ≡ Some j → j < k + length cells
below_from p k [] j e = absurd (none_some j e)
below_from p k (c ∷ cs) j e = by (drives c.function && is_port p c.port) e (below_from p (suc k) cs j)
  where
    by : (b : Bool) → cond b (Some k) (driver_from p (suc k) cs) ≡ Some j → (driver_from p (suc k) cs ≡ Some j → j < suc k + length cs) → j < k + suc (length cs)
    by true e more = let same = same_some k j e in omega (arith, same)
    by false e more = let below = more e in omega (arith, below)

-- a driving cell is one of the cells
pub driver_below : (p : ℕ) (cells : List Cell) (j : ℕ) → driver_from p 0 cells ≡ Some j → j < length cells
driver_below p cells j e = let below = below_from p 0 cells j e in omega (arith, below)

-- strings of a device behind these, one for each text
record Extends (d : Device) (texts : List (List ℕ)) (before all : List Follow) : Type 0 where
  more : List Follow
  whole : all ≡ before ++ more
  long : length more ≡ length texts
  each : AllByRecursion (IsStringOf d) more
  one : HaveOneEach before more

-- ---- one string

module _ (d : Device) where
  target_drives : (p : PortText) (cell : ℕ) → target_of d p ≡ Some cell → (target : ℕ) × (target < length d.ports) × (driver_from target 0 d.cells ≡ Some cell)
  target_drives p cell e = by (pin_bit d p.name p.index) refl e
    where
      by : (o : Option ℕ) → pin_bit d p.name p.index ≡ o → option_and_then (λ bit. driver_from bit 0 d.cells) o ≡ Some cell
          → (target : ℕ) × (target < length d.ports) × (driver_from target 0 d.cells ≡ Some cell)
      by None is e = absurd (none_some cell e)
      by (Some bit) is e = (bit, bit_inside d p.name p.index bit is, e)

  read_below : (k source : ℕ) → readable d k ≡ Some source → source < length d.ports
  read_below k source e = by (slice_get d.ports k) refl e
    where
      at : (bit : PortBit) → slice_get d.ports k ≡ Some bit → (b : Bool) → cond b (Some k) None ≡ Some source → source < length d.ports
      at bit is true e = subst (λ n. n < length d.ports) (same_some k source e) (slice_get_within d.ports k bit is)
      at bit is false e = absurd (none_some source e)

      by : (o : Option PortBit) → slice_get d.ports k ≡ o → option_and_then (λ (bit : PortBit). cond (is_source bit.mode) (Some k) None) o ≡ Some source → source < length d.ports
      by None is e = absurd (none_some source e)
      by (Some bit) is e = at bit is (is_source bit.mode) e

  source_below : (p : PortText) (source : ℕ) → source_of d p ≡ Some source → source < length d.ports
  source_below p source e = by (pin_bit d p.name p.index) e
    where
      by : (o : Option ℕ) → option_and_then (readable d) o ≡ Some source → source < length d.ports
      by None e = absurd (none_some source e)
      by (Some k) e = read_below k source e

  said_fits : (w : FollowText) (f : Follow) → said_by d w ≡ Some f → IsStringOf d f
  said_fits w f e = by (target_of d w.target) refl (source_of d w.source) refl e
    where
      by : (t : Option ℕ) → target_of d w.target ≡ t → (s : Option ℕ) → source_of d w.source ≡ s → option_and_then (λ cell. option_map (string_to w cell) s) t ≡ Some f → IsStringOf d f
      by None at s from e = absurd (none_some f e)
      by (Some cell) at None from e = absurd (none_some f e)
      by (Some cell) at (Some source) from e =
          let (target, inside, is) = target_drives w.target cell at in
          subst (IsStringOf d) (same_some (string_to w cell source) f e)
          (record { target = target; inside = inside; drives = is; cell = driver_below target d.cells cell is; source = source_below w.source source from })

  string_fits : (text : List ℕ) (f : Follow) → string_of d text ≡ Some f → IsStringOf d f
  unfolding string_of
  string_fits text f e = by (follow_of text) e
    where
      by : (o : Option FollowText) → option_and_then (said_by d) o ≡ Some f → IsStringOf d f
      by None e = absurd (none_some f e)
      by (Some w) e = said_fits w f e

  -- ---- all of them

  extends : (before : List Follow) (texts : List (List ℕ)) (all : List Follow) → strings_after d before texts ≡ Some all → Extends d texts before all
  extends before [] all e = record { more = []; whole = sym (same_some before all e) ∙ sym (append-nil before); long = refl; each = tt; one = tt }
  extends before (text ∷ texts) all e = by (string_of d text) refl e (λ b h. extends b texts all h)
    where
      at : (f : Follow) → string_of d text ≡ Some f → (b : Bool) → has_cell f.cell before ≡ b → cond b None (strings_after d (before ++ f ∷ []) texts) ≡ Some all
          → ((b : List Follow) → strings_after d b texts ≡ Some all → Extends d texts b all) → Extends d (text ∷ texts) before all
      at f is true there e next = absurd (none_some all e)
      at f is false new e next =
          let rest = next (before ++ f ∷ []) e in
          record {
            more = f ∷ rest.more;
            whole = rest.whole ∙ append_assoc before (f ∷ []) rest.more;
            long = ap suc rest.long;
            each = (string_fits text f is, rest.each);
            one = (new, rest.one);
          }

      by : (o : Option Follow) → string_of d text ≡ o → elim o [ None ↦ None | Some f ↦ cond (has_cell f.cell before) None (strings_after d (before ++ f ∷ []) texts) ] ≡ Some all
          → ((b : List Follow) → strings_after d b texts ≡ Some all → Extends d texts b all) → Extends d (text ∷ texts) before all
      by None is e next = absurd (none_some all e)
      by (Some f) is e next = at f is (has_cell f.cell before) refl e next

  all_there : (texts : List (List ℕ)) → is_some (strings_of d texts) ≡ true → Extends d texts [] (unwrap_or (strings_of d texts) [])
  all_there texts h = by (strings_of d texts) refl h
    where
      by : (o : Option (List Follow)) → strings_of d texts ≡ o → is_some o ≡ true → Extends d texts [] (unwrap_or o [])
      by None is h = absurd (false≢true h)
      by (Some all) is h = extends [] texts all is

  -- strings that texts say fit the device, one for a cell
  pub strings_fit : (texts : List (List ℕ)) → is_some (strings_of d texts) ≡ true
      → AllByRecursion (IsStringOf d) (unwrap_or (strings_of d texts) []) × HaveOneEach [] (unwrap_or (strings_of d texts) [])
  strings_fit texts h =
      let it = all_there texts h in
      (subst (AllByRecursion (IsStringOf d)) (sym it.whole) it.each, subst (HaveOneEach []) (sym it.whole) it.one)

  -- and are as many as these
  pub strings_long : (texts : List (List ℕ)) → is_some (strings_of d texts) ≡ true → length (unwrap_or (strings_of d texts) []) ≡ length texts
  strings_long texts h = let it = all_there texts h in ap length it.whole ∙ it.long

-- ---- the cells that have a string

-- a cell has a place exactly where it is there
pub cell_there : (cell : ℕ) (cells : List ℕ) → is_some (position (λ q. is_eq (nat_cmp cell q)) cells) ≡ list_any (λ q. cell == q) cells
cell_there cell cells = is_there (λ q. is_eq (nat_cmp cell q)) cells ∙ ap (λ t. list_any t cells) (λ i q. same_number cell q i)

pub has_cell_is : (cell : ℕ) (fs : List Follow) → list_any (λ q. cell == q) (cells_of fs) ≡ has_cell cell fs
has_cell_is cell fs = list_any_map (λ q. cell == q) (λ (f : Follow). f.cell) fs

pub cells_more : (fs : List Follow) (f : Follow) → cells_of (fs ++ f ∷ []) ≡ cells_of fs ++ f.cell ∷ []
cells_more fs f = map-append (λ (g : Follow). g.cell) fs (f ∷ [])
