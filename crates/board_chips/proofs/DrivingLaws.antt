-- What each pin drives, where it is put anew for the pins that a cell drives alone.
use Rattle.std.proofs.Common.{◌≡◌, ◌<◌, ℕ, zero, suc, ◌+◌, Bool, List, [], ◌∷◌, ◌++◌, length, map, drop, slice_get, Option, Some, None, option_and_then, option_map, unwrap_or, refl, sym, ap, ◌∙◌, arith, ◌⊎◌, ⊎_elim, inl, inr}
use Rattle.std.proofs.Math.Seq.{drop-cons}
use Rattle.std.proofs.lemmas.List.{length-map}
use Rattle.std.proofs.lemmas.Option.{get_or_from_slice_get, none-some, same_Some, slice_get-map, slice_get_within}
use Rattle.bsdl_device.specs.declared.Cell.{Cell}
use Rattle.chip_instructions.specs.declared.Mode.{Mode}
use Rattle.chip_instructions.specs.declared.Mode.TheVariants.{Extest, Clamp, HighZ, Core}
use Rattle.chip_instructions.specs.Instruction.{meaning}
use Rattle.pin_nets.specs.declared.Drive.{Drive}
use Rattle.pin_nets.specs.declared.Drive.TheVariants.{Nothing}
use Rattle.pin_nets.specs.declared.Pin.{Pin}
use Rattle.boundary.specs.Cells.{driven_in, driver_from}
use Rattle.boundary.proofs.DriverLaws.{driven_by_cell}
use Rattle.board_model.specs.Cells.{Member, drive}
use Rattle.board_model.specs.Nets.{pin_drive}
use Rattle.board_chips.specs.Driving.{cell_drives, cells_of, driver_of, drives_at, driving_from, entry_drives, with_driving}
use Rattle.board_chips.specs.WiredChips.{WiredChipValue, held_of}
use Rattle.board_chips.specs.declared.driving.DrivingPin.{DrivingPin}

-- ---- one pin

abbrev pub member-cells : Member → List Cell
member-cells m = m.device.cells

no-driver : (mode : Mode) (cells : List Cell) (update core : List Bool) → driven_in mode cells update core None ≡ Nothing
no-driver HighZ cells update core = refl
no-driver Extest cells update core = refl
no-driver Clamp cells update core = refl
no-driver Core cells update core = refl

by-cell : (m : Member) (port : ℕ) (o : Option ℕ) → driver_from port 0 m.device.cells ≡ o
    → driven_in (meaning m.device m.registers.latch).mode m.device.cells m.registers.update m.core o ≡ drive m port
by-cell m port o is =
    let mode = (meaning m.device m.registers.latch).mode in
    sym (ap (λ (x : Option ℕ). driven_in mode m.device.cells m.registers.update m.core x) is)
    ∙ driven_by_cell mode m.device.cells m.registers.update m.core port

-- a pin that no cell drives
pub undriven : (ms : List Member) (p : Pin) → driver_of (map member-cells ms) p ≡ None → pin_drive ms p ≡ Nothing
undriven ms p none = by (slice_get ms p.device) refl
  where
    by : (o : Option Member) → slice_get ms p.device ≡ o → pin_drive ms p ≡ Nothing
    by None at = rw at refl
    by (Some m) at =
        let there : slice_get (map member-cells ms) p.device ≡ Some m.device.cells =
        slice_get-map member-cells ms p.device ∙ ap (option_map member-cells) at in
        let its : driver_from p.port 0 m.device.cells ≡ None =
        sym (ap (option_and_then (driver_from p.port 0)) there) ∙ none in
        ap (λ (x : Option Member). unwrap_or (option_map (λ (y : Member). drive y p.port) x) Nothing) at
        ∙ sym (by-cell m p.port None its)
        ∙ no-driver (meaning m.device m.registers.latch).mode m.device.cells m.registers.update m.core

-- a pin that a cell drives
pub driven : (ms : List Member) (p : Pin) (k c : ℕ) → driver_of (map member-cells ms) p ≡ Some c
    → entry_drives ms (record { device = p.device; cell = c; pin = k }) ≡ pin_drive ms p
driven ms p k c some = by (slice_get ms p.device) refl
  where
    by : (o : Option Member) → slice_get ms p.device ≡ o → entry_drives ms (record { device = p.device; cell = c; pin = k }) ≡ pin_drive ms p
    by None at = rw at refl
    by (Some m) at =
        let there : slice_get (map member-cells ms) p.device ≡ Some m.device.cells =
        slice_get-map member-cells ms p.device ∙ ap (option_map member-cells) at in
        let its : driver_from p.port 0 m.device.cells ≡ Some c =
        sym (ap (option_and_then (driver_from p.port 0)) there) ∙ some in
        ap (λ (x : Option Member). unwrap_or (option_map (λ (y : Member). cell_drives y c) x) Nothing) at
        ∙ by-cell m p.port (Some c) its
        ∙ sym (ap (λ (x : Option Member). unwrap_or (option_map (λ (y : Member). drive y p.port) x) Nothing) at)

pub chips_cells : (chips : List WiredChipValue) → map member-cells (map held_of chips) ≡ map cells_of chips
chips_cells [] = refl
chips_cells (s ∷ chips) = ap (λ (l : List (List Cell)). cells_of s ∷ l) (chips_cells chips)

-- ---- an entry is that of a pin and a device

-- the pin of an entry is one of the pins from pin k on, and is to drive what its cell drives
pub record IsOfPin (ms : List Member) (k : ℕ) (pins : List Pin) (e : DrivingPin) : Type 0 where
  pub i : ℕ
  pub pin : e.pin ≡ k + i
  pub drives : slice_get (map (pin_drive ms) pins) i ≡ Some (entry_drives ms e)
  pub device : e.device < length ms

module _ (cells : List (List Cell)) (ms : List Member) (now : map member-cells ms ≡ cells) where
  pub entry_of_pin : (k : ℕ) (pins : List Pin) (j : ℕ) (e : DrivingPin) → slice_get (driving_from cells k pins) j ≡ Some e → IsOfPin ms k pins e
  entry_of_pin k [] j e there = absurd (none-some e there)
  entry_of_pin k (p ∷ pins) j e there = by (λ i it. entry_of_pin (suc k) pins i e it) (driver_of cells p) refl j there
    where
      later : IsOfPin ms (suc k) pins e → IsOfPin ms k (p ∷ pins) e
      later r = record { i = suc r.i; pin = omega (arith, r.pin); drives = r.drives; device = r.device }

      inside : (c : ℕ) → driver_of cells p ≡ Some c → p.device < length ms
      inside c is = of (slice_get cells p.device) refl
        where
          of : (o : Option (List Cell)) → slice_get cells p.device ≡ o → p.device < length ms
          of None at = absurd (none-some c (rw at at is))
          of (Some l) at = let long = ap length now in omega (arith, slice_get_within cells p.device l at, length-map ms member-cells, long)

      by : ((i : ℕ) → slice_get (driving_from cells (suc k) pins) i ≡ Some e → IsOfPin ms (suc k) pins e)
          → (o : Option ℕ) → driver_of cells p ≡ o → (i : ℕ)
          → slice_get (with_driving k p.device (driver_of cells p) (driving_from cells (suc k) pins)) i ≡ Some e → IsOfPin ms k (p ∷ pins) e
      by rest None is i it = later (rest i (rw is at it))
      by rest (Some c) is zero it =
          let same : record { device = p.device; cell = c; pin = k } ≡ e = same_Some _ _ (rw is at it) in
          let device-is : p.device ≡ e.device = ap (λ (x : DrivingPin). x.device) same in
          let pin-is : k ≡ e.pin = ap (λ (x : DrivingPin). x.pin) same in
          record {
            i = 0;
            pin = omega (arith, pin-is);
            drives =
                ap Some (sym (driven ms p k c (ap (λ (l : List (List Cell)). driver_of l p) now ∙ is)) ∙ ap (entry_drives ms) same);
            device = omega (arith, inside c is, device-is);
          }
      by rest (Some c) is (suc i) it = later (rest i (rw is at it))

-- a pin that a cell drives has an entry
pub record HasEntry (cells : List (List Cell)) (k : ℕ) (pins : List Pin) (i : ℕ) : Type 0 where
  pub j : ℕ
  pub e : DrivingPin
  pub at : slice_get (driving_from cells k pins) j ≡ Some e
  pub pin : e.pin ≡ k + i

one_pin : (p x : Pin) → Some p ≡ Some x → p ≡ x
one_pin p x e = cc

pub pin_cases : (cells : List (List Cell)) (k : ℕ) (pins : List Pin) (i : ℕ) (p : Pin) → slice_get pins i ≡ Some p
    → (driver_of cells p ≡ None) ⊎ HasEntry cells k pins i
pin_cases cells k [] i p at = absurd (none-some p at)
pin_cases cells k (q ∷ pins) zero p at = by (driver_of cells q) refl
  where
    by : (o : Option ℕ) → driver_of cells q ≡ o → (driver_of cells p ≡ None) ⊎ HasEntry cells k (q ∷ pins) zero
    by None is = inl (sym (ap (driver_of cells) (one_pin q p at)) ∙ is)
    by (Some c) is = inr (record {
      j = 0;
      e = record { device = q.device; cell = c; pin = k };
      at = ap (λ (o : Option ℕ). slice_get (with_driving k q.device o (driving_from cells (suc k) pins)) 0) is;
      pin = omega arith;
    })
pin_cases cells k (q ∷ pins) (suc i) p at = ⊎_elim inl (λ h. inr (by h (driver_of cells q) refl)) (pin_cases cells (suc k) pins i p at)
  where
    by : HasEntry cells (suc k) pins i → (o : Option ℕ) → driver_of cells q ≡ o → HasEntry cells k (q ∷ pins) (suc i)
    by h None is = record {
      j = h.j;
      e = h.e;
      at = ap (λ (o : Option ℕ). slice_get (with_driving k q.device o (driving_from cells (suc k) pins)) h.j) is ∙ h.at;
      pin = omega (arith, h.pin);
    }
    by h (Some c) is = record {
      j = suc h.j;
      e = h.e;
      at = ap (λ (o : Option ℕ). slice_get (with_driving k q.device o (driving_from cells (suc k) pins)) (suc h.j)) is ∙ h.at;
      pin = omega (arith, h.pin);
    }

-- what the code takes from a device is what its cell drives
pub cell_by_chip : (chips : List WiredChipValue) (device cell : ℕ) (s : WiredChipValue) (d : Drive) → slice_get chips device ≡ Some s → d ≡ cell_drives (held_of s) cell
    → d ≡ drives_at (map held_of chips) device cell
cell_by_chip chips device cell s d at is =
    let there : slice_get (map held_of chips) device ≡ Some (held_of s) = slice_get-map held_of chips device ∙ ap (option_map held_of) at in
    is ∙ sym (ap (λ (o : Option Member). unwrap_or (option_map (λ (m : Member). cell_drives m cell) o) Nothing) there)

-- ---- the table is made pin after pin

put-before : (k device : ℕ) (driver : Option ℕ) (rest : List DrivingPin) → with_driving k device driver [] ++ rest ≡ with_driving k device driver rest
put-before k device None rest = refl
put-before k device (Some c) rest = refl

joined : (a b c : List DrivingPin) → (a ++ b) ++ c ≡ a ++ (b ++ c)
joined [] b c = refl
joined (x ∷ a) b c = ap (λ (l : List DrivingPin). x ∷ l) (joined a b c)

pub one_more_pin : (cells : List (List Cell)) (pins : List Pin) (k : ℕ) (p : Pin) (driver : Option ℕ) (items new all : List DrivingPin)
    → slice_get pins k ≡ Some p → driver ≡ driver_of cells p → new ≡ items ++ with_driving k p.device driver []
    → items ++ driving_from cells k (drop k pins) ≡ all → new ++ driving_from cells (k + 1) (drop (k + 1) pins) ≡ all
one_more_pin cells pins k p driver items new all at is pushed kept =
    let next : k + 1 ≡ suc k = omega arith in
    let here : drop k pins ≡ p ∷ drop (suc k) pins =
    drop-cons pins k p (slice_get_within pins k p at) ∙ ap (λ (x : Pin). x ∷ drop (suc k) pins) (get_or_from_slice_get pins k p p at) in
    let rest = driving_from cells (suc k) (drop (suc k) pins) in
    let front : driving_from cells k (drop k pins) ≡ with_driving k p.device driver rest =
    ap (driving_from cells k) here ∙ ap (λ (o : Option ℕ). with_driving k p.device o rest) (sym is) in
    ap (λ (j : ℕ). new ++ driving_from cells j (drop j pins)) next
    ∙ ap (λ (l : List DrivingPin). l ++ rest) pushed
    ∙ joined items (with_driving k p.device driver []) rest
    ∙ ap (λ (l : List DrivingPin). items ++ l) (put-before k p.device driver rest ∙ sym front)
    ∙ kept

pub driver_by_chip : (chips : List WiredChipValue) (p : Pin) (s : WiredChipValue) (driver : Option ℕ) → slice_get chips p.device ≡ Some s
    → driver ≡ driver_from p.port 0 s.chip.device.cells → driver ≡ driver_of (map cells_of chips) p
driver_by_chip chips p s driver at is =
    is ∙ sym (ap (option_and_then (driver_from p.port 0)) (slice_get-map cells_of chips p.device ∙ ap (option_map cells_of) at))
