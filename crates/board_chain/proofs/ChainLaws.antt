-- What the edges of all devices do to the chain and to what its pins drive.
use Rattle.std.proofs.Common.{◌≡◌, ◌<◌, ℕ, zero, suc, ◌+◌, Bool, true, false, List, [], ◌∷◌, length, map, drop, slice_get, Option, Some, None, option_map, unwrap_or, refl, sym, ap, subst, ◌∙◌, if◌then◌else◌, arith}
use Rattle.std.proofs.lemmas.Option.{none-some, same_Some, slice_get-map}
use Rattle.bsdl_device.specs.Device.{Device}
use Rattle.bsdl_device.specs.declared.Cell.{Cell}
use Rattle.pin_nets.specs.declared.Drive.{Drive}
use Rattle.pin_nets.specs.declared.Drive.TheVariants.{Nothing}
use Rattle.pin_nets.specs.declared.Pin.{Pin}
use Rattle.pin_nets.specs.Wired.{Net}
use Rattle.board_plan.specs.Planned.{all_pins}
use Rattle.board_model.specs.Cells.{Member, Told, drive}
use Rattle.board_model.specs.Chain as chain
use Rattle.board_model.specs.Chain.{ChipState, members, rise_all, tdi_before}
use Rattle.board_model.specs.Nets as meant
use Rattle.board_model.specs.Nets.{in_force, pin_drive, sees_under, told_under}
use Rattle.board_plan.specs.CellNets.{cell_net}
use Rattle.board_chips.specs.Driving.{cells_of}
use Rattle.board_chips.specs.WiredChips.{AllTold, AreBelow, DrivesStill, IsKept, WiredChipValue, chip_state, held_of, member_of, told_by}
use Rattle.board_chain.specs.Sweeping.{EachFrom, Rises, Still, TakesTrst}
use Rattle.board_chips.specs.WiringValues.{WiringValue}
use Rattle.board_chips.specs.Wires.{ArePinsBelow, AreWired, IsWired}
use Rattle.board_chips.proofs.EdgeLaws.{rise_drives}
use Rattle.board_chips.proofs.StringLaws.{first_below}
use Rattle.board_chain.proofs.SweepLaws.{each_long}

-- ---- TDO

pub tdo_there : (tdi : Bool) (chips : List WiredChipValue) (i : ℕ) (s : WiredChipValue) → slice_get chips i ≡ Some s
    → tdi_before tdi (drop i (map chip_state chips)) ≡ unwrap_or s.chip.tdo true
tdo_there tdi [] i s at = absurd (none-some s at)
tdo_there tdi (x ∷ chips) zero s at = ap (λ (y : WiredChipValue). unwrap_or y.chip.tdo true) (same_Some _ _ at)
tdo_there tdi (x ∷ chips) (suc i) s at = tdo_there tdi chips i s at

-- ---- nets of cells

cell-below : (nets : List Net) (place : ℕ) (c : Cell) (net : ℕ) → cell_net nets place c ≡ Some net → net < length nets
cell-below nets place c net e = by c.port refl
  where
    by : (o : Option ℕ) → c.port ≡ o → net < length nets
    by None is = absurd (none-some net (rw is at e))
    by (Some p) is = let below = first_below place p 0 net nets (rw is at e) in omega (arith, below)

cells-below : (nets : List Net) (place : ℕ) (cells : List Cell) (k net : ℕ) → slice_get (map (cell_net nets place) cells) k ≡ Some (Some net) → net < length nets
cells-below nets place [] k net e = absurd (none-some (Some net) e)
cells-below nets place (c ∷ cs) zero net e = cell-below nets place c net (same_Some _ _ e)
cells-below nets place (c ∷ cs) (suc k) net e = cells-below nets place cs k net e

pub net_below : (nets : List Net) (place : ℕ) (chips : List WiredChipValue) (i : ℕ) (s : WiredChipValue) → AreWired nets place chips → slice_get chips i ≡ Some s → AreBelow (length nets) s.nets
net_below nets place [] i s wired at = absurd (none-some s at)
net_below nets place (x ∷ chips) zero s wired at = λ k net e.
    let same : x ≡ s = same_Some _ _ at in
    cells-below nets place x.chip.device.cells k net (sym (ap (λ (l : List (Option ℕ)). slice_get l k) wired.0) ∙ ap (λ (y : WiredChipValue). slice_get y.nets k) same ∙ e)
net_below nets place (x ∷ chips) (suc i) s wired at = net_below nets (suc place) chips i s wired.1 at

-- ---- what stays wired

-- what a port bit of a device drives with these core bits
abbrev pub drives_with : List Bool → ℕ → ChipState → Drive
drives_with core p c = drive (record c.member { core = core }) p

-- a device that keeps its core bits drives what it drove, if it does whatever these are
held-drives : (s t : WiredChipValue) → IsKept s t → DrivesStill (member_of s) (member_of t) → (p : ℕ) → drive (held_of t) p ≡ drive (held_of s) p
held-drives s t kept still p =
    ap (λ (core : List Bool). drives_with core p (chip_state t)) kept.core ∙ still s.chip.boundary.core p

module _ (R : ℕ → WiredChipValue → WiredChipValue → Type 0) where
  pub kept_cells : ((i : ℕ) (s t : WiredChipValue) → R i s t → IsKept s t) → (nets : List Net) (place : ℕ) (old new : List WiredChipValue) → EachFrom R place old new
      → AreWired nets place old → AreWired nets place new
  kept_cells kept nets place [] [] each wired = tt
  kept_cells kept nets place [] (t ∷ new) each wired = absurd each
  kept_cells kept nets place (s ∷ old) [] each wired = absurd each
  kept_cells kept nets place (s ∷ old) (t ∷ new) each wired =
      let k = kept place s t each.0 in
      (k.nets ∙ wired.0 ∙ sym (ap (λ (d : Device). map (cell_net nets place) d.cells) k.device), kept_cells kept nets (suc place) old new each.1 wired.1)

  -- devices that drive as before, by their place
  drives-at : ((i : ℕ) (s t : WiredChipValue) → R i s t → IsKept s t)
      → (place : ℕ) (old new : List WiredChipValue) → EachFrom R place old new → EachFrom Still place old new → (n p : ℕ)
      → unwrap_or (option_map (λ (m : Member). drive m p) (slice_get (map held_of new) n)) Nothing
      ≡ unwrap_or (option_map (λ (m : Member). drive m p) (slice_get (map held_of old) n)) Nothing
  drives-at kept place [] [] each still n p = refl
  drives-at kept place [] (t ∷ new) each still n p = absurd each
  drives-at kept place (s ∷ old) [] each still n p = absurd each
  drives-at kept place (s ∷ old) (t ∷ new) each still zero p = held-drives s t (kept place s t each.0) still.0 p
  drives-at kept place (s ∷ old) (t ∷ new) each still (suc n) p = drives-at kept (suc place) old new each.1 still.1 n p

  same-drives : ((i : ℕ) (s t : WiredChipValue) → R i s t → IsKept s t)
      → (place : ℕ) (old new : List WiredChipValue) → EachFrom R place old new → EachFrom Still place old new → (pins : List Pin)
      → map (pin_drive (map held_of new)) pins ≡ map (pin_drive (map held_of old)) pins
  same-drives kept place old new each still [] = refl
  same-drives kept place old new each still (pin ∷ pins) =
      λ i. drives-at kept place old new each still pin.device pin.port i ∷ same-drives kept place old new each still pins i

  -- the wires after a change of the devices that no driven level follows
  pub still_wired : ((i : ℕ) (s t : WiredChipValue) → R i s t → IsKept s t) → (old new : List WiredChipValue) (w : WiringValue) → IsWired old w
      → EachFrom R 0 old new → EachFrom Still 0 old new → IsWired new w
  still_wired kept old new w wired each still = record {
    drives = wired.drives ∙ sym (same-drives kept 0 old new each still (all_pins w.nets));
    cells = kept_cells kept w.nets 0 old new each wired.cells;
    pins = subst (λ (n : ℕ). ArePinsBelow n (all_pins w.nets)) (sym (each_long R 0 old new each)) wired.pins;
  }

  -- a change that leaves alone what each device drives
  pub each_still : ((i : ℕ) (s t : WiredChipValue) → R i s t → DrivesStill (member_of s) (member_of t)) → (place : ℕ) (old new : List WiredChipValue)
      → EachFrom R place old new → EachFrom Still place old new
  each_still still place [] [] each = tt
  each_still still place [] (t ∷ new) each = absurd each
  each_still still place (s ∷ old) [] each = absurd each
  each_still still place (s ∷ old) (t ∷ new) each = (still place s t each.0, each_still still (suc place) old new each.1)

  pub all_told : ((i : ℕ) (s t : WiredChipValue) → R i s t → t.chip.trst ≡ s.chip.trst) → (trst : Bool) (place : ℕ) (old new : List WiredChipValue) → EachFrom R place old new
      → AllTold trst old → AllTold trst new
  all_told same trst place [] [] each told = tt
  all_told same trst place [] (t ∷ new) each told = absurd each
  all_told same trst place (s ∷ old) [] each told = absurd each
  all_told same trst place (s ∷ old) (t ∷ new) each told = (same place s t each.0 ∙ told.0, all_told same trst (suc place) old new each.1 told.1)

  -- chips that became the images of those before
  pub all_chips : (f : ChipState → ChipState) → ((i : ℕ) (s t : WiredChipValue) → R i s t → chip_state t ≡ f (chip_state s)) → (place : ℕ) (old new : List WiredChipValue)
      → EachFrom R place old new → map chip_state new ≡ map f (map chip_state old)
  all_chips f image place [] [] each = refl
  all_chips f image place [] (t ∷ new) each = absurd each
  all_chips f image place (s ∷ old) [] each = absurd each
  all_chips f image place (s ∷ old) (t ∷ new) each = λ i. image place s t each.0 i ∷ all_chips f image (suc place) old new each.1 i

pub chips_members : (chips : List WiredChipValue) → members (map chip_state chips) ≡ map member_of chips
chips_members [] = refl
chips_members (s ∷ chips) = ap (λ (ms : List Member). member_of s ∷ ms) (chips_members chips)

-- ---- core bits

-- the core bits in force, by the chips
pub chips_in_force : (nets : List Net) (chips : List WiredChipValue) → in_force nets (map member_of chips) ≡ map held_of chips
    → in_force nets (members (map chip_state chips)) ≡ map held_of chips
chips_in_force nets chips force = ap (in_force nets) (chips_members chips) ∙ force

abbrev told_of : (ℕ → Bool) → Option Member → Told
told_of sees held = record { sight = sees; core = unwrap_or (option_map (λ (m : Member). m.core) held) [] }

-- what the device at a place is told, of core bits those that its boundary holds
pub told_here : (nets : List Net) (held : List Member) (place : ℕ) (s : WiredChipValue) → slice_get held place ≡ Some (held_of s)
    → told_by (sees_under nets held place) s ≡ told_under nets held place
told_here nets held place s here = sym (ap (told_of (sees_under nets held place)) here)

-- ---- a rising edge

module _ (w : WiringValue) (tms tdi : Bool) (all : List WiredChipValue) (wired : IsWired all w) where
  abbrev before : List Member
  before = map held_of all

  -- with its place known
  record Risen (place : ℕ) (s t : WiredChipValue) : Type 0 where
    it : Rises w tms tdi all place s t
    chip : chip_state t ≡ chain.rise s.chip.trst tms (tdi_before tdi (drop (place + 1) (map chip_state all))) (told_under w.nets before place) (chip_state s)

  placed : (place : ℕ) (old new : List WiredChipValue) → ((j : ℕ) → slice_get all (place + j) ≡ slice_get old j) → AreWired w.nets place old
      → EachFrom (Rises w tms tdi all) place old new → EachFrom Risen place old new
  placed place [] [] at cells each = tt
  placed place [] (t ∷ new) at cells each = absurd each
  placed place (s ∷ old) [] at cells each = absurd each
  placed place (s ∷ old) (t ∷ new) at cells each =
      let same : place + 0 ≡ place = omega arith in
      let there : slice_get all place ≡ Some s = sym (ap (slice_get all) same) ∙ at 0 in
      let here : slice_get before place ≡ Some (held_of s) = slice_get-map held_of all place ∙ ap (option_map held_of) there in (
        record {
          it = each.0;
          chip = each.0.chip before (record { here = here; drives = wired.drives; nets = cells.0 })
              ∙ ap (λ (about : Told). chain.rise s.chip.trst tms (tdi_before tdi (drop (place + 1) (map chip_state all))) about (chip_state s))
              (told_here w.nets before place s here);
        },
        placed (suc place) old new (λ j. let next : suc place + j ≡ place + suc j = omega arith in ap (slice_get all) next ∙ at (suc j)) cells.1 each.1,
      )

  all-placed : (new : List WiredChipValue) → EachFrom (Rises w tms tdi all) 0 all new → EachFrom Risen 0 all new
  all-placed new each = placed 0 all new (λ j. let same : 0 + j ≡ j = omega arith in ap (slice_get all) same) wired.cells each

  chips-from : (trst : Bool) (place : ℕ) (old new : List WiredChipValue) → drop place (map chip_state all) ≡ map chip_state old → AllTold trst old → EachFrom Risen place old new
      → map chip_state new ≡ rise_all trst tms tdi (told_under w.nets before) place (map chip_state old)
  chips-from trst place [] [] behind told each = refl
  chips-from trst place [] (t ∷ new) behind told each = absurd each
  chips-from trst place (s ∷ old) [] behind told each = absurd each
  chips-from trst place (s ∷ old) (t ∷ new) behind told each =
      let next : place + 1 ≡ suc place = omega arith in
      let rest : drop (suc place) (map chip_state all) ≡ map chip_state old = drop-tail place (map chip_state all) (chip_state s) (map chip_state old) behind in
      let tdi-is = ap (λ (n : ℕ). tdi_before tdi (drop n (map chip_state all))) next ∙ ap (tdi_before tdi) rest in
      let chip-is : chip_state t ≡ chain.rise trst tms (tdi_before tdi (map chip_state old)) (told_under w.nets before place) (chip_state s) =
      each.0.chip
      ∙ ap (λ (b : Bool). chain.rise s.chip.trst tms b (told_under w.nets before place) (chip_state s)) tdi-is
      ∙ ap (λ (b : Bool). chain.rise b tms (tdi_before tdi (map chip_state old)) (told_under w.nets before place) (chip_state s)) told.0 in
      λ i. chip-is i ∷ chips-from trst (suc place) old new rest told.1 each.1 i
    where
      drop-tail : (k : ℕ) (l : List ChipState) (x : ChipState) (xs : List ChipState) → drop k l ≡ x ∷ xs → drop (suc k) l ≡ xs
      drop-tail zero l x xs e = ap (drop 1) e
      drop-tail (suc k) [] x xs e = ap (drop 1) e
      drop-tail (suc k) (y ∷ l) x xs e = drop-tail k l x xs e

  pub rises_still : (new : List WiredChipValue) → EachFrom (Rises w tms tdi all) 0 all new → EachFrom Still 0 all new
  rises_still new each =
      each_still Risen
      (λ i s t r core p. ap (drives_with core p) r.chip
      ∙ rise_drives s.chip.trst tms (tdi_before tdi (drop (i + 1) (map chip_state all))) (told_under w.nets before i) (chip_state s) core p)
      0 all new (all-placed new each)

  pub rises_chips : (trst : Bool) (new : List WiredChipValue) → EachFrom (Rises w tms tdi all) 0 all new → AllTold trst all
      → in_force w.nets (map member_of all) ≡ map held_of all
      → map chip_state new ≡ rise_all trst tms tdi (meant.told w.nets (members (map chip_state all))) 0 (map chip_state all)
  rises_chips trst new each told force =
      chips-from trst 0 all new refl told (all-placed new each)
      ∙ sym (ap (λ (held : List Member). rise_all trst tms tdi (told_under w.nets held) 0 (map chip_state all)) (chips_in_force w.nets all force))

-- ---- a falling edge, and TRST

-- the cells of the devices are the same
pub same-cells : (R : ℕ → WiredChipValue → WiredChipValue → Type 0) → ((i : ℕ) (s t : WiredChipValue) → R i s t → IsKept s t) → (place : ℕ) (old new : List WiredChipValue)
    → EachFrom R place old new → map cells_of old ≡ map cells_of new
same-cells R kept place [] [] each = refl
same-cells R kept place [] (t ∷ new) each = absurd each
same-cells R kept place (s ∷ old) [] each = absurd each
same-cells R kept place (s ∷ old) (t ∷ new) each =
    ap (λ (d : Device). d.cells ∷ map cells_of old) (sym (kept place s t each.0).device)
    ∙ ap (λ (l : List (List Cell)). cells_of t ∷ l) (same-cells R kept (suc place) old new each.1)

-- the wires once all is put anew
pub anew_wired : (R : ℕ → WiredChipValue → WiredChipValue → Type 0) → ((i : ℕ) (s t : WiredChipValue) → R i s t → IsKept s t) → (old new : List WiredChipValue) (w v : WiringValue)
    → IsWired old w → EachFrom R 0 old new → v ≡ record w { drives = map (pin_drive (map held_of new)) (all_pins w.nets) } → IsWired new v
anew_wired R kept old new w v wired each is = subst (λ (x : WiringValue). IsWired new x) (sym is) (record {
  drives = refl;
  cells = kept_cells R kept w.nets 0 old new each wired.cells;
  pins = subst (λ (n : ℕ). ArePinsBelow n (all_pins w.nets)) (sym (each_long R 0 old new each)) wired.pins;
})

-- the wires once what the driving pins drive is put anew
pub driven_wired : (R : ℕ → WiredChipValue → WiredChipValue → Type 0) → ((i : ℕ) (s t : WiredChipValue) → R i s t → IsKept s t) → (old new : List WiredChipValue) (w v : WiringValue)
    → IsWired old w → EachFrom R 0 old new
    → ((before : List WiredChipValue) → map cells_of before ≡ map cells_of new → w.drives ≡ map (pin_drive (map held_of before)) (all_pins w.nets)
    → v ≡ record w { drives = map (pin_drive (map held_of new)) (all_pins w.nets) }) → IsWired new v
driven_wired R kept old new w v wired each is =
    anew_wired R kept old new w v wired each (is old (same-cells R kept 0 old new each) wired.drives)

-- what TRST does to the chips
pub trst_chips : (trst : Bool) (old new : List WiredChipValue) → EachFrom (TakesTrst trst) 0 old new
    → map chip_state new ≡ (if trst then map chain.assert_trst (map chip_state old) else map chip_state old)
trst_chips true old new each = all_chips (TakesTrst true) chain.assert_trst (λ i s t r. r.chip) 0 old new each
trst_chips false old new each = all_chips (TakesTrst false) (λ c. c) (λ i s t r. r.chip) 0 old new each ∙ map-id (map chip_state old)
  where
    map-id : (l : List ChipState) → map (λ c. c) l ≡ l
    map-id [] = refl
    map-id (c ∷ l) = ap (λ (r : List ChipState). c ∷ r) (map-id l)

pub trst_told : (trst : Bool) (place : ℕ) (old new : List WiredChipValue) → EachFrom (TakesTrst trst) place old new → AllTold trst new
trst_told trst place [] [] each = tt
trst_told trst place [] (t ∷ new) each = absurd each
trst_told trst place (s ∷ old) [] each = absurd each
trst_told trst place (s ∷ old) (t ∷ new) each = (each.0.told, trst_told trst (suc place) old new each.1)
