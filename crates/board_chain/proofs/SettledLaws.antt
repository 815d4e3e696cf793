-- What keeps a chain settled: changes of registers alone, and what is put anew behind them.
use Rattle.std.proofs.Common.{◌≡◌, ◌+◌, ◌*◌, ℕ, zero, suc, Bool, true, false, List, [], ◌∷◌, length, map, drop, get_or, slice_get, slice_index, refl, sym, ap, subst, ◌∙◌, arith}
use Rattle.std.specs.List.{list_any}
use Rattle.std.proofs.lemmas.List.{length-map}
use Rattle.jt_bits.specs.Words.{bit_of}
use Rattle.bsdl_device.specs.declared.Cell.{Cell}
use Rattle.pin_nets.specs.declared.Drive.{Drive}
use Rattle.pin_nets.specs.declared.Follow.{Follow}
use Rattle.pin_nets.specs.Wired.{Net}
use Rattle.board_plan.specs.Planned.{all_pins}
use Rattle.board_chips.specs.WiringValues.{WiringValue}
use Rattle.board_model.specs.Cells.{Member}
use Rattle.board_model.specs.Chain.{ChipState}
use Rattle.board_model.specs.Following.{AllDriveAlike, AreHeld, InOtherRegisters, IsAmong, IsHeld, IsOrderOf, Placed, after_strings}
use Rattle.board_model.specs.Nets.{core_at, in_force, pin_drive}
use Rattle.board_model.proofs.Held.{held_in_force, held_stay}
use Rattle.board_model.proofs.InOrder.{strings_in_order}
use Rattle.board_model.proofs.OtherRegisters.{order_of_stands}
use Rattle.boundary.specs.Driven.{Tells}
use Rattle.board_chips.specs.Driving.{cells_of, driving_from, leaves_at}
use Rattle.board_chips.specs.DrivingTable.{DrivingTable}
use Rattle.board_chips.specs.WiredChips.{AllTold, IsKept, WiredChipValue, chip_state, held_of, member_of}
use Rattle.board_chips.specs.Strings.{AreStrung, less_core, placed_of, puts}
use Rattle.board_chips.specs.Tables.{IsApart, IsDriving, IsTable}
use Rattle.board_chips.specs.Wires.{IsWired}
use Rattle.board_chips.specs.declared.strings.WiredString.{WiredString}
use Rattle.board_chips.proofs.StringLaws.{by_less}
use Rattle.board_chain.specs.Chains.{ChainValue}
use Rattle.board_chain.specs.Settled.{Becomes, IsSettled, Keeps, SettledValue}
use Rattle.board_chain.specs.Sweeping.{EachFrom, Still}
use Rattle.board_chain.proofs.ChainLaws.{same-cells, still_wired}

-- ---- devices in other registers

pub keeps : (R : ℕ → WiredChipValue → WiredChipValue → Type 0) → ((i : ℕ) (s t : WiredChipValue) → R i s t → IsKept s t) → (place : ℕ) (old new : List WiredChipValue)
    → EachFrom R place old new → EachFrom Keeps place old new
keeps R kept place [] [] each = tt
keeps R kept place [] (t ∷ new) each = absurd each
keeps R kept place (s ∷ old) [] each = absurd each
keeps R kept place (s ∷ old) (t ∷ new) each = (kept place s t each.0, keeps R kept (suc place) old new each.1)

one-other : (s t : WiredChipValue) → IsKept s t → member_of t ≡ record (member_of s) { registers = (member_of t).registers }
one-other s t k = λ i. record {
  name = k.name i;
  device = k.device i;
  core = k.constants i;
  follows = k.follows i;
  extest_update = k.extest_update i;
  registers = (member_of t).registers;
}

in-other : (place : ℕ) (old new : List WiredChipValue) → EachFrom Keeps place old new → InOtherRegisters (map member_of old) (map member_of new)
in-other place [] [] each = tt
in-other place [] (t ∷ new) each = absurd each
in-other place (s ∷ old) [] each = absurd each
in-other place (s ∷ old) (t ∷ new) each = (one-other s t each.0, in-other (suc place) old new each.1)

alike : (place : ℕ) (old new : List WiredChipValue) → EachFrom Keeps place old new → EachFrom Still place old new → AllDriveAlike (map member_of old) (map member_of new)
alike place [] [] each still = tt
alike place [] (t ∷ new) each still = absurd each
alike place (s ∷ old) [] each still = absurd each
alike place (s ∷ old) (t ∷ new) each still = (
  record { same = one-other s t each.0; drives = λ core port. sym (still.0 core port) },
  alike (suc place) old new each.1 still.1,
)

held-one : (s t : WiredChipValue) → IsKept s t → IsHeld (member_of s) (held_of s) → IsHeld (member_of t) (held_of t)
held-one s t k is = record {
  same = refl;
  long = ap (λ (l : List Bool). length l) k.core ∙ is.long ∙ sym (ap (λ (l : List Bool). length l) k.constants);
  constant = λ bit none.
      ap (λ (l : List Bool). bit_of l bit) k.core
      ∙ is.constant bit (λ f among. none f (subst (λ (fs : List Follow). IsAmong f fs) (sym k.follows) among))
      ∙ sym (ap (λ (l : List Bool). bit_of l bit) k.constants);
}

held-kept : (place : ℕ) (old new : List WiredChipValue) → EachFrom Keeps place old new → AreHeld (map member_of old) (map held_of old)
    → AreHeld (map member_of new) (map held_of new)
held-kept place [] [] each held = tt
held-kept place [] (t ∷ new) each held = absurd each
held-kept place (s ∷ old) [] each held = absurd each
held-kept place (s ∷ old) (t ∷ new) each held = (held-one s t each.0 held.0, held-kept (suc place) old new each.1 held.1)

cores-kept : (place : ℕ) (old new : List WiredChipValue) → EachFrom Keeps place old new → (i : ℕ) → core_at (map held_of old) i ≡ core_at (map held_of new) i
cores-kept place [] [] each i = refl
cores-kept place [] (t ∷ new) each i = absurd each
cores-kept place (s ∷ old) [] each i = absurd each
cores-kept place (s ∷ old) (t ∷ new) each zero = sym each.0.core
cores-kept place (s ∷ old) (t ∷ new) each (suc i) = cores-kept (suc place) old new each.1 i

are-held : (nets : List Net) (chips : List WiredChipValue) → in_force nets (map member_of chips) ≡ map held_of chips → AreHeld (map member_of chips) (map held_of chips)
are-held nets chips force = subst (AreHeld (map member_of chips)) force (held_in_force nets (map member_of chips))

pub kept_cells_of : (old new : List WiredChipValue) → EachFrom Keeps 0 old new → map cells_of old ≡ map cells_of new
kept_cells_of old new each = same-cells Keeps (λ i s t k. k) 0 old new each

-- ---- where nothing is driven anew

pub quiet_settled : (old new : List WiredChipValue) (w : WiringValue) (d : DrivingTable) (strings : List WiredString) → IsSettled old w d strings
    → EachFrom Keeps 0 old new → EachFrom Still 0 old new → IsSettled new w d strings
quiet_settled old new w d strings is each still = record {
  wired = still_wired Keeps (λ i s t k. k) old new w is.wired each still;
  driving = subst (λ (cs : List (List Cell)). IsDriving cs w d) (kept_cells_of old new each) is.driving;
  apart = is.apart;
  strung = subst (λ (cs : List (List Cell)). AreStrung w.nets cs strings) (kept_cells_of old new each) is.strung;
  order = order_of_stands w.nets (map member_of old) (map member_of new) (map placed_of strings) (in-other 0 old new each) is.order;
  in_force =
      held_stay w.nets (map member_of old) (map member_of new) (map held_of old) (map held_of new) (alike 0 old new each still) is.in_force
      (held-kept 0 old new each (are-held w.nets old is.in_force)) (cores-kept 0 old new each);
}

-- ---- where all is put anew

pub anew_settled : (old mid new : List WiredChipValue) (w0 w1 w2 : WiringValue) (d0 d1 : DrivingTable) (strings : List WiredString) → IsSettled old w0 d0 strings
    → EachFrom Keeps 0 old mid → w1.nets ≡ w0.nets → IsDriving (map cells_of mid) w1 d1 → d1 ≡ record d0 { put = d1.put }
    → w2.nets ≡ w1.nets → IsWired new w2 → map held_of new ≡ after_strings w1.nets (map placed_of strings) (map held_of mid)
    → map less_core new ≡ map less_core mid
    → ((k : ℕ) → list_any (puts k) strings ≡ false → slice_get w2.drives k ≡ slice_get w1.drives k) → IsSettled new w2 d1 strings
anew_settled old mid new w0 w1 w2 d0 d1 strings is each first driving table second wired held less others =
    let order : List Placed = map placed_of strings in
    let nets : w2.nets ≡ w0.nets = second ∙ first in
    let members-are : map member_of new ≡ map member_of mid = by_less member_of (λ s. refl) new mid less in
    let cells-are : map cells_of new ≡ map cells_of mid = by_less cells_of (λ s. refl) new mid less in
    let apart : IsApart strings d1 = subst (IsApart strings) (sym table) (record { each = is.apart.each }) in
    let orders : IsOrderOf w0.nets (map member_of mid) order =
    order_of_stands w0.nets (map member_of old) (map member_of mid) order (in-other 0 old mid each) is.order in
    let force : after_strings w0.nets order (map held_of mid) ≡ in_force w0.nets (map member_of mid) =
    strings_in_order w0.nets (map member_of mid) (map held_of mid) order orders.free
    (held-kept 0 old mid each (are-held w0.nets old is.in_force)) orders.ordered orders.all in
    record {
      wired = wired;
      driving = record {
        table = subst (λ (ns : List Net). IsTable (driving_from (map cells_of new) 0 (all_pins ns)) (length (map cells_of new)) d1) (sym second)
            (subst (λ (cs : List (List Cell)). IsTable (driving_from cs 0 (all_pins w1.nets)) (length cs) d1) (sym cells-are) driving.table);
        put = record {
          long = driving.put.long;
          each = λ i j b p block words within slot.
              subst (λ (cs : List (List Cell)). Tells p (leaves_at cs b.device (b.first + j)) j (slice_get w2.drives (slice_index d1.pins (64 * i + j)))) (sym cells-are)
              (subst (Tells p (leaves_at (map cells_of mid) b.device (b.first + j)) j)
              (sym (others (slice_index d1.pins (64 * i + j)) (apart.each i j b block within slot)))
              (driving.put.each i j b p block words within slot));
        };
        full = ap (λ (ds : List Drive). length ds) wired.drives ∙ length-map (all_pins w2.nets) (pin_drive (map held_of new));
      };
      apart = apart;
      strung = subst (λ (ns : List Net). AreStrung ns (map cells_of new) strings) (sym nets)
          (subst (λ (cs : List (List Cell)). AreStrung w0.nets cs strings) (kept_cells_of old mid each ∙ sym cells-are) is.strung);
      order = subst (λ (ns : List Net). IsOrderOf ns (map member_of new) order) (sym nets)
          (subst (λ (ms : List Member). IsOrderOf w0.nets ms order) (sym members-are) orders);
      in_force =
          ap (λ (ns : List Net). in_force ns (map member_of new)) nets
          ∙ ap (in_force w0.nets) members-are
          ∙ sym force
          ∙ sym (held ∙ ap (λ (ns : List Net). after_strings ns order (map held_of mid)) first);
    }

-- ---- what the strings leave alone

pub same_chips : (new mid : List WiredChipValue) → map less_core new ≡ map less_core mid → map chip_state new ≡ map chip_state mid
same_chips new mid less = by_less chip_state (λ s. refl) new mid less

told-as : (trst : Bool) (new mid : List WiredChipValue) → map (λ (s : WiredChipValue). s.chip.trst) new ≡ map (λ (s : WiredChipValue). s.chip.trst) mid
    → AllTold trst mid → AllTold trst new
told-as trst [] mid e told = tt
told-as trst (t ∷ new) [] e told = absurd (omega (arith, ap (λ (l : List Bool). length l) e))
told-as trst (t ∷ new) (s ∷ mid) e told =
    (ap (λ (l : List Bool). get_or l 0 true) e ∙ told.0, told-as trst new mid (ap (drop 1) e) told.1)

pub same_told : (trst : Bool) (new mid : List WiredChipValue) → map less_core new ≡ map less_core mid → AllTold trst mid → AllTold trst new
same_told trst new mid less = told-as trst new mid (by_less (λ (s : WiredChipValue). s.chip.trst) (λ s. refl) new mid less)

pub same_long : (new mid : List WiredChipValue) → map less_core new ≡ map less_core mid → length new ≡ length mid
same_long new mid less = sym (length-map new less_core) ∙ ap (λ (l : List WiredChipValue). length l) less ∙ length-map mid less_core

-- ---- what contracts see

pub seen_as : (f : SettledValue → List ChipState → List ChipState) {trst : Bool → Bool} {a b new : SettledValue} → a ≡ b → Becomes trst (f a) a new → Becomes trst (f b) b new
seen_as f {trst} {a} {b} {new} same is = subst (λ (v : SettledValue). Becomes trst (f v) v new) same is

-- the same in a chain where this level of TRST was told last
abbrev pub in_chain : Bool → SettledValue → ChainValue
in_chain level s = record { trst = level; nets = s.nets; chips = map chip_state s.chips }

pub chain_becomes : (trst : Bool → Bool) (f : ChainValue → List ChipState → List ChipState) (level : Bool) (old new : SettledValue) (v : ChainValue)
    → in_chain level old ≡ v → Becomes trst (f (in_chain level old)) old new
    → in_chain (trst level) new ≡ record v { trst = trst v.trst; chips = f v v.chips }
chain_becomes trst f level old new v same is =
    subst (λ (x : ChainValue). in_chain (trst level) new ≡ record x { trst = trst x.trst; chips = f x x.chips }) same
    (λ i. record { trst = trst level; nets = is.nets i; chips = is.chips i })
