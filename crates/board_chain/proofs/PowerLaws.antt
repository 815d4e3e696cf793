-- The devices of a plan, powered up, as the chain means them.
use Rattle.std.proofs.Common.{◌≡◌, ℕ, suc, List, [], ◌∷◌, length, map, refl, sym, ap, subst, ◌∙◌}
use Rattle.std.proofs.lemmas.List.{length-map}
use Rattle.jt_tap.specs.declared.State.TheVariants.{Reset}
use Rattle.bsdl_device.specs.declared.Cell.{Cell}
use Rattle.pin_nets.specs.declared.Drive.{Drive}
use Rattle.pin_nets.specs.Wired.{Net}
use Rattle.board_plan.specs.Planned.{all_pins}
use Rattle.board_plan.specs.Planned as planned
use Rattle.board_chips.specs.WiringValues.{WiringValue}
use Rattle.board_model.specs.Cells.{Member}
use Rattle.board_model.specs.Chain.{ChipState}
use Rattle.board_model.specs.Following.{AreHeld, IsOrderOf, Placed, after_strings}
use Rattle.board_model.specs.Nets.{in_force, pin_drive}
use Rattle.board_model.specs.Planned.{powered_up}
use Rattle.board_model.specs.Resting.{chip_at_rest}
use Rattle.board_model.proofs.InOrder.{strings_in_order}
use Rattle.board_chips.specs.Building.{wired_chips_of}
use Rattle.board_chips.specs.Driving.{cells_of, driving_from, driving_of}
use Rattle.board_chips.specs.DrivingTable.{DrivingTable}
use Rattle.board_chips.specs.WiredChips.{WiredChipValue, chip_state, held_of, member_of}
use Rattle.board_chips.specs.Strings.{AreStrung, less_core, placed_of}
use Rattle.board_chips.specs.Tables.{IsApart, IsTable, WerePut}
use Rattle.board_chips.specs.Wires.{IsWired}
use Rattle.board_chips.specs.declared.strings.WiredString.{WiredString}
use Rattle.board_chips.proofs.StringLaws.{by_less}
use Rattle.board_chain.specs.Settled.{IsSettled}

pub chips_stand : (nets : List Net) (k : ℕ) (ms : List planned.Member) → map chip_state (wired_chips_of nets k ms) ≡ map (chip_at_rest Reset) (map powered_up ms)
chips_stand nets k [] = refl
chips_stand nets k (m ∷ ms) = ap (λ (r : List ChipState). chip_at_rest Reset (powered_up m) ∷ r) (chips_stand nets (suc k) ms)

pub chips_mean : (nets : List Net) (k : ℕ) (ms : List planned.Member) → map member_of (wired_chips_of nets k ms) ≡ map powered_up ms
chips_mean nets k [] = refl
chips_mean nets k (m ∷ ms) = ap (λ (r : List Member). powered_up m ∷ r) (chips_mean nets (suc k) ms)

pub chips_have : (nets : List Net) (k : ℕ) (ms : List planned.Member) → map cells_of (wired_chips_of nets k ms) ≡ map (λ (m : planned.Member). m.device.cells) ms
chips_have nets k [] = refl
chips_have nets k (m ∷ ms) = ap (λ (r : List (List Cell)). m.device.cells ∷ r) (chips_have nets (suc k) ms)

-- at first each core bit is its constant
pub chips_hold : (nets : List Net) (k : ℕ) (ms : List planned.Member) → AreHeld (map member_of (wired_chips_of nets k ms)) (map held_of (wired_chips_of nets k ms))
chips_hold nets k [] = tt
chips_hold nets k (m ∷ ms) = (record { same = refl; long = refl; constant = λ bit none. refl }, chips_hold nets (suc k) ms)

-- ---- what was put, and the strings behind it

pub first_settled : (old new : List WiredChipValue) (w1 w2 : WiringValue) (d : DrivingTable) (strings : List WiredString) → IsWired old w1
    → AreHeld (map member_of old) (map held_of old) → AreStrung w1.nets (map cells_of old) strings → IsOrderOf w1.nets (map member_of old) (map placed_of strings)
    → IsTable (driving_of old w1.nets) (length old) d → ((cells : List (List Cell)) (drives : List Drive) → WerePut cells d.blocks d.pins d.put drives) → IsApart strings d
    → w2.nets ≡ w1.nets → IsWired new w2 → map held_of new ≡ after_strings w1.nets (map placed_of strings) (map held_of old)
    → map less_core new ≡ map less_core old → IsSettled new w2 d strings
first_settled old new w1 w2 d strings before holds strung order table put apart nets wired held less =
    let placed : List Placed = map placed_of strings in
    let members-are : map member_of new ≡ map member_of old = by_less member_of (λ s. refl) new old less in
    let cells-are : map cells_of new ≡ map cells_of old = by_less cells_of (λ s. refl) new old less in
    let force : after_strings w1.nets placed (map held_of old) ≡ in_force w1.nets (map member_of old) =
    strings_in_order w1.nets (map member_of old) (map held_of old) placed order.free holds order.ordered order.all in
    record {
      wired = wired;
      driving = record {
        table = subst (λ (ns : List Net). IsTable (driving_from (map cells_of new) 0 (all_pins ns)) (length (map cells_of new)) d) (sym nets)
            (subst (λ (cs : List (List Cell)). IsTable (driving_from cs 0 (all_pins w1.nets)) (length cs) d) (sym cells-are)
            (subst (λ (n : ℕ). IsTable (driving_of old w1.nets) n d) (sym (length-map old cells_of)) table));
        put = put (map cells_of new) w2.drives;
        full = ap (λ (ds : List Drive). length ds) wired.drives ∙ length-map (all_pins w2.nets) (pin_drive (map held_of new));
      };
      apart = apart;
      strung = subst (λ (ns : List Net). AreStrung ns (map cells_of new) strings) (sym nets)
          (subst (λ (cs : List (List Cell)). AreStrung w1.nets cs strings) (sym cells-are) strung);
      order = subst (λ (ns : List Net). IsOrderOf ns (map member_of new) placed) (sym nets)
          (subst (λ (ms : List Member). IsOrderOf w1.nets ms placed) (sym members-are) order);
      in_force =
          ap (λ (ns : List Net). in_force ns (map member_of new)) nets
          ∙ ap (in_force w1.nets) members-are
          ∙ sym force
          ∙ sym held;
    }
