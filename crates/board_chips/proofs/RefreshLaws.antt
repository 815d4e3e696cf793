-- What a refresh of the pins that a cell drives does, slot by slot and block by block.
use Rattle.std.proofs.Common.{◌≡◌, ◌≢◌, ◌<◌, ◌≤◌, ◌+◌, ◌*◌, ℕ, zero, suc, Bool, true, false, ◌&&◌, not, List, length, map, replicate, set, slice_get, slice_index, Some, refl, sym, ap, subst, ◌∙◌, arith, ⊎_elim}
use Rattle.std.specs.BTreeSet.{BTreeSet, contains_by}
use Rattle.std.specs.List.{Contains, list_any}
use Rattle.std.specs.Ordering.{nat_cmp}
use Rattle.std.proofs.lemmas.Bool.{cases_eq}
use Rattle.std.proofs.lemmas.List.{length-map}
use Rattle.std.proofs.lemmas.Option.{get_or_from_slice_get, none-some, same_Some, slice_get-get_or, slice_get_within}
use Rattle.jt_bits.specs.Packed.{has_bit}
use Rattle.bsdl_device.specs.declared.Cell.{Cell}
use Rattle.boundary.specs.Driven.{Tells}
use Rattle.boundary.specs.declared.DrivenCells.{DrivenCells}
use Rattle.pin_nets.specs.Wired.{Net}
use Rattle.pin_nets.specs.declared.Drive.{Drive}
use Rattle.board_plan.specs.Planned.{all_pins}
use Rattle.board_model.specs.Cells.{Member}
use Rattle.board_model.specs.Nets.{pin_drive}
use Rattle.board_chips.specs.Blocks.{AreParts, AreSlots, IsSlot, TellsBlock, slot_of, stands}
use Rattle.board_chips.specs.Driving.{cells_of, drives_at, driving_from, leaves_at}
use Rattle.board_chips.specs.WiredChips.{WiredChipValue, held_of}
use Rattle.board_chips.specs.Tables.{AreDrivenBelow, AreTargeted, IsApart, IsRefreshed, IsTable, IsTargeted, Settled, Settles, SlotsSettled, WasPut, WerePut, targets}
use Rattle.board_chips.specs.Strings.{puts}
use Rattle.board_chips.specs.declared.driving.Block.{Block}
use Rattle.board_chips.specs.declared.driving.DrivingPin.{DrivingPin}
use Rattle.board_chips.specs.DrivingTable.{DrivingTable}
use Rattle.board_chips.specs.declared.strings.WiredString.{WiredString}
use Rattle.boundary.proofs.MaskLaws.{zero_bit}
use Rattle.board_chips.proofs.BlockLaws.{no, stood}
use Rattle.board_chips.proofs.DrivingLaws.{entry_of_pin, chips_cells}
use Rattle.board_chips.proofs.ListLaws.{set_here, set_there}
use Rattle.board_chips.proofs.SettleLaws.{all_settled, put_settled, settles_put}

-- ---- slot by slot

pub part_more : (slots left after j : ℕ) → j < 64 → has_bit left j ≡ true → ((k : ℕ) → k < 64 → k ≢ j → has_bit after k ≡ has_bit left k)
    → ((k : ℕ) → k < 64 → has_bit left k ≡ true → has_bit slots k ≡ true) → (k : ℕ) → k < 64 → has_bit after k ≡ true → has_bit slots k ≡ true
part_more slots left after j h marked others part k within now = ⊎_elim
    (λ (same : k ≡ j). part k within (ap (has_bit left) same ∙ marked))
    (λ (apart : k ≢ j). part k within (sym (others k within apart) ∙ now))
    (cases_eq k j)

pub done_more : (target ds es : List Drive) (pins : List ℕ) (at slots left after j : ℕ) (d : Drive) → es ≡ set ds (slice_index pins (at + j)) d
    → slice_get target (slice_index pins (at + j)) ≡ Some d → length ds ≡ length target → ((k : ℕ) → k < 64 → k ≢ j → has_bit after k ≡ has_bit left k)
    → ((k : ℕ) → k < 64 → has_bit slots k ≡ true → has_bit left k ≡ false → Settled target ds (slice_index pins (at + k)))
    → (k : ℕ) → k < 64 → has_bit slots k ≡ true → has_bit after k ≡ false → Settled target es (slice_index pins (at + k))
done_more target ds es pins at slots left after j d is aims long others done k within marked gone = ⊎_elim
    (λ (same : k ≡ j).
    let pin : slice_index pins (at + j) ≡ slice_index pins (at + k) = ap (λ (n : ℕ). slice_index pins (at + n)) (sym same) in
    subst (Settled target es) pin (put_settled target ds es (slice_index pins (at + j)) d is aims long))
    (λ (apart : k ≢ j).
    (settles_put target ds es (slice_index pins (at + j)) d is aims).each (slice_index pins (at + k))
    (done k within marked (sym (others k within apart) ∙ gone)))
    (cases_eq k j)

-- ---- one block

not_false : (a b : Bool) → a ≡ true → (a && not b) ≡ false → b ≡ true
not_false true true h e = refl
not_false true false h e = absurd (no (sym e))
not_false false b h e = absurd (no h)

pub block_settled : (cells : List (List Cell)) (ms : List Member) (target ds es : List Drive) (pins : List ℕ) (at : ℕ) (b : Block) (put now : DrivenCells) (changed : ℕ)
    → WasPut cells ms target ds pins at b put → TellsBlock cells ms b now → Settles target ds es → SlotsSettled target es pins at changed
    → ((j : ℕ) → j < 64 → has_bit changed j ≡ (has_bit b.slots j && not (stands put now j))) → SlotsSettled target es pins at b.slots
block_settled cells ms target ds es pins at b put now changed was tells settles settled is = record {
  each = λ j h marked. by j h marked (has_bit changed j) refl;
}
  where
    by : (j : ℕ) → j < 64 → has_bit b.slots j ≡ true → (c : Bool) → has_bit changed j ≡ c → Settled target es (slice_index pins (at + j))
    by j h marked true e = settled.each j h e
    by j h marked false e =
        settles.each (slice_index pins (at + j))
        (was.each j h marked now (tells.each j h) (not_false (has_bit b.slots j) (stands put now j) marked (sym (is j h) ∙ e)))

-- ---- block by block

pub was_put : (cells : List (List Cell)) (ms : List Member) (target ds es : List Drive) (blocks : List Block) (pins : List ℕ) (put : List DrivenCells) (i : ℕ) (b : Block) (p : DrivenCells)
    → WerePut cells blocks pins put ds → slice_get blocks i ≡ Some b → slice_get put i ≡ Some p → AreTargeted ms target pins (64 * i) b → Settles target ds es
    → WasPut cells ms target es pins (64 * i) b p
was_put cells ms target ds es blocks pins put i b p were at kept aims settles = record {
  each = λ j h marked now tells holds.
      settles.each (slice_index pins (64 * i + j))
      (stood p now (leaves_at cells b.device (b.first + j)) j (slice_get ds (slice_index pins (64 * i + j))) (drives_at ms b.device (b.first + j))
      (were.each i j b p at kept h marked) tells holds ∙ sym (aims.slots.each j h marked));
}

pub refreshed_more : (cells : List (List Cell)) (ms : List Member) (target ds es : List Drive) (blocks : List Block) (pins : List ℕ) (put : List DrivenCells) (i : ℕ) (b : Block) (now : DrivenCells)
    → slice_get blocks i ≡ Some b → i < length put → Settles target ds es → SlotsSettled target es pins (64 * i) b.slots → TellsBlock cells ms b now
    → ((k : ℕ) (x : Block) → k < i → slice_get blocks k ≡ Some x → IsRefreshed cells ms target ds pins put k x)
    → (k : ℕ) (x : Block) → k < i + 1 → slice_get blocks k ≡ Some x → IsRefreshed cells ms target es pins (set put i now) k x
refreshed_more cells ms target ds es blocks pins put i b now at inside settles settled tells done k x below there = ⊎_elim
    (λ (same : k ≡ i).
    let is : b ≡ x = same_Some b x (sym at ∙ sym (ap (slice_get blocks) same) ∙ there) in
    let own : IsRefreshed cells ms target es pins (set put i now) i b = record {
      settled = settled;
      tells = λ p kept. subst (TellsBlock cells ms b) (same_Some now p (sym (set_here put i now inside) ∙ kept)) tells;
    } in
    subst (λ (n : ℕ). IsRefreshed cells ms target es pins (set put i now) n x) (sym same) (subst (IsRefreshed cells ms target es pins (set put i now) i) is own))
    (λ (apart : k ≢ i).
    let old = done k x (omega arith) there in
    record {
      settled = record { each = λ j h marked. settles.each (slice_index pins (64 * k + j)) (old.settled.each j h marked) };
      tells = λ p kept. old.tells p (sym (set_there put i k now apart) ∙ kept);
    })
    (cases_eq k i)

pub rest_more : (put first : List DrivenCells) (i : ℕ) (now : DrivenCells) → ((k : ℕ) → i ≤ k → slice_get put k ≡ slice_get first k)
    → (k : ℕ) → i + 1 ≤ k → slice_get (set put i now) k ≡ slice_get first k
rest_more put first i now same k h = let apart : k ≢ i = λ e. absurd (omega (arith, h, e)) in set_there put i k now apart ∙ same k (omega arith)

-- ---- the whole table

module _ (chips : List WiredChipValue) (nets : List Net) where
  abbrev its-cells : List (List Cell)
  its-cells = map cells_of chips

  abbrev pub entries : List DrivingPin
  entries = driving_from its-cells 0 (all_pins nets)

  abbrev its-members : List Member
  its-members = map held_of chips

  pub targeted : (e : DrivingPin) → Contains entries e → IsTargeted its-members (targets chips nets) e
  targeted e has =
      let there = slice_get-get_or entries has.0 e has.1 ∙ ap Some has.2 in
      let r = entry_of_pin its-cells its-members (chips_cells chips) 0 (all_pins nets) has.0 e there in
      let pin : e.pin ≡ r.i = omega (arith, r.pin) in
      record { device = r.device; pin = ap (slice_get (targets chips nets)) pin ∙ r.drives }

  pub table_targeted : (d : DrivingTable) → IsTable entries (length its-cells) d → (i : ℕ) (b : Block) → slice_get d.blocks i ≡ Some b
      → AreTargeted its-members (targets chips nets) d.pins (64 * i) b
  table_targeted d t i b at =
      let block = t.slots.within i b at in
      record {
        device = omega (arith, block.device, length-map chips cells_of, length-map chips held_of);
        first = block.first;
        slots = record {
          each = λ j h marked. (targeted (slot_of d.pins i b j) (t.parts.first (slot_of d.pins i b j) (t.slots.each i j b at h marked))).pin;
        };
      }

  pub rest_targeted : (d : DrivingTable) → IsTable entries (length its-cells) d → (k : ℕ) (e : DrivingPin) → slice_get d.rest k ≡ Some e
      → IsTargeted its-members (targets chips nets) e
  rest_targeted d t k e at =
      targeted e (t.parts.second e (k, slice_get_within d.rest k e at, get_or_from_slice_get d.rest k e e at))

  module _ (d : DrivingTable) (t : IsTable entries (length its-cells) d) (drives after : List Drive) (put : List DrivenCells)
      (blocks : (i : ℕ) (b : Block) → slice_get d.blocks i ≡ Some b → IsRefreshed its-cells its-members (targets chips nets) drives d.pins put i b)
      (settles : Settles (targets chips nets) drives after)
      (rest : (k : ℕ) (e : DrivingPin) → slice_get d.rest k ≡ Some e → Settled (targets chips nets) after e.pin) where
    slot-settled : (e : DrivingPin) → IsSlot d.blocks d.pins e → Settled (targets chips nets) after e.pin
    slot-settled e s =
        let pin : slice_index d.pins (64 * s.i + s.j) ≡ e.pin = ap (λ (x : DrivingPin). x.pin) s.is in
        subst (Settled (targets chips nets) after) pin
        (settles.each (slice_index d.pins (64 * s.i + s.j)) ((blocks s.i s.b s.at).settled.each s.j s.within s.marked))

    pub entries_settled : (j : ℕ) (e : DrivingPin) → slice_get entries j ≡ Some e → Settled (targets chips nets) after e.pin
    entries_settled j e at = ⊎_elim
        (λ (close : Contains t.close e). slot-settled e (t.slots.all e close))
        (λ (other : Contains d.rest e). rest other.0 e (slice_get-get_or d.rest other.0 e other.1 ∙ ap Some other.2))
        (t.parts.both e (j, slice_get_within entries j e at, get_or_from_slice_get entries j e e at))

    pub put_after : length put ≡ length d.blocks → WerePut its-cells d.blocks d.pins put after
    put_after long = record {
      long = long;
      each = λ i j b p at kept h marked.
          let r = blocks i b at in
          let is : slice_get after (slice_index d.pins (64 * i + j)) ≡ Some (drives_at its-members b.device (b.first + j)) =
          settles.each (slice_index d.pins (64 * i + j)) (r.settled.each j h marked) ∙ (table_targeted d t i b at).slots.each j h marked in
          subst (Tells p (leaves_at its-cells b.device (b.first + j)) j) (sym is) ((r.tells p kept).each j h);
    }

    pub all_after : (before : List WiredChipValue) → map cells_of before ≡ its-cells → Settles (targets chips nets) (map (pin_drive (map held_of before)) (all_pins nets)) after
        → after ≡ targets chips nets
    all_after before same whole =
        all_settled its-cells its-members (map held_of before) (chips_cells chips) (chips_cells before ∙ same) (all_pins nets) after whole entries_settled

-- ---- the table as it is made

pub all_within : (chips : List WiredChipValue) (nets : List Net) → AreDrivenBelow (length chips) (entries chips nets)
all_within chips nets = λ e has. omega (arith, (targeted chips nets e has).device, length-map chips held_of)

-- the pins of a division that go into blocks stand there
pub slots_made : (driving close given : List DrivingPin) (n : ℕ) (d : DrivingTable) → AreParts driving close d.rest
    → given ≡ close → ((m : ℕ) → AreDrivenBelow m given → AreSlots given m d.blocks d.pins) → AreDrivenBelow n driving
    → AreSlots close n d.blocks d.pins
slots_made driving close given n d parts is slots within =
    let below : AreDrivenBelow n given = λ e has. within e (parts.first e (subst (λ (l : List DrivingPin). Contains l e) is has)) in
    subst (λ (l : List DrivingPin). AreSlots l n d.blocks d.pins) is (slots n below)

pub table_made : (driving close given : List DrivingPin) (n : ℕ) (d : DrivingTable) → AreParts driving close d.rest
    → given ≡ close → ((m : ℕ) → AreDrivenBelow m given → AreSlots given m d.blocks d.pins) → AreDrivenBelow n driving → IsTable driving n d
table_made driving close given n d parts is slots within =
    record { close = close; slots = slots_made driving close given n d parts is slots within; parts = parts }

-- no pin of a block is one that a string puts
pub slots_apart : (strings : List WiredString) (taken : BTreeSet ℕ) (close : List DrivingPin) (n : ℕ) (d : DrivingTable) → AreSlots close n d.blocks d.pins
    → ((k : ℕ) → contains_by (nat_cmp k) taken ≡ list_any (puts k) strings)
    → ((e : DrivingPin) → Contains close e → contains_by (nat_cmp e.pin) taken ≡ false) → IsApart strings d
slots_apart strings taken close n d slots tells alone = record {
  each = λ i j b at within slot. sym (tells (slice_index d.pins (64 * i + j))) ∙ alone (slot_of d.pins i b j) (slots.each i j b at within slot);
}

repeated : (n : ℕ) (x p : DrivenCells) (i : ℕ) → slice_get (replicate n x) i ≡ Some p → x ≡ p
repeated zero x p i at = absurd (none-some p at)
repeated (suc n) x p zero at = same_Some x p at
repeated (suc n) x p (suc i) at = repeated n x p i at

-- nothing is known to have been put
pub none_put : (blocks : List Block) (pins : List ℕ) (put : List DrivenCells) (n : ℕ)
    → put ≡ replicate n (record { own = 0; bits = 0; off = 0; mute = 0 }) → length put ≡ length blocks
    → (cells : List (List Cell)) (drives : List Drive) → WerePut cells blocks pins put drives
none_put blocks pins put n is long cells drives = record {
  long = long;
  each = λ i j b p at kept h marked.
      let none : DrivenCells = record { own = 0; bits = 0; off = 0; mute = 0 } in
      let same : none ≡ p = repeated n none p i (sym (ap (λ (l : List DrivenCells). slice_get l i) is) ∙ kept) in
      record {
        own = λ on. absurd (no (sym (zero_bit j) ∙ ap (λ (y : DrivenCells). has_bit y.own j) same ∙ on));
        off = λ on. absurd (no (sym (zero_bit j) ∙ ap (λ (y : DrivenCells). has_bit y.off j) same ∙ on));
        mute = λ on. absurd (no (sym (zero_bit j) ∙ ap (λ (y : DrivenCells). has_bit y.mute j) same ∙ on));
      };
}
