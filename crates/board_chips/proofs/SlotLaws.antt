-- The pins that a cell drives, entered in blocks one after another.
use Rattle.std.proofs.Common.{◌≡◌, ◌≢◌, ◌<◌, ◌+◌, ◌*◌, ◌-◌, ◌%◌, ℕ, true, false, List, [], ◌∷◌, ◌++◌, length, set, slice_get, slice_index, Some, refl, sym, ap, subst, ◌∙◌, arith, ⊎_elim}
use Rattle.std.specs.List.{Contains}
use Rattle.std.proofs.lemmas.Bool.{cases_eq}
use Rattle.std.proofs.lemmas.List.{length-append, length-set, get_or-set_same, get_or-set_other}
use Rattle.std.proofs.lemmas.List.Elements.{Contains-append_left, Contains-push, Contains-push_cases}
use Rattle.std.proofs.lemmas.Option.{same_Some, slice_get_within}
use Rattle.jt_bits.specs.Packed.{has_bit}
use Rattle.board_chips.specs.Blocks.{AreSlots, HasRoom, IsBlock, IsSlot, slot_of}
use Rattle.board_chips.specs.declared.driving.Block.{Block}
use Rattle.board_chips.specs.declared.driving.DrivingPin.{DrivingPin}
use Rattle.boundary.proofs.MaskLaws.{zero_bit}
use Rattle.board_chips.proofs.BlockLaws.{no}
use Rattle.board_chips.proofs.ListLaws.{before_append, index_before, pushed_cases, pushed_last, set_here, set_there}

-- the slot of another list of pins, where the pin is the same
same_slot : (pins others : List ℕ) (i j : ℕ) (b : Block) → slice_index others (64 * i + j) ≡ slice_index pins (64 * i + j) → slot_of others i b j ≡ slot_of pins i b j
same_slot pins others i j b is = λ t. record { device = b.device; cell = b.first + j; pin = is t }

-- an empty block
pub slots_open : (es : List DrivingPin) (n : ℕ) (blocks : List Block) (pins more : List ℕ) (b : Block) → AreSlots es n blocks pins → length more ≡ 64 → IsBlock n b → b.slots ≡ 0
    → AreSlots es n (blocks ++ b ∷ []) (pins ++ more)
slots_open es n blocks pins more b s long is empty = record {
  long = omega (arith, length-append pins more, length-append blocks (b ∷ []), s.long, long);
  within = λ i x at. ⊎_elim
      (λ (old : slice_get blocks i ≡ Some x). s.within i x old)
      (λ (same : b ≡ x). subst (IsBlock n) same is)
      (pushed_cases blocks b i x at);
  each = λ i j x at h marked. ⊎_elim
      (λ (old : slice_get blocks i ≡ Some x).
      let place : 64 * i + j < length pins = omega (arith, slice_get_within blocks i x old, s.long, h) in
      subst (Contains es) (sym (same_slot pins (pins ++ more) i j x (index_before pins more (64 * i + j) place))) (s.each i j x old h marked))
      (λ (same : b ≡ x). absurd (no (sym (zero_bit j) ∙ sym (ap (λ (m : ℕ). has_bit m j) empty) ∙ ap (λ (y : Block). has_bit y.slots j) same ∙ marked)))
      (pushed_cases blocks b i x at);
  all = λ e has.
      let t = s.all e has in
      let place : 64 * t.i + t.j < length pins = omega (arith, slice_get_within blocks t.i t.b t.at, s.long, t.within) in
      record {
        i = t.i;
        j = t.j;
        b = t.b;
        at = before_append blocks (b ∷ []) t.i t.b t.at;
        within = t.within;
        marked = t.marked;
        is = same_slot pins (pins ++ more) t.i t.j t.b (index_before pins more (64 * t.i + t.j) place) ∙ t.is;
      };
}

-- a pin in the slot of its cell
module _ (es : List DrivingPin) (n : ℕ) (blocks : List Block) (pins : List ℕ) (e : DrivingPin) (i : ℕ) (b : Block) (word : ℕ)
    (s : AreSlots es n blocks pins) (at : slice_get blocks i ≡ Some b) (device : b.device ≡ e.device) (first : b.first + e.cell % 64 ≡ e.cell)
    (free : has_bit b.slots (e.cell % 64) ≡ false) (here : has_bit word (e.cell % 64) ≡ true)
    (others : (k : ℕ) → k < 64 → k ≢ e.cell % 64 → has_bit word k ≡ has_bit b.slots k) where
  abbrev slot : ℕ
  slot = e.cell % 64

  abbrev after : Block
  after = record b { slots = word }

  abbrev blocks-after : List Block
  blocks-after = set blocks i after

  abbrev pins-after : List ℕ
  pins-after = set pins (64 * i + slot) e.pin

  inside : i < length blocks
  inside = slice_get_within blocks i b at

  place : 64 * i + slot < length pins
  place = omega (arith, inside, s.long)

  its : slot_of pins-after i after slot ≡ e
  its = λ t. record { device = device t; cell = first t; pin = get_or-set_same pins (64 * i + slot) e.pin 0 place t }

  other : (k m : ℕ) (x : Block) → 64 * k + m ≢ 64 * i + slot → slot_of pins-after k x m ≡ slot_of pins k x m
  other k m x apart = same_slot pins pins-after k m x (get_or-set_other pins (64 * i + slot) (64 * k + m) e.pin 0 apart)

  within-after : (k : ℕ) (x : Block) → slice_get blocks-after k ≡ Some x → IsBlock n x
  within-after k x there = ⊎_elim
      (λ (same : k ≡ i).
      let is : after ≡ x = same_Some after x (sym (set_here blocks i after inside) ∙ sym (ap (slice_get blocks-after) same) ∙ there) in
      let old : IsBlock n b = s.within i b at in
      subst (IsBlock n) is (record { device = old.device; first = old.first }))
      (λ (apart : k ≢ i). s.within k x (sym (set_there blocks i k after apart) ∙ there))
      (cases_eq k i)

  each-after : (k m : ℕ) (x : Block) → slice_get blocks-after k ≡ Some x → m < 64 → has_bit x.slots m ≡ true → Contains (es ++ e ∷ []) (slot_of pins-after k x m)
  each-after k m x there h marked = ⊎_elim
      (λ (same : k ≡ i).
      let is : after ≡ x = same_Some after x (sym (set_here blocks i after inside) ∙ sym (ap (slice_get blocks-after) same) ∙ there) in
      let moved : slot_of pins-after i after m ≡ slot_of pins-after k x m =
      (λ t. slot_of pins-after (sym same t) (is t) m) in
      subst (Contains (es ++ e ∷ [])) moved (⊎_elim
      (λ (one : m ≡ slot).
      let mine : slot_of pins-after i after m ≡ e = ap (slot_of pins-after i after) one ∙ its in
      subst (Contains (es ++ e ∷ [])) (sym mine) (Contains-push es e))
      (λ (apart : m ≢ slot).
      let was : has_bit b.slots m ≡ true = sym (others m h apart) ∙ ap (λ (y : Block). has_bit y.slots m) is ∙ marked in
      let place-apart : 64 * i + m ≢ 64 * i + slot = λ e. apart (omega (arith, e)) in
      let old : slot_of pins-after i after m ≡ slot_of pins i b m = other i m after place-apart in
      subst (Contains (es ++ e ∷ [])) (sym old) (Contains-append_left es (e ∷ []) (slot_of pins i b m) (s.each i m b at h was)))
      (cases_eq m slot)))
      (λ (apart : k ≢ i).
      let old : slice_get blocks k ≡ Some x = sym (set_there blocks i k after apart) ∙ there in
      let place-apart : 64 * k + m ≢ 64 * i + slot = λ e. apart (omega (arith, e, h)) in
      subst (Contains (es ++ e ∷ [])) (sym (other k m x place-apart)) (Contains-append_left es (e ∷ []) (slot_of pins k x m) (s.each k m x old h marked)))
      (cases_eq k i)

  all-after : (f : DrivingPin) → Contains (es ++ e ∷ []) f → IsSlot blocks-after pins-after f
  all-after f has = ⊎_elim
      (λ (old : Contains es f).
      let t = s.all f old in
      ⊎_elim
      (λ (same : t.i ≡ i).
      let is : b ≡ t.b = same_Some b t.b (sym at ∙ sym (ap (slice_get blocks) same) ∙ t.at) in
      let marked : has_bit b.slots t.j ≡ true = ap (λ (y : Block). has_bit y.slots t.j) is ∙ t.marked in
      let apart : t.j ≢ slot = λ one. no (sym free ∙ sym (ap (has_bit b.slots) one) ∙ marked) in
      let place-apart : 64 * i + t.j ≢ 64 * i + slot = λ e. apart (omega (arith, e)) in
      record {
        i = i;
        j = t.j;
        b = after;
        at = set_here blocks i after inside;
        within = t.within;
        marked = others t.j t.within apart ∙ marked;
        is =
            other i t.j after place-apart
            ∙ (λ u. slot_of pins (sym same u) (is u) t.j) ∙ t.is;
      })
      (λ (apart : t.i ≢ i).
      let place-apart : 64 * t.i + t.j ≢ 64 * i + slot = λ e. apart (omega (arith, e, t.within)) in
      record {
        i = t.i;
        j = t.j;
        b = t.b;
        at = set_there blocks i t.i after apart ∙ t.at;
        within = t.within;
        marked = t.marked;
        is = other t.i t.j t.b place-apart ∙ t.is;
      })
      (cases_eq t.i i))
      (λ (same : e ≡ f). record {
        i = i;
        j = slot;
        b = after;
        at = set_here blocks i after inside;
        within = omega arith;
        marked = here;
        is = its ∙ same;
      })
      (Contains-push_cases es e f has)

  pub slots_filled : AreSlots (es ++ e ∷ []) n blocks-after pins-after
  slots_filled = record {
    long = omega (arith, length-set pins (64 * i + slot) e.pin, length-set blocks i after, s.long);
    within = within-after;
    each = each-after;
    all = all-after;
  }

-- ---- as the code does it

-- an empty block for the cell of a pin
abbrev pub empty_for : DrivingPin → Block
empty_for e = record { device = e.device; first = e.cell - e.cell % 64; slots = 0 }

pub opened : (es : List DrivingPin) (n : ℕ) (blocks now : List Block) (pins pins-now more : List ℕ) (e : DrivingPin) → now ≡ blocks ++ empty_for e ∷ [] → pins-now ≡ pins ++ more → length more ≡ 64
    → e.device < n → AreSlots es n blocks pins → AreSlots es n now pins-now
opened es n blocks now pins pins-now more e is pins-are long h s =
    let first : (e.cell - e.cell % 64) % 64 ≡ 0 = omega arith in
    subst (λ (l : List Block). AreSlots es n l pins-now) (sym is) (subst (AreSlots es n (blocks ++ empty_for e ∷ [])) (sym pins-are)
    (slots_open es n blocks pins more (empty_for e) s long (record { device = h; first = first }) refl))

pub opened_room : (blocks now : List Block) (e : DrivingPin) → now ≡ blocks ++ empty_for e ∷ [] → HasRoom now (length blocks) e
opened_room blocks now e is = record {
  b = empty_for e;
  inside = omega (arith, ap length is, length-append blocks (empty_for e ∷ []));
  at = ap (λ (l : List Block). slice_get l (length blocks)) is ∙ pushed_last blocks (empty_for e);
  device = refl;
  first = omega arith;
  free = zero_bit (e.cell % 64);
}
