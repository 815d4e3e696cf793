-- Cells that are disabled together.
use Rattle.std.proofs.Common.{◌≡◌, ◌≢◌, ◌<◌, ◌+◌, ℕ, Bool, true, false, ◌&&◌, ◌||◌, not, List, [], ◌∷◌, ◌++◌, set, slice_get, Some, option_map, refl, sym, ap, subst, ◌∙◌, arith, ⊎_elim}
use Rattle.std.proofs.lemmas.Bool.{and_parts, cases_eq, or_cases}
use Rattle.std.proofs.lemmas.List.Elements.{All-get_or, All-push, All-set}
use Rattle.std.proofs.lemmas.Option.{get_or_from_slice_get, slice_get_within}
use Rattle.jt_bits.specs.Packed.{has_bit}
use Rattle.jt_bits.specs.Words.{bit_of}
use Rattle.bsdl_device.specs.declared.Cell.{Cell}
use Rattle.bsdl_device.specs.declared.Control3.{Control3}
use Rattle.boundary.specs.Cells.{same_bit}
use Rattle.boundary.specs.Controls.{AreGroups, IsAmong, IsControlled, IsGroup, IsGroupOf, control_at, disabled_by}
use Rattle.boundary.specs.declared.controls.Controlled.{Controlled}
use Rattle.boundary.specs.declared.controls.Group.{Group}
use Rattle.boundary.proofs.MaskLaws.{zero_bit}
use Rattle.boundary.proofs.PlainLaws.{no}

-- ---- one more cell

abbrev pub says : List Bool → Control3 → Bool
says bits t = same_bit (bit_of bits t.cell) t.disabling

-- a cell of this control is entered in a group of it
pub cell_more : (cells : List Cell) (g : Group) (first j word : ℕ) (t : Control3) → IsGroupOf g first t → control_at cells (first + j) ≡ Some t
    → ((k : ℕ) → k < 64 → k ≢ j → has_bit word k ≡ has_bit g.cells k) → IsGroup cells g → IsGroup cells (record g { cells = word })
cell_more cells g first j word t of at others old = record {
  each = λ k h on bits. ⊎_elim
      (λ (same : k ≡ j).
      let place : g.first + k ≡ first + j = omega (arith, of.first, same) in
      ap (λ (n : ℕ). disabled_by cells bits n) place
      ∙ ap (option_map (says bits)) at
      ∙ ap (λ (n : ℕ). Some (same_bit (bit_of bits n) t.disabling)) (sym of.control)
      ∙ ap (λ (b : Bool). Some (same_bit (bit_of bits g.control) b)) (sym of.disabling))
      (λ (apart : k ≢ j). old.each k h (sym (others k h apart) ∙ on) bits)
      (cases_eq k j);
}

pub no_group : (cells : List Cell) (g : Group) → g.cells ≡ 0 → IsGroup cells g
no_group cells g none = record { each = λ k h on. absurd (no (sym (zero_bit k) ∙ sym (ap (λ (n : ℕ). has_bit n k) none) ∙ on)) }

-- it is entered in one of the groups
pub groups_joined : (cells : List Cell) (groups after : List Group) (i first j word : ℕ) (t : Control3) (g : Group) → IsAmong groups i first t
    → slice_get groups i ≡ Some g → after ≡ set groups i (record g { cells = word }) → control_at cells (first + j) ≡ Some t
    → ((k : ℕ) → k < 64 → k ≢ j → has_bit word k ≡ has_bit g.cells k) → AreGroups cells groups → AreGroups cells after
groups_joined cells groups after i first j word t g among there is at others all =
    let same : among.g ≡ g = cc (among.at, there) in
    let of : IsGroupOf g first t = subst (λ (x : Group). IsGroupOf x first t) same among.of in
    let own : IsGroup cells g =
    subst (IsGroup cells) (get_or_from_slice_get groups i g g there) (All-get_or (IsGroup cells) groups i g (slice_get_within groups i g there) all) in
    subst (AreGroups cells) (sym is)
    (All-set (IsGroup cells) groups i (record g { cells = word }) (cell_more cells g first j word t of at others own) all)

-- or in a new one
pub groups_pushed : (cells : List Cell) (groups after : List Group) (first j word : ℕ) (t : Control3) (g : Group) → IsGroupOf g first t → g.cells ≡ 0
    → after ≡ groups ++ record g { cells = word } ∷ [] → control_at cells (first + j) ≡ Some t
    → ((k : ℕ) → k < 64 → k ≢ j → has_bit word k ≡ has_bit g.cells k) → AreGroups cells groups → AreGroups cells after
groups_pushed cells groups after first j word t g of none is at others all =
    subst (AreGroups cells) (sym is)
    (All-push (IsGroup cells) groups (record g { cells = word }) all (cell_more cells g first j word t of at others (no_group cells g none)))

-- ---- what the groups say

pub none_controlled : (cells : List Cell) (bits : List Bool) (first : ℕ) → IsControlled cells bits first (record { on = 0; off = 0 })
none_controlled cells bits first = record {
  on = λ j h marked. absurd (no (sym (zero_bit j) ∙ marked));
  off = λ j h marked. absurd (no (sym (zero_bit j) ∙ marked));
}

not_true : (b : Bool) → not b ≡ true → b ≡ false
not_true true e = absurd (no e)
not_true false e = refl

-- those of one more group
pub more_controlled : (cells : List Cell) (bits : List Bool) (first : ℕ) (g : Group) (words after : Controlled) (disabled : Bool)
    → IsGroup cells g → g.first ≡ first → disabled ≡ same_bit (bit_of bits g.control) g.disabling
    → ((j : ℕ) → has_bit after.on j ≡ ((not disabled && has_bit g.cells j) || has_bit words.on j))
    → ((j : ℕ) → has_bit after.off j ≡ ((disabled && has_bit g.cells j) || has_bit words.off j))
    → IsControlled cells bits first words → IsControlled cells bits first after
more_controlled cells bits first g words after disabled own of is on off was = record {
  on = λ j h marked. ⊎_elim
      (λ now. let parts = and_parts (not disabled) (has_bit g.cells j) now in
      said j h parts.1 ∙ ap Some (sym is ∙ not_true disabled parts.0))
      (λ before. was.on j h before)
      (or_cases (not disabled && has_bit g.cells j) (has_bit words.on j) (sym (on j) ∙ marked));
  off = λ j h marked. ⊎_elim
      (λ now. let parts = and_parts disabled (has_bit g.cells j) now in
      said j h parts.1 ∙ ap Some (sym is ∙ parts.0))
      (λ before. was.off j h before)
      (or_cases (disabled && has_bit g.cells j) (has_bit words.off j) (sym (off j) ∙ marked));
}
  where
    said : (j : ℕ) → j < 64 → has_bit g.cells j ≡ true → disabled_by cells bits (first + j) ≡ Some (same_bit (bit_of bits g.control) g.disabling)
    said j h marked = ap (λ (n : ℕ). disabled_by cells bits (n + j)) (sym of) ∙ own.each j h marked bits
