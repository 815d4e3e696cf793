-- Pins put one after another.
use Rattle.std.proofs.Common.{subst, ◌≡◌, ◌<◌, ℕ, zero, suc, ◌+◌, List, [], ◌∷◌, ◌++◌, length, map, take, drop, set, slice_get, Option, Some, option_map, unwrap_or, sym, ap, ◌∙◌, arith}
use Rattle.std.proofs.lemmas.Option.{slice_get-map}
use Rattle.pin_nets.specs.declared.Drive.{Drive}
use Rattle.pin_nets.specs.declared.Drive.TheVariants.{Nothing}
use Rattle.pin_nets.specs.declared.Pin.{Pin}
use Rattle.board_model.specs.Cells.{Member, drive}
use Rattle.board_model.specs.Nets.{pin_drive}
use Rattle.board_chips.specs.WiredChips.{WiredChipValue, held_of}
use Rattle.board_chips.specs.Wires.{ArePinsBelow}

one_pin : (p x : Pin) → Some p ≡ Some x → p ≡ x
one_pin p x e = cc

no_pin : (i : ℕ) (x : Pin) → slice_get {X = Pin} [] i ≡ Some x → ⊥
no_pin zero x e = cc
no_pin (suc i) x e = cc

-- one more pin is put
pub put_more : (f : Pin → Drive) (pins : List Pin) (old ds : List Drive) (i : ℕ) (d : Drive) (x : Pin) → length old ≡ length pins
    → ds ≡ map f (take i pins) ++ drop i old → slice_get pins i ≡ Some x → d ≡ f x → set ds i d ≡ map f (take (i + 1) pins) ++ drop (i + 1) old
put_more f pins old ds i d x long e at is =
    let next : i + 1 ≡ suc i = omega arith in
    ap (set ds i) is ∙ ap (λ (l : List Drive). set l i (f x)) e ∙ one pins old i long at ∙ ap (λ (n : ℕ). map f (take n pins) ++ drop n old) (sym next)
  where
    one : (pins : List Pin) (old : List Drive) (i : ℕ) → length old ≡ length pins → slice_get pins i ≡ Some x
        → set (map f (take i pins) ++ drop i old) i (f x) ≡ map f (take (suc i) pins) ++ drop (suc i) old
    one [] old i long at = absurd (no_pin i x at)
    one (p ∷ pins) [] i long at = absurd (omega (arith, long))
    one (p ∷ pins) (o ∷ old) zero long at = ap (λ (q : Pin). f q ∷ old) (sym (one_pin p x at))
    one (p ∷ pins) (o ∷ old) (suc i) long at = ap (λ (r : List Drive). f p ∷ r) (one pins old i (omega (arith, long)) at)

-- what a pin drives, by its chip
pub pin_by_chip : (chips : List WiredChipValue) (pin : Pin) (s : WiredChipValue) (d : Drive) → slice_get chips pin.device ≡ Some s → d ≡ drive (held_of s) pin.port → d ≡ pin_drive (map held_of chips) pin
pin_by_chip chips pin s d at is =
    let there : slice_get (map held_of chips) pin.device ≡ Some (held_of s) = slice_get-map held_of chips pin.device ∙ ap (option_map held_of) at in
    is ∙ sym (ap (λ (o : Option Member). unwrap_or (option_map (λ (m : Member). drive m pin.port) o) Nothing) there)

pub device_below : (n : ℕ) (pins : List Pin) (i : ℕ) (x : Pin) → ArePinsBelow n pins → slice_get pins i ≡ Some x → x.device < n
device_below n [] i x all at = absurd (no_pin i x at)
device_below n (p ∷ pins) zero x all at = subst (λ (q : Pin). q.device < n) (one_pin p x at) all.0
device_below n (p ∷ pins) (suc i) x all at = device_below n pins i x all.1 at
