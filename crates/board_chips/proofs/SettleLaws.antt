-- Pins that drive what they are to drive, as more of them do.
use Rattle.std.proofs.Common.{◌≡◌, ◌≢◌, ◌<◌, ℕ, List, length, map, set, slice_get, Option, Some, None, option_map, refl, sym, ap, subst, ◌∙◌, arith, ⊎_elim}
use Rattle.std.proofs.lemmas.Bool.{cases_eq}
use Rattle.std.proofs.lemmas.List.{length-map, length-set}
use Rattle.std.proofs.lemmas.Option.{slice_get-map, slice_get_within}
use Rattle.bsdl_device.specs.declared.Cell.{Cell}
use Rattle.pin_nets.specs.Wired.{Net}
use Rattle.pin_nets.specs.declared.Drive.{Drive}
use Rattle.pin_nets.specs.declared.Drive.TheVariants.{Nothing}
use Rattle.pin_nets.specs.declared.Pin.{Pin}
use Rattle.board_plan.specs.Planned.{all_pins}
use Rattle.board_model.specs.Cells.{Member}
use Rattle.board_model.specs.Nets.{pin_drive}
use Rattle.board_chips.specs.Driving.{driver_of, driving_from}
use Rattle.board_chips.specs.WiredChips.{WiredChipValue, held_of}
use Rattle.board_chips.specs.Tables.{Settled, Settles, targets}
use Rattle.board_chips.specs.declared.driving.DrivingPin.{DrivingPin}
use Rattle.board_chips.proofs.DrivingLaws.{HasEntry, member-cells, pin_cases, undriven}
use Rattle.board_chips.proofs.ListLaws.{same_places, set_here, set_there}

pub settles_both : (target a b c : List Drive) → Settles target a b → Settles target b c → Settles target a c
settles_both target a b c one other = record { long = other.long ∙ one.long; each = λ k h. other.each k (one.each k h) }

-- one more pin is put to drive what it is to drive
pub settles_put : (target ds es : List Drive) (k : ℕ) (d : Drive) → es ≡ set ds k d → slice_get target k ≡ Some d → Settles target ds es
settles_put target ds es k d is aims = record {
  long = ap length is ∙ length-set ds k d;
  each = λ j h. ap (λ (l : List Drive). slice_get l j) is ∙ ⊎_elim
      (λ (same : j ≡ k).
      let there : slice_get ds k ≡ Some d = sym (ap (slice_get ds) same) ∙ h ∙ ap (slice_get target) same ∙ aims in
      ap (slice_get (set ds k d)) same ∙ set_here ds k d (slice_get_within ds k d there) ∙ sym aims ∙ sym (ap (slice_get target) same))
      (λ (apart : j ≢ k). set_there ds k j d apart ∙ h)
      (cases_eq j k);
}

pub put_settled : (target ds es : List Drive) (k : ℕ) (d : Drive) → es ≡ set ds k d → slice_get target k ≡ Some d → length ds ≡ length target → Settled target es k
put_settled target ds es k d is aims long =
    ap (λ (l : List Drive). slice_get l k) is
    ∙ set_here ds k d (omega (arith, slice_get_within target k d aims, long)) ∙ sym aims

-- a pin that is to drive something is one of the nets'
pub target_within : (chips : List WiredChipValue) (nets : List Net) (k : ℕ) (d : Drive) → slice_get (targets chips nets) k ≡ Some d → k < length (all_pins nets)
target_within chips nets k d aims =
    omega (arith, slice_get_within (targets chips nets) k d aims, length-map (all_pins nets) (pin_drive (map held_of chips)))

pub targets_long : (chips : List WiredChipValue) (nets : List Net) → length (targets chips nets) ≡ length (all_pins nets)
targets_long chips nets = length-map (all_pins nets) (pin_drive (map held_of chips))

-- ---- all of them

module _ (cells : List (List Cell)) (ms bs : List Member) (now : map member-cells ms ≡ cells) (was : map member-cells bs ≡ cells) (pins : List Pin) (drives : List Drive)
    (settles : Settles (map (pin_drive ms) pins) (map (pin_drive bs) pins) drives)
    (entries : (j : ℕ) (e : DrivingPin) → slice_get (driving_from cells 0 pins) j ≡ Some e → Settled (map (pin_drive ms) pins) drives e.pin) where
  settled-at : (k : ℕ) → Settled (map (pin_drive ms) pins) drives k
  settled-at k = by (slice_get pins k) refl
    where
      at-map : (f : Pin → Drive) (o : Option Pin) → slice_get pins k ≡ o → slice_get (map f pins) k ≡ option_map f o
      at-map f o at = slice_get-map f pins k ∙ ap (option_map f) at

      by : (o : Option Pin) → slice_get pins k ≡ o → Settled (map (pin_drive ms) pins) drives k
      by None at = settles.each k (at-map (pin_drive bs) None at ∙ sym (at-map (pin_drive ms) None at))
      by (Some p) at = ⊎_elim
          (λ (none : driver_of cells p ≡ None).
          let before : pin_drive bs p ≡ Nothing = undriven bs p (ap (λ (l : List (List Cell)). driver_of l p) was ∙ none) in
          let after : pin_drive ms p ≡ Nothing = undriven ms p (ap (λ (l : List (List Cell)). driver_of l p) now ∙ none) in
          settles.each k (at-map (pin_drive bs) (Some p) at ∙ ap Some (before ∙ sym after) ∙ sym (at-map (pin_drive ms) (Some p) at)))
          (λ (h : HasEntry cells 0 pins k).
          let is : h.e.pin ≡ k = omega (arith, h.pin) in
          subst (λ (n : ℕ). Settled (map (pin_drive ms) pins) drives n) is (entries h.j h.e h.at))
          (pin_cases cells 0 pins k p at)

  pub all_settled : drives ≡ map (pin_drive ms) pins
  all_settled = same_places drives (map (pin_drive ms) pins) settled-at
