-- What is said of a pin, by what it drives.
use Rattle.std.proofs.Common.{◌≡◌, ◌+◌, ◌==◌, ℕ, Bool, true, false, List, [], ◌∷◌, ◌++◌, Some, option_map, refl, sym, ap, ap₂, subst, ◌∙◌, arith}
use Rattle.std.specs.Prelude.{slice_get}
use Rattle.pin_nets.specs.declared.Drive.{Drive}
use Rattle.pin_nets.specs.declared.Pin.{Pin}
use Rattle.pin_nets.specs.Wired.{Net}
use Rattle.board_plan.specs.Planned.{all_pins}
use Rattle.board_model.specs.Chain.{ChipState}
use Rattle.board_model.specs.Nets.{pin_drive}
use Rattle.wave_files.specs.Drives.{KeepsDrives, drive_byte, drive_change, drive_changes, drive_line, driving}
use Rattle.wave_files.specs.Values.{by_numbers, byte_change, byte_line, first_of_drives}
use Rattle.wave_files.proofs.Numbers.{there_is}

-- the pin at a place among those of the nets, of which this is said
pub record PinSaid (nets : List Net) (k : ℕ) (said : Pin → List ℕ) (bytes : List ℕ) : Type 0 where
  pub pin : Pin
  pub is : slice_get (all_pins nets) k ≡ Some pin
  pub text : bytes ≡ said pin

pub line_said : (nets : List Net) (cs : List ChipState) (k m : ℕ) (d : Drive) (b : ℕ)
    → option_map (pin_drive (driving nets cs)) (slice_get (all_pins nets) k) ≡ Some d → b ≡ drive_byte d
    → PinSaid nets k (drive_line (driving nets cs) m) (byte_line m b)
line_said nets cs k m d b at byte =
    let it = there_is (pin_drive (driving nets cs)) (slice_get (all_pins nets) k) d at in
    record { pin = it.thing; is = it.is; text = ap (byte_line m) (byte ∙ ap drive_byte (sym it.says)) }

pub change_said : (nets other : List Net) (before after : List ChipState) (k m : ℕ) (d e : Drive) (a b : ℕ) → other ≡ nets
    → option_map (pin_drive (driving nets before)) (slice_get (all_pins nets) k) ≡ Some d
    → option_map (pin_drive (driving other after)) (slice_get (all_pins other) k) ≡ Some e
    → a ≡ drive_byte d → b ≡ drive_byte e
    → PinSaid nets k (drive_change (driving nets before) (driving nets after) m) (byte_change m a b)
change_said nets other before after k m d e a b same at next byte byte_next =
    let it = there_is (pin_drive (driving nets before)) (slice_get (all_pins nets) k) d at in
    let moved : option_map (pin_drive (driving nets after)) (slice_get (all_pins nets) k) ≡ Some e =
    subst (λ (ns : List Net). option_map (pin_drive (driving ns after)) (slice_get (all_pins ns) k) ≡ Some e) same next in
    let said : pin_drive (driving nets after) it.thing ≡ e =
    then_says nets after it.thing e (ap (option_map (pin_drive (driving nets after))) (sym it.is) ∙ moved) in
    record {
      pin = it.thing;
      is = it.is;
      text = λ i. byte_change m ((byte ∙ ap drive_byte (sym it.says)) i) ((byte_next ∙ ap drive_byte (sym said)) i);
    }
  where
    then_says : (ns : List Net) (cs : List ChipState) (p : Pin) (r : Drive) → option_map (pin_drive (driving ns cs)) (Some p) ≡ Some r
        → pin_drive (driving ns cs) p ≡ r
    then_says ns cs p r e = cc

-- ---- pins that drive what they did

pub unchanged : (n value : ℕ) → byte_change n value value ≡ []
unchanged n value = rw (the_same value) refl
  where
    the_same : (k : ℕ) → (k == k) ≡ true
    the_same k = grind arith

no_pin : (nets : List Net) (before after : List ChipState) → KeepsDrives nets before after → (n : ℕ) (pins : List Pin)
    → by_numbers (drive_change (driving nets before) (driving nets after)) 1 n pins ≡ []
no_pin nets before after keep n [] = refl
no_pin nets before after keep n (p ∷ ps) =
    let own = drive_byte (pin_drive (driving nets before) p) in
    ap₂ (λ (a b : List ℕ). a ++ b)
    (ap (λ (d : Drive). byte_change n own (drive_byte d)) (sym (keep p)) ∙ unchanged n own)
    (no_pin nets before after keep (n + 1) ps)

-- nothing is told of any
pub no_drive : (drives : Bool) (nets : List Net) (before after : List ChipState) → KeepsDrives nets before after
    → drive_changes drives nets before after ≡ []
no_drive true nets before after keep = no_pin nets before after keep (first_of_drives before nets) (all_pins nets)
no_drive false nets before after keep = refl
