-- Nets of which no pin stands twice.
use Rattle.std.proofs.Common.{◌≡◌, ◌<◌, ◌≤◌, not, ℕ, zero, suc, max, length, slice_get, unwrap_or, subst, arith, nat_lt, option_map, if◌then◌else◌, Bool, true, false, ◌||◌, cond, List, [], ◌∷◌, ◌++◌, map, codes, Option, Some, None, refl, ap, sym, ◌∙◌}
use Rattle.std.specs.Option.{option_or}
use Rattle.std.specs.List.{list_any, filter_map, AllByRecursion}
use Rattle.std.proofs.lemmas.Option.{slice_get_within}
use Rattle.std.proofs.lemmas.Bool.{false≢true}
use Rattle.std.proofs.lemmas.Bool.Decides.{nat_tests}
use Rattle.jt_limits.specs.Limits.{limits}
use Rattle.toml.specs.Data.{Members}
use Rattle.bsdl_device.specs.Device.{Device}
use Rattle.board_tables.specs.Fields.{texts_at}
use Rattle.pin_nets.specs.declared.Pin.{Pin}
use Rattle.board_parts.specs.Pins.{pin_at, same_pin, twice, pins_at, twice_in_nets, unknown_in_nets}
use Rattle.board_parts.specs.Parts.{net_of}
use Rattle.board_parts.specs.Twice.{IsAmong, is_some_twice}
use Rattle.board_file.specs.Ports.{most_ports}
use Rattle.board_file.specs.Wiring.{Fault, PinTwice, TooLarge, UnknownPin, large, wire_fault}
use Rattle.board_file.proofs.FitLaws.{IsBitOf, nets_on}
use Rattle.board_parts.proofs.TwiceLaws.{twice_append}
use Rattle.board_plan.specs.Planned.{all_pins}

no_device : {A : Type 0} (x : A) → None ≡ Some x → ⊥
no_device x e = absurd cc

neither : (b c : Bool) → b || c ≡ false → (b ≡ false) × (c ≡ false)
neither true c h = absurd (false≢true (sym h))
neither false c h = (refl, h)

no_text : (text : List ℕ) (b s : Bool) (o : Option (List ℕ)) → cond b (Some text) o ≡ None → (o ≡ None → s ≡ false) → b || s ≡ false
no_text text true s o h more = absurd (no_device text (sym h))
no_text text false s o h more = more h

no_first : {A : Type 0} (o p : Option A) → option_or o p ≡ None → (o ≡ None) × (p ≡ None)
no_first None p h = (refl, h)
no_first (Some x) p h = absurd (no_device x (sym h))

module _ (names : List (List ℕ)) (ds : List Device) where
  none_of : (before : List Pin) (texts : List (List ℕ)) → is_some_twice before (filter_map (pin_at names ds) texts) ≡ false → twice names ds before texts ≡ None
  none_of before [] h = refl
  none_of before (text ∷ texts) h = by (pin_at names ds text) refl (λ b f. none_of b texts f)
    where
      by : (o : Option Pin) → pin_at names ds text ≡ o → ((b : List Pin) → is_some_twice b (filter_map (pin_at names ds) texts) ≡ false → twice names ds b texts ≡ None) → twice names ds before (text ∷ texts) ≡ None
      by None e more = rw (e, twice) (more before (rw (e, filter_map) at h))
      by (Some p) e more =
          let both = neither (list_any (same_pin p) before) (is_some_twice (before ++ p ∷ []) (filter_map (pin_at names ds) texts)) (rw (e, filter_map) at h) in
          rw (e, twice) (ap (λ b. cond b (Some text) (twice names ds (before ++ p ∷ []) texts)) both.0 ∙ more (before ++ p ∷ []) both.1)

  pub none_twice : (before : List Pin) (ts : List Members) → is_some_twice before (all_pins (map (net_of names ds) ts)) ≡ false → twice_in_nets names ds before ts ≡ None
  none_twice before [] h = refl
  none_twice before (t ∷ ts) h =
      let pins = pins_at names ds t in
      let parts = neither (is_some_twice before pins) (is_some_twice (before ++ pins) (all_pins (map (net_of names ds) ts))) (sym (twice_append before pins (all_pins (map (net_of names ds) ts))) ∙ h) in
      ap (λ o. option_or o (twice_in_nets names ds (before ++ pins) ts)) (none_of before (texts_at (codes "pins") t) parts.0) ∙ none_twice (before ++ pins) ts parts.1

  none_back : (before : List Pin) (texts : List (List ℕ)) → twice names ds before texts ≡ None → is_some_twice before (filter_map (pin_at names ds) texts) ≡ false
  none_back before [] h = refl
  none_back before (text ∷ texts) h = by (pin_at names ds text) refl (λ b f. none_back b texts f)
    where
      by : (o : Option Pin) → pin_at names ds text ≡ o → ((b : List Pin) → twice names ds b texts ≡ None → is_some_twice b (filter_map (pin_at names ds) texts) ≡ false) → is_some_twice before (filter_map (pin_at names ds) (text ∷ texts)) ≡ false
      by None e more = rw (e, filter_map) (more before (rw (e, twice) at h))
      by (Some p) e more =
          rw (e, filter_map) (no_text text (list_any (same_pin p) before) _ (twice names ds (before ++ p ∷ []) texts) (rw (e, twice) at h) (more (before ++ p ∷ [])))

  pub none_back_twice : (before : List Pin) (ts : List Members) → twice_in_nets names ds before ts ≡ None → is_some_twice before (all_pins (map (net_of names ds) ts)) ≡ false
  none_back_twice before [] h = refl
  none_back_twice before (t ∷ ts) h =
      let pins = pins_at names ds t in
      let parts = no_first (twice names ds before (texts_at (codes "pins") t)) (twice_in_nets names ds (before ++ pins) ts) h in
      twice_append before pins (all_pins (map (net_of names ds) ts))
      ∙ (λ i. none_back before (texts_at (codes "pins") t) parts.0 i || none_back_twice (before ++ pins) ts parts.1 i)

-- ---- the ports of the devices

most_at : (ds : List Device) (k : ℕ) (d : Device) → slice_get ds k ≡ Some d → length d.ports ≤ most_ports ds
most_at [] k d is = absurd (no_device d is)
most_at (x ∷ ds) zero d is = subst (λ (e : Device). length e.ports ≤ max (length x.ports) (most_ports ds)) (ap (λ o. unwrap_or o x) is) (omega arith)
most_at (x ∷ ds) (suc k) d is = let below = most_at ds k d is in omega arith

bit_among : (ds : List Device) (p : Pin) → IsBitOf ds p → IsAmong (length ds) (most_ports ds) p
unfolding IsBitOf
bit_among ds p (d, is, below) = let most = most_at ds p.device d is in record { device = slice_get_within ds p.device d is; port = omega arith }

all_among : (ds : List Device) (pins : List Pin) → AllByRecursion (IsBitOf ds) pins → AllByRecursion (IsAmong (length ds) (most_ports ds)) pins
all_among ds [] all = tt
all_among ds (p ∷ ps) all = (bit_among ds p all.0, all_among ds ps all.1)

pub among : (names : List (List ℕ)) (ds : List Device) (ts : List Members) → AllByRecursion (IsAmong (length ds) (most_ports ds)) (all_pins (map (net_of names ds) ts))
among names ds ts = all_among ds (all_pins (map (net_of names ds) ts)) (nets_on names ds ts)

-- ---- the order of the faults

is_above : (m n : ℕ) → m < n → nat_lt m n ≡ true
is_above m n h = by (nat_lt m n) refl
  where
    by : (b : Bool) → nat_lt m n ≡ b → b ≡ true
    by true e = refl
    by false e = grind (arith, nat_tests)

not_above : (m n : ℕ) → n ≤ m → nat_lt m n ≡ false
not_above m n h = by (nat_lt m n) refl
  where
    by : (b : Bool) → nat_lt m n ≡ b → b ≡ false
    by true e = grind (arith, nat_tests)
    by false e = refl

-- what a test of two faults says that met neither, or one
pub met_neither : (r b c : Bool) → r ≡ not (b || c) → r ≡ true → (b ≡ false) × (c ≡ false)
met_neither r true c e h = absurd (false≢true (sym e ∙ h))
met_neither r false true e h = absurd (false≢true (sym e ∙ h))
met_neither r false false e h = (refl, refl)

pub met_first : (r b c : Bool) → r ≡ not (b || c) → r ≡ false → c ≡ false → b ≡ true
met_first r true c e h none = refl
met_first r false true e h none = absurd (false≢true (sym none))
met_first r false false e h none = absurd (false≢true (sym h ∙ e))

module _ (names : List (List ℕ)) (ds : List Device) (ts : List Members) (known : unknown_in_nets names ds ts ≡ None) (none : twice_in_nets names ds [] ts ≡ None) where
  by_size : wire_fault names ds ts ≡ large (length names) (length ts)
  by_size = λ i. option_or (option_map UnknownPin (known i)) (option_or (option_map PinTwice (none i)) (large (length names) (length ts)))

  pub told_large : (m : ℕ) → m ≡ length ts → limits.nets < m → wire_fault names ds ts ≡ Some TooLarge
  told_large m is more =
      by_size ∙ ap (large (length names)) (sym is)
      ∙ (λ i. if nat_lt limits.devices (length names) || is_above limits.nets m more i then Some TooLarge else None) ∙ by (nat_lt limits.devices (length names))
    where
      by : (b : Bool) → (if b || true then Some TooLarge else None) ≡ Some TooLarge
      by true = refl
      by false = refl

  pub told_none : (n m : ℕ) → length names ≡ n → m ≡ length ts → nat_lt limits.devices n ≡ false → m ≤ limits.nets → wire_fault names ds ts ≡ None
  told_none n m long is few less =
      by_size ∙ (λ i. large (long i) (sym is i)) ∙ (λ i. if few i || not_above limits.nets m less i then Some TooLarge else None)
