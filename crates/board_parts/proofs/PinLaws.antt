-- Pins found by their order, and port bits inside their devices.
use Rattle.std.proofs.Common.{◌≡◌, ◌<◌, ℕ, Bool, true, false, ◌&&◌, ◌==◌, List, length, slice_get, Option, Some, None, is_some, option_and_then, refl, ap, subst, ◌∙◌, nat_cmp, nat_lt, cond, arith}
use Rattle.std.proofs.lemmas.Bool.Decides.{nat_tests}
use Rattle.std.proofs.lemmas.Option.{none-some, same_Some, slice_get_within}
use Rattle.std.specs.declared.cmp.Ordering.{Ordering}
use Rattle.std.specs.declared.cmp.Ordering.TheVariants.{Less, Equal, Greater}
use Rattle.std.specs.List.{list_any, position}
use Rattle.std.specs.Ordering.{is_eq, ordering_then}
use Rattle.bsdl_device.specs.Device.{Device, PortBit}
use Rattle.board_tables.proofs.TextLaws.{is_there}
use Rattle.pin_nets.specs.declared.Pin.{Pin}
use Rattle.board_parts.specs.Pins.{bit_of, no_tap, pin_bit, same_pin}

then_at : (o p : Ordering) → is_eq (ordering_then o p) ≡ is_eq o && is_eq p
then_at Less p = refl
then_at Equal p = refl
then_at Greater p = refl

cmp_at : (b e : Bool) (m n : ℕ) → nat_lt m n ≡ b → (m == n) ≡ e → is_eq (cond b Less (cond e Equal Greater)) ≡ e
cmp_at true true m n p q = grind (arith, nat_tests)
cmp_at true false m n p q = refl
cmp_at false true m n p q = refl
cmp_at false false m n p q = refl

pub same_number : (m n : ℕ) → is_eq (nat_cmp m n) ≡ (m == n)
same_number m n = cmp_at (nat_lt m n) (m == n) m n refl refl

same_numbers : (a b c d : ℕ) → is_eq (ordering_then (nat_cmp a b) (nat_cmp c d)) ≡ (a == b) && (c == d)
same_numbers a b c d = then_at (nat_cmp a b) (nat_cmp c d) ∙ ap (λ x. x && is_eq (nat_cmp c d)) (same_number a b) ∙ ap (λ x. (a == b) && x) (same_number c d)

-- a pin has a place exactly where it is there
pub pin_there : (pin : Pin) (used : List Pin) → is_some (position (λ q. is_eq (ordering_then (nat_cmp pin.device q.device) (nat_cmp pin.port q.port))) used) ≡ list_any (same_pin pin) used
pin_there pin used =
    is_there (λ (q : Pin). is_eq (ordering_then (nat_cmp pin.device q.device) (nat_cmp pin.port q.port))) used
    ∙ ap (λ t. list_any t used) (λ i q. same_numbers pin.device q.device pin.port q.port i)

-- ---- port bits

inside : (d : Device) (k bit : ℕ) → no_tap d k ≡ Some bit → bit < length d.ports
inside d k bit h = by (slice_get d.ports k) refl h
  where
    at : (b : PortBit) → slice_get d.ports k ≡ Some b → (tap : Bool) → cond tap None (Some k) ≡ Some bit → bit < length d.ports
    at b is true e = absurd (none-some bit e)
    at b is false e = subst (λ n. n < length d.ports) (same_Some k bit e) (slice_get_within d.ports k b is)

    by : (o : Option PortBit) → slice_get d.ports k ≡ o → option_and_then (λ (b : PortBit). cond b.is_tap None (Some k)) o ≡ Some bit → bit < length d.ports
    by None is e = absurd (none-some bit e)
    by (Some b) is e = at b is b.is_tap e

-- the port bit of a pin is one of its device's
pub bit_inside : (d : Device) (port : List ℕ) (index : Option (List ℕ)) (bit : ℕ) → pin_bit d port index ≡ Some bit → bit < length d.ports
bit_inside d port index bit h = by (bit_of d port index) h
  where
    by : (o : Option ℕ) → option_and_then (no_tap d) o ≡ Some bit → bit < length d.ports
    by None e = absurd (none-some bit e)
    by (Some k) e = inside d k bit e
