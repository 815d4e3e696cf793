-- Limits one after the other.
use Rattle.std.proofs.Common.{◌≡◌, ℕ, Bool, true, false, ◌&&◌, List, length, map, refl, ap, ◌∙◌}
use Rattle.std.specs.Prelude.{nat_le}
use Rattle.std.specs.List.{list_all}
use Rattle.std.proofs.lemmas.List.Folds.{list_all-map}
use Rattle.std.proofs.lemmas.List.{length-map}
use Rattle.jt_limits.specs.Limits.{limits}
use Rattle.bsdl_device.specs.Device.{Name}

pub first_fails : (a b : Bool) → a ≡ false → false ≡ (a && b)
first_fails a b fails = rw fails refl

pub rest_is : (a b : Bool) → a ≡ true → b ≡ (a && b)
rest_is a b holds = rw holds refl

pub users_by : (lengths : List ℕ) (us : List (Name × ℕ)) → lengths ≡ map (λ u. u.1) us
    → (nat_le (length lengths) limits.user_registers && list_all (λ n. nat_le n limits.user_bits) lengths) ≡ (nat_le (length us) limits.user_registers && list_all (λ u. nat_le u.1 limits.user_bits) us)
users_by lengths us are =
    ap (λ ns. nat_le (length ns) limits.user_registers && list_all (λ n. nat_le n limits.user_bits) ns) are ∙ ap (λ (n : ℕ). nat_le n limits.user_registers && list_all (λ n. nat_le n limits.user_bits) (map (λ u. u.1) us)) (length-map us (λ u. u.1))
    ∙ ap (λ b. nat_le (length us) limits.user_registers && b) (list_all-map (λ n. nat_le n limits.user_bits) (λ u. u.1) us)
