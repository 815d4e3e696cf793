-- One half of a pair of ends that a call left as it was.
use Rattle.std.specs.Prelude.{◌≡◌, ℕ, List, Option}
use Rattle.std.specs.Io.KnownBytes.{Keeps}
use Rattle.std.proofs.Common.{subst, sym}
use Rattle.std.proofs.KnownBytes.{Keeps-refl}

-- what is known of a value is known of the same value
pub kept_where_same : {S : Type 0} (known : S → Option (List ℕ)) (old new : S) → new ≡ old
    → Keeps (known old) (known new)
kept_where_same known old new same = subst (λ s. Keeps (known old) (known s)) (sym same) (Keeps-refl (known old))
