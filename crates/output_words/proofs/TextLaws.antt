-- Texts that grow by one piece after another.
use Rattle.std.proofs.Common.{◌≡◌, ℕ, ◌+◌, ◌<◌, List, ◌++◌, length, take, get_or, sym}
use Rattle.std.specs.Prelude.{flat_map}
use Rattle.byte_streams.proofs.Pieces.{flat_map-more}

-- the pieces up to a place, and that at the place
pub flat_map_more : {X : Type 0} (f : X → List ℕ) (xs : List X) (i : ℕ) (x : X) → i < length xs
    → flat_map f (take (i + 1) xs) ≡ flat_map f (take i xs) ++ f (get_or xs i x)
flat_map_more f xs i x h = sym (flat_map-more f xs i x h)
