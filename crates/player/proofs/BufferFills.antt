-- A buffer that is filled by pieces.
use Rattle.std.proofs.Common.{◌≡◌, ℕ, zero, suc, ◌+◌, List, [], ◌∷◌, drop, refl, sym, Option, Some, None}
use Rattle.std.proofs.lemmas.List.{drop-drop}
use Rattle.std.specs.Prelude.{is_some, if◌then◌else◌}
use Rattle.play_model.specs.Streams.{StreamState, bytes_of, bytes_to_send}

drop-none : (n : ℕ) (l : List ℕ) → l ≡ [] → drop n l ≡ []
drop-none zero l e = e
drop-none (suc n) [] e = refl
drop-none (suc n) (x ∷ l) e = absurd (cc)

-- when more bytes are given out, the rest waits
pub waiting-more : (s : StreamState) (n : ℕ) → bytes_to_send 256 (record s { given = s.given + n }) ≡ drop n (bytes_to_send 256 s)
waiting-more s n = by s.bad
  where
    by : (bad : Option ℕ) → (if is_some bad then [] else drop (s.given + n) (bytes_of 256 s)) ≡ drop n (if is_some bad then [] else drop s.given (bytes_of 256 s))
    by None = sym (drop-drop n s.given (bytes_of 256 s))
    by (Some b) = sym (drop-none n [] refl)
