-- Answers taken one after another are those that are taken together.
use Rattle.std.proofs.Common.{◌≡◌, ℕ, zero, suc, List, [], ◌∷◌, take, refl, sym, ap, ◌∙◌}
use Rattle.play_model.specs.Playing.{up_to_bad}
use Rattle.play_model.specs.Streams as stream
use Rattle.play_model.specs.Streams.{StreamState, answers_taken, hear, hear_bytes}
use Rattle.player.specs.Each.{hear_each}
use Rattle.player.specs.Findings.{IsKeptOf, Keeping, keeping}
use Rattle.player.proofs.AnswersTaken.{takes-none}
use Rattle.player.proofs.Keeping.{owes-same, takes-same}

-- where nothing is owed, nothing is taken
pub each-none : (bytes : List ℕ) (s : StreamState) → stream.owed 256 s ≡ 0 → hear_each bytes s ≡ s
each-none [] s none = refl
each-none (byte ∷ bytes) s none =
    ap (λ (l : List ℕ). hear_each bytes (hear_bytes l s)) (takes-none s (byte ∷ []) none) ∙ each-none bytes s none

-- of no bytes none is taken
pub none-of-none : (s : StreamState) → answers_taken 256 s [] ≡ []
none-of-none s = by (stream.owed 256 s)
  where
    by : (n : ℕ) → up_to_bad (take n []) ≡ []
    by zero = refl
    by (suc n) = refl

-- a player that is owed none
pub each-unowed : (s : StreamState) (k : Keeping) → IsKeptOf s k → (bytes : List ℕ) → stream.owed 256 s ≡ 0
    → keeping k s ≡ hear_each bytes (keeping k s)
each-unowed s k keeps bytes none = sym (each-none bytes (keeping k s) (owes-same s k keeps ∙ none))

-- one is taken, and then the others
pub each-one : (s t : StreamState) (k : Keeping) → IsKeptOf s k → (byte : ℕ) (bytes : List ℕ)
    → answers_taken 256 s (byte ∷ []) ≡ byte ∷ answers_taken 256 t [] → (u : StreamState) → u ≡ hear byte (keeping k s)
    → hear_each (byte ∷ bytes) (keeping k s) ≡ hear_each bytes u
each-one s t k keeps byte bytes taken u heard =
    ap (λ (l : List ℕ). hear_each bytes (hear_bytes l (keeping k s)))
    (takes-same s k keeps (byte ∷ []) ∙ taken ∙ ap (λ (l : List ℕ). byte ∷ l) (none-of-none t))
    ∙ ap (hear_each bytes) (sym heard)
