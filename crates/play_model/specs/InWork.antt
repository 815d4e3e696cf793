-- The command in work, said of the turns that a play makes.
use Rattle.std.specs.Prelude.{◌≡◌, ◌⊎◌, ℕ, suc, ◌+◌, ◌≤◌, ◌<◌, List, [], ◌∷◌, ◌++◌, length, Some, None}
use Rattle.board_model.specs.Chain.{BoardState, hear}
use Rattle.scan_vectors.specs.Vector.{judge}
use Rattle.play_model.specs.Play.{Turn}

-- The turns that the full play makes: up to and with the first that fails.
abbrev pub turns_made : List Turn → BoardState → List Turn
turns_made [] b = []
turns_made (t ∷ ts) b =
    let heard = hear t.messages b in
    let rest = turns_made ts heard.board in
    elim (judge t.wants heard.answers) [ None ↦ t ∷ rest | Some f ↦ t ∷ [] ]

abbrev pub bytes_in : List Turn → ℕ
bytes_in [] = 0
bytes_in (t ∷ ts) = length t.messages + bytes_in ts

abbrev pub answers_in : List Turn → ℕ
answers_in [] = 0
answers_in (t ∷ ts) = length t.wants + answers_in ts

-- Of the turns made, the first of which a byte is not given out or an answer not taken, by its command; or, when all is
-- sent and answered, the statements plus 1. A turn without bytes is never in work.
pub data IsInWork (statements : ℕ) (ts : List Turn) (given got : ℕ) : ℕ → Type 0 where
  at_turn : (before : List Turn) (t : Turn) (later : List Turn) → ts ≡ before ++ t ∷ later → bytes_in before ≤ given
      → answers_in before ≤ got
      → (given < bytes_in before + length t.messages) ⊎ (got < answers_in before + length t.wants)
      → IsInWork statements ts given got t.command
  at_quit : bytes_in ts ≤ given → answers_in ts ≤ got → IsInWork statements ts given got (suc statements)
