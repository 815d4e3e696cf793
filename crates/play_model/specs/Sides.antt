-- What a board answers to bytes.
use Rattle.std.specs.Prelude.{Bool, ℕ, List, [], ◌∷◌, ◌++◌, Some, None}
use Rattle.bitbang_protocol.specs.Protocol.{decode}
use Rattle.board_model.specs.Chain.{BoardState, after_byte, answers}

-- A byte off the table is answered nothing.
abbrev pub answers_to_byte : ℕ → BoardState → List Bool
answers_to_byte byte b = elim (decode byte) [ Some m ↦ answers m b | None ↦ [] ]

abbrev pub answers_to_bytes : List ℕ → BoardState → List Bool
answers_to_bytes [] b = []
answers_to_bytes (byte ∷ bytes) b = answers_to_byte byte b ++ answers_to_bytes bytes (after_byte byte b)
