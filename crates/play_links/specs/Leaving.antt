-- The bytes that a board leaves where it stops.
use Rattle.std.specs.Prelude.{ℕ, List, [], ◌∷◌}
use Rattle.board_model.specs.Chain.{BoardState, after_byte, reply}
use Rattle.board_model.specs.declared.Reply.{Reply}
use Rattle.board_model.specs.declared.Reply.TheVariants as said

-- after a reply: those behind the byte where it stops there, and else those that it leaves of them
abbrev pub left_after : Reply → (behind left : List ℕ) → List ℕ
left_after said.Nothing behind left = left
left_after (said.Answer a) behind left = left
left_after said.Quit behind left = behind
left_after (said.Refused byte) behind left = behind

-- A board takes bytes one by one, up to and with a `Q` or a byte that it refuses. These are behind that.
abbrev pub left_behind : List ℕ → BoardState → List ℕ
left_behind [] b = []
left_behind (byte ∷ bytes) b = left_after (reply byte b) bytes (left_behind bytes (after_byte byte b))
