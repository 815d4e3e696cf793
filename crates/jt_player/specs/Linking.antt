-- What is told of a play over a connection, and of a board that was served.
use Rattle.std.specs.Prelude.{ℕ, List, [], ◌∷◌, codes, decimal}
use Rattle.output_words.specs.declared.status.Status.{Status}
use Rattle.output_words.specs.declared.status.Status.TheVariants as exits
use Rattle.output_words.specs.Digits.{hex_byte}
use Rattle.output_words.specs.Statuses.{number}
use Rattle.output_words.specs.Texts.{texts}
use Rattle.play_pipes.specs.Served.{Served}
use Rattle.play_pipes.specs.Served.TheVariants.{Quit, Closed, Refused, Bound, Broken}

-- the line of how serving ended; a refused byte is told by two lower-case hexadecimal digits
abbrev pub served_line : Served → List ℕ
served_line Quit = codes "quit\n"
served_line Closed = codes "closed\n"
served_line (Refused byte) = texts (codes "refused " ∷ hex_byte byte ∷ codes "\n" ∷ [])
served_line Bound = codes "bound\n"
served_line Broken = codes "broken\n"

-- its exit status: 0 the client ended it, 2 it sent a byte that is refused, 3 it was cut short
abbrev pub exit_status : Served → Status
exit_status Quit = exits.Pass
exit_status Closed = exits.Pass
exit_status (Refused byte) = exits.Refused
exit_status Bound = exits.Lost
exit_status Broken = exits.Lost

abbrev pub served_status : Served → ℕ
served_status served = number (exit_status served)

-- the line of a server that takes connections
abbrev pub listening_line : (port : ℕ) → List ℕ
listening_line port = texts (codes "listening on 127.0.0.1:" ∷ decimal port ∷ codes "\n" ∷ [])
