-- Where a player stands in its play.
use Rattle.std.specs.Prelude.{ℕ, Bool, true, false, zero, suc, ◌+◌, ◌*◌, ◌==◌, List, [], ◌∷◌, ◌++◌, length, take}
use Rattle.std.specs.Prelude.{◌≤◌, drop, Option, Some, None, if◌then◌else◌}
use Rattle.bitbang_protocol.specs.declared.Message.{Message}
use Rattle.bitbang_protocol.specs.Protocol.{ask_byte}
use Rattle.scan_vectors.specs.Vector.{VectorBit, differs}
use Rattle.scan_vectors.specs.declared.part.Part.TheVariants.{Header}
use Rattle.svf_programs.specs.Steps.{Program}
use Rattle.play_model.specs.Play.{Turn, turns}
use Rattle.play_model.specs.declared.kind.Kind.TheVariants.{Stops}
use Rattle.play_model.specs.PlayingOn.{Mismatch}
use Rattle.play_model.specs.Streams.{Found, StreamState}
use Rattle.play_model.specs.InWork.{answers_in}

-- how many turns are over, how many messages of the present one are out and how many of its answers are there,
-- whether it stops behind it, and the byte that was no answer, if one came
pub record PlaceInPlay : Type 0 where
  pub over : ℕ
  pub gone : ℕ
  pub heard : ℕ
  pub stopped : Bool
  pub bad : Option ℕ

-- the messages of turns
abbrev pub messages_in : List Turn → List Message
messages_in [] = []
messages_in (t ∷ ts) = t.messages ++ messages_in ts

-- what stands for the failures of a player, where it is known only whether it stops for one
abbrev pub finding_of : Bool → Found
finding_of false = record { list = []; total = 0 }
finding_of true = record { list = record { command = 0; part = Header; bit = 0 } ∷ []; total = 1 }

-- the player that stands so, but for its kind and its failures
abbrev pub state_at : Program → PlaceInPlay → StreamState
state_at program s =
    let before = take s.over (turns program.steps) in record {
      program = program;
      kind = Stops;
      given = length (messages_in before) + s.gone;
      answered = answers_in before + s.heard;
      found = finding_of s.stopped;
      bad = s.bad;
    }

-- the bytes up to the first `R` past so many
abbrev pub up_to_reads : List ℕ → ℕ → List ℕ
up_to_reads [] n = []
up_to_reads (b ∷ bytes) n =
    if b == ask_byte then elim n [ zero ↦ [] | suc m ↦ b ∷ up_to_reads bytes m ] else b ∷ up_to_reads bytes n

-- how many `R` there are
abbrev pub reads : List ℕ → ℕ
reads [] = 0
reads (b ∷ bytes) = if b == ask_byte then suc (reads bytes) else reads bytes

-- Between two `R` there are two other bytes at least: of so many in a row, wherever they begin, a third at most is `R`.
abbrev pub IsSpaced : List ℕ → Type 0
IsSpaced bytes = (before n : ℕ) → 3 * reads (take n (drop before bytes)) ≤ n + 2

-- what differs of an answer to a wanted bit of a command
abbrev pub differing_bit : ℕ → VectorBit → Bool → Option Mismatch
differing_bit command w bit =
    if differs w.wanted bit then Some (record { command = command; part = w.part; bit = w.place }) else None
