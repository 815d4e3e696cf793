-- Cycles with TMS low among the bytes that a board is served.
use Rattle.std.specs.Prelude.{◌≡◌, Bool, true, false, ℕ, ◌+◌, ◌≤◌, List, [], ◌∷◌, ◌++◌, map, length, Option, Some}
use Rattle.std.specs.Prelude.{if◌then◌else◌}
use Rattle.bitbang_protocol.specs.declared.Cycle.{Cycle}
use Rattle.bitbang_protocol.specs.declared.Message.{Message}
use Rattle.bitbang_protocol.specs.declared.Message.TheVariants.{Write}
use Rattle.bitbang_protocol.specs.Protocol.{answer}
use Rattle.board_model.specs.Chain.{BoardState, Heard, after_message, tdi_before}
use Rattle.jt_board.specs.Words.{word_bits}
use Rattle.play_links.specs.Leaving.{left_behind}
use Rattle.play_links.specs.Serves.{ServedBytes, serve_bytes}

-- one cycle with TMS low and this TDI: TCK goes high and low
abbrev pub after_cycle : Bool → BoardState → BoardState
after_cycle tdi b = after_message (Write false false false) (after_message (Write true false tdi) b)

-- TDO, where it is read
abbrev pub asked : Bool → BoardState → List Bool
asked read b = if read then tdi_before true b.chips ∷ [] else []

-- the cycles one after another
abbrev pub heard : List Cycle → BoardState → Heard
heard [] b = record { answers = []; board = b }
heard (c ∷ cs) b = let rest = heard cs
    (after_cycle c.tdi b) in record { answers = asked c.read b ++ rest.answers; board = rest.board }

-- what was served, with these answers before it
abbrev pub answered : List Bool → ServedBytes → ServedBytes
answered bits s = record s { answers = map answer bits ++ s.answers }

-- the first bytes are those of a cycle, and these are left
abbrev pub IsCycle : Cycle → (bytes rest : List ℕ) → Type 0
IsCycle c bytes rest = (b : BoardState)
    → (serve_bytes bytes b ≡ answered (asked c.read b) (serve_bytes rest (after_cycle c.tdi b)))
    × (left_behind bytes b ≡ left_behind rest (after_cycle c.tdi b))

abbrev pub AreCycles : List Cycle → (bytes rest : List ℕ) → Type 0
AreCycles cs bytes rest = (b : BoardState)
    → (serve_bytes bytes b ≡ answered (heard cs b).answers (serve_bytes rest (heard cs b).board))
    × (left_behind bytes b ≡ left_behind rest (heard cs b).board)

-- n cycles at the front of bytes, in words
pub record IsRun (tdi reads n : ℕ) (bytes rest : List ℕ) : Type 0 where
  pub cycles : List Cycle
  pub tdis : word_bits tdi n ≡ map (λ c. c.tdi) cycles
  pub asks : word_bits reads n ≡ map (λ c. c.read) cycles
  pub are : AreCycles cycles bytes rest
  pub few : n ≤ 64
  pub room : n + length rest ≤ length bytes

-- those of the bits that are read
abbrev pub picked : (reads bits : List Bool) → List Bool
picked (r ∷ reads) (b ∷ bits) = if r then b ∷ picked reads bits else picked reads bits
picked _ _ = []

-- a byte that writes TCK low
abbrev pub writes_low : Option Message → Bool
writes_low (Some (Write false tms tdi)) = true
writes_low _ = false
