-- Direct play: the player's bytes taken by the board at once, and what the register meaning says of it.
use Rattle.std.specs.Prelude.{◌≡◌, false, ℕ, List, map}
use Rattle.jt_tap.specs.declared.State.TheVariants.{Reset}
use Rattle.bitbang_protocol.specs.Protocol.{encode}
use Rattle.board_model.specs.Chain.{BoardState, hear, members}
use Rattle.board_model.specs.Whole.{AtRest}
use Rattle.bitbang_protocol.specs.Cycles.{opening}
use Rattle.board_model.specs.Resting.{IsAtRest}
use Rattle.play_model.specs.declared.ending.Ending.{Ending}
use Rattle.bitbang.specs.Steps.{Program}
use Rattle.play_model.specs.Meaning.{outcome}
use Rattle.play_model.specs.Play.{play}

-- Where the opening of a play leaves a board: in RESET with TRST released, in the registers that its edges left. That
-- the board is at rest there is a law.
abbrev pub opened_state : BoardState → AtRest
opened_state b = record { place = Reset; trst = false; nets = b.nets; members = members (hear opening b).board.chips }

-- The opening leaves the board at rest, and from there the ending and the last state are those of the program's meaning
-- over whole registers, and the board is at rest in that state.
abbrev pub MeansFromOpening : Program → (before : BoardState) → Ending → (after : BoardState) → Type 0
MeansFromOpening program before ending after =
    let meant = outcome program.steps (opened_state before) in
    IsAtRest (hear opening before).board (opened_state before) × (ending ≡ meant.ending) × IsAtRest after meant.after

-- the bytes of the play of a program on a board, up to the first failing step
abbrev pub bytes_of_play : Program → BoardState → List ℕ
bytes_of_play program b = map encode (play program b).messages
