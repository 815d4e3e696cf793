-- What the definitions promise of every chain: laws between the edge meaning and the register meaning.
use Rattle.std.specs.Prelude.{◌≡◌, Bool, true, false, ℕ, List, [], map}
use Rattle.std.specs.List.{AllByRecursion}
use Rattle.jt_tap.specs.declared.State.{State}
use Rattle.jt_tap.specs.declared.State.TheVariants.{Reset}
use Rattle.jt_tap.specs.Controller.{is_stable}
use Rattle.board_model.specs.Bare.{bare_board}
use Rattle.pin_nets.specs.declared.Follow.{Follow}
use Rattle.board_model.specs.Cells.{powered}
use Rattle.board_model.specs.Chain.{BoardState, Heard, after_bytes, hear, is_held}
use Rattle.bsdl_device.specs.Device.{Device, Name}
use Rattle.board_model.specs.Sound.{IsSound, IsSoundBoard}
use Rattle.bsdl_device.specs.Sound.{IsSoundDevice}
use Rattle.board_model.specs.Whole.{AtRest, arrive, after_opening, reset_member, settle}
use Rattle.jt_tap.specs.Paths.{go}
use Rattle.bitbang_protocol.specs.Cycles.{closed_messages, opening, five_resets, entering}
use Rattle.board_model.specs.Resting.{board_at_rest}

-- nothing was answered, and the board is at rest in m
abbrev pub quietly_at : AtRest → Heard
quietly_at m = record { answers = []; board = board_at_rest m }

-- in RESET, where nothing is left to reset: every latch is its reset instruction, every controlr cell its disabling
-- value
pub record IsReset (m : AtRest) : Type 0 where
  pub place : m.place ≡ Reset
  pub registers : map reset_member m.members ≡ m.members

-- the same in RESET
abbrev pub EndsInReset : Heard → Type 0
EndsInReset heard = (m : AtRest) × (heard ≡ quietly_at m) × IsReset m

-- Five cycles with TMS 1 and TRST released bring every board to rest in RESET in all devices.
abbrev pub FiveOnesRest : Type 0
FiveOnesRest = (b : BoardState) → b.trst ≡ false → EndsInReset (hear (closed_messages five_resets) b)

-- The opening brings every board, in mid-scan too, to rest in RESET with TRST released.
abbrev pub OpeningRests : Type 0
OpeningRests = (b : BoardState) → (m : AtRest) × (hear opening b ≡ quietly_at m) × IsReset m × (m.trst ≡ false)

-- From rest in m the opening gives m with TRST released, settled and reset.
abbrev pub OpeningSettles : Type 0
OpeningSettles = (m : AtRest) → is_stable m.place ≡ true → hear opening (board_at_rest m) ≡ quietly_at (after_opening m)

-- no device is held in RESET by TRST
abbrev pub IsFree : AtRest → Type 0
IsFree m = AllByRecursion (λ d. is_held m.trst d ≡ false) m.members

-- From rest in m, the bytes of a default path end at rest in m settled and arrived.
abbrev pub DefaultPathsSettleAndArrive : Type 0
DefaultPathsSettleAndArrive = (m : AtRest) (to : State) → is_stable m.place ≡ true → is_stable to ≡ true → IsFree m
    → hear (closed_messages (map entering (go m.place to))) (board_at_rest m) ≡ quietly_at (arrive to (settle m))

-- Whatever bytes a board takes, its registers stay sound.
abbrev pub BytesKeepRegistersSound : Type 0
BytesKeepRegistersSound = (bytes : List ℕ) (b : BoardState) → IsSoundBoard b → IsSoundBoard (after_bytes bytes b)

-- A device powers up sound if its description is.
abbrev pub SoundDescriptionsPowerUpSound : Type 0
SoundDescriptionsPowerUpSound = (name : Name) (d : Device) (core : List Bool) (follows : List Follow)
    (extest_update : Bool) → IsSoundDevice d → IsSound (powered name d core follows extest_update)

abbrev pub BareBoardsAreSound : Type 0
BareBoardsAreSound = (n : ℕ) → IsSoundBoard (bare_board n)
