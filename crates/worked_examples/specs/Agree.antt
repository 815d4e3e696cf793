-- What a worked row says: the play by edges, the outcome by whole registers, and that they agree.
use Rattle.std.specs.Prelude.{◌≡◌, Bool, true, false, ℕ, List, [], ◌∷◌, ◌++◌, map, Option, Some, None, bytes_eq}
use Rattle.jt_tap.specs.declared.State.{State}
use Rattle.jt_tap.specs.declared.State.TheVariants.{Reset, Idle, DrPause, IrPause}
use Rattle.chip_registers.specs.Registers.{Registers}
use Rattle.chip_registers.specs.declared.users.UserRegister.{UserRegister}
use Rattle.bitbang_protocol.specs.Protocol.{encode}
use Rattle.board_model.specs.Chain.{BoardState, ChipState}
use Rattle.board_model.specs.Whole.{AtRest, after_opening}
use Rattle.board_model.specs.Resting.{board_at_rest}
use Rattle.svf_programs.specs.Steps.{Numbered}
use Rattle.play_model.specs.Meaning.{Outcome, outcome}
use Rattle.play_model.specs.declared.ending.Ending.{Ending}
use Rattle.play_model.specs.Play.{Played, full_play, turns}

abbrev pub played : AtRest → List Numbered → Played
played m steps = full_play (turns steps) (board_at_rest m)

abbrev pub meant : AtRest → List Numbered → Outcome
meant m steps = outcome steps (after_opening m)

abbrev pub number : Bool → ℕ
number true = 1
number false = 0

-- registers as numbers, each list closed by a 2
abbrev pub flat : List Bool → List ℕ
flat bits = map number bits ++ 2 ∷ []

abbrev pub flat_users : List UserRegister → List ℕ
flat_users [] = []
flat_users (u ∷ us) = flat u.stage ++ flat u.latch ++ flat_users us

abbrev pub flat_registers : Registers → List ℕ
flat_registers r =
    flat r.latch ++ flat r.stage ++ flat r.bypass ++ flat r.identification ++ flat r.boundary ++ flat r.update
    ++ flat_users r.users

abbrev pub place : State → ℕ
place Reset = 0
place Idle = 1
place DrPause = 2
place IrPause = 3
place _ = 4

-- whether TDO is driven
abbrev pub driven : Option Bool → ℕ
driven None = 0
driven (Some b) = 1

abbrev pub flat_chips : List ChipState → List ℕ
flat_chips [] = []
flat_chips (c ∷ cs) = place c.state ∷ driven c.tdo ∷ flat_registers c.member.registers ++ flat_chips cs

abbrev pub flat_board : BoardState → List ℕ
flat_board b = number b.tck ∷ number b.trst ∷ flat_chips b.chips

-- the bytes of the play, its ending by both meanings, and the same board at the end
abbrev pub Row : AtRest → List Numbered → (bytes : List ℕ) → Ending → Type 0
Row m steps bytes ending =
    (map encode (played m steps).messages ≡ bytes)
    × ((played m steps).ending ≡ ending)
    × ((meant m steps).ending ≡ ending)
    × (bytes_eq (flat_board (played m steps).board) (flat_board (board_at_rest (meant m steps).after)) ≡ true)
