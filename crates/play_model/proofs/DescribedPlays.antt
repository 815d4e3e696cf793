-- A board at rest shows one state; and every board of sound descriptions plays every legal program as it means.
use Rattle.std.proofs.Common.{◌≡◌, ℕ, ◌<◌, suc, List, [], ◌∷◌, length, map, refl, sym, ap, ◌∙◌, subst, arith}
use Rattle.std.specs.List.{AllByRecursion}
use Rattle.jt_tap.specs.declared.State.{State}
use Rattle.jt_tap.specs.declared.State.TheVariants.{Reset}
use Rattle.board_model.specs.Cells.{Member}
use Rattle.board_model.specs.Chain.{BoardState, ChipState, hear, members}
use Rattle.board_model.specs.Whole.{AtRest}
use Rattle.board_model.specs.Resting.{IsAtRest, power_up, board_at_rest, chip_at_rest}
use Rattle.board_model.specs.Sound.{AllSound, IsSound, HasDevice, IsPoweredUp, IsSoundBoard}
use Rattle.play_model.specs.LegalPlays.{EveryDescribedBoardPlaysLegalPrograms, EveryLegalProgramMeansFromOpening, IsOpened, PlaysAsItMeans, TheStateAtRestIsOne, powered_up_after}
use Rattle.play_model.specs.declared.ending.Ending.{Ending}
use Rattle.play_model.specs.DirectPlay.{MeansFromOpening, opened_state}
use Rattle.play_model.specs.Meaning.{outcome}
use Rattle.play_model.specs.Play.{play}
use Rattle.bitbang.specs.Legal.{IsLegalProgram}
use Rattle.bitbang.specs.Steps.{Numbered, Program}
use Rattle.bitbang_protocol.specs.Cycles.{opening}
use Rattle.board_model.proofs.SoundEdges.{count-bytes, sound-bytes}
use Rattle.play_model.proofs.Legality.{legal-from}
use Rattle.play_model.proofs.AfterOpening.{opened-is-reset, standing-members}
use Rattle.board_model.proofs.Powered.{powered_sound}
use Rattle.play_model.proofs.Programs.{opened-is, opened_to, program-plays}

first_state : List ChipState → State
first_state [] = Reset
first_state (c ∷ cs) = c.state

standing-state : (p : State) (ms : List Member) → 0 < length (map (chip_at_rest p) ms) → first_state (map (chip_at_rest p) ms) ≡ p
unfolding first_state
standing-state p [] some = absurd (omega arith)
standing-state p (m ∷ ms) some = refl

same-rest : (m n : AtRest) → HasDevice (board_at_rest m) → HasDevice (board_at_rest n) → board_at_rest m ≡ board_at_rest n → m ≡ n
same-rest m n here there same =
    let place : m.place ≡ n.place = sym (standing-state m.place m.members here) ∙ ap (λ b. first_state b.chips) same ∙ standing-state n.place n.members there in
    let chain : m.members ≡ n.members = sym (standing-members m.place m.members) ∙ ap (λ b. members b.chips) same ∙ standing-members n.place n.members in
    λ i. record { place = place i; trst = (same i).trst; nets = (same i).nets; members = chain i }

pub one_state : TheStateAtRestIsOne
one_state b m n some is also =
    same-rest m n (subst (λ (c : BoardState). HasDevice c) is some) (subst (λ (c : BoardState). HasDevice c) also some) (sym is ∙ also)

pub described-sound : (ms : List Member) → AllByRecursion (λ d. IsPoweredUp d) ms → AllSound (members (map (chip_at_rest Reset) ms))
described-sound [] all = tt
described-sound (m ∷ ms) all = (
  subst (λ (d : Member). IsSound d) (sym all.0.powered_up) (powered_sound m.name m.device m.core m.follows m.extest_update all.0.description),
  described-sound ms all.1,
)

pub count-standing : (p : State) (ms : List Member) → length (map (chip_at_rest p) ms) ≡ length ms
count-standing p [] = refl
count-standing p (m ∷ ms) = ap (λ n. suc n) (count-standing p ms)

pub described : EveryDescribedBoardPlaysLegalPrograms
described nets ms bytes all some =
    let b = powered_up_after nets ms bytes in
    let start = board_at_rest (power_up nets ms) in
    let sound : IsSoundBoard b = sound-bytes bytes start (described-sound ms all) in
    let devices : HasDevice b = subst (λ (n : ℕ). 0 < n) (sym (count-bytes bytes start ∙ count-standing Reset ms)) some in
    subst (λ (m : AtRest). IsOpened b m × ((steps : List Numbered) → IsLegalProgram steps → PlaysAsItMeans steps b m)) (opened-is-reset b)
    (opened-is b sound, λ steps legal. program-plays b sound devices steps (legal-from steps (opened_to b) refl legal))

-- the words of the contracts, at a state that is the one after the opening
pub means : (program : Program) (before : BoardState) (ending : Ending) (after : BoardState) (m : AtRest) → m ≡ opened_state before
    → IsAtRest (hear opening before).board m → ending ≡ (outcome program.steps m).ending → IsAtRest after (outcome program.steps m).after
    → MeansFromOpening program before ending after
means program before ending after m same rests ends leaves =
    subst (λ (n : AtRest). IsAtRest (hear opening before).board n × (ending ≡ (outcome program.steps n).ending) × IsAtRest after (outcome program.steps n).after)
    same (rests, ends, leaves)

pub means_from_opening : EveryLegalProgramMeansFromOpening
means_from_opening program b sound devices legal =
    let is = opened-is b sound in
    let plays = program-plays b sound devices program.steps (legal-from program.steps (opened_to b) refl legal) in
    means program b (play program b).ending (play program b).board (opened_to b) (opened-is-reset b) is.board plays.ending plays.board
