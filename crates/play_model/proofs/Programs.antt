-- The opening leaves a sound board at rest and sound; from there every legal program plays as it means.
use Rattle.std.proofs.Common.{◌≡◌, true, false, ℕ, suc, ◌<◌, List, [], ◌∷◌, length, map, refl, sym, ap, ◌∙◌, subst}
use Rattle.std.specs.List.{AllByRecursion}
use Rattle.jt_tap.specs.declared.State.TheVariants.{Reset}
use Rattle.bitbang_protocol.specs.declared.Message.TheVariants.{Write, Lines}
use Rattle.board_model.specs.Cells.{Member}
use Rattle.bitbang_protocol.specs.Protocol.{encode}
use Rattle.board_model.specs.Chain.{ChipState, BoardState, after_bytes, is_held, members, after_message}
use Rattle.board_model.specs.Whole.{AtRest, reset_member}
use Rattle.play_model.specs.Meaning.{after_step}
use Rattle.board_model.specs.Resting.{IsRest}
use Rattle.board_model.proofs.FiveOnes.{opening-rests, reset_from_here}
use Rattle.board_model.specs.Sound.{AllSound, HasDevice, IsSoundBoard}
use Rattle.board_model.proofs.Sound.{Sound-reset}
use Rattle.board_model.proofs.BytesAndMessages.{after_all-encoded}
use Rattle.play_model.proofs.PathsAndRuns.{reset-all-twice}
use Rattle.bitbang.specs.Steps.{Numbered}
use Rattle.play_model.specs.Play.{full_play, player, turns}
use Rattle.play_model.proofs.Direct.{AllPlayed, program-law}
use Rattle.play_model.proofs.PlayLaws.{full_play_is_both_ends}
use Rattle.play_model.specs.Legal.{AllLegal}
use Rattle.play_model.specs.LegalPlays.{IsOpened, PlaysAsItMeans, EveryLegalProgramPlaysAsItMeans}
use Rattle.board_model.proofs.SoundEdges.{sound-told, count-told}
use Rattle.play_model.proofs.KeptByActions.{count-map}
use Rattle.play_model.proofs.AfterOpening.{opened-is-reset}
use Rattle.play_model.proofs.StepLaws.{step-done}

-- every step's law, and so every program's
pub all-played : (ss : List Numbered) (m : AtRest) → IsRest m → AllSound m.members → 0 < length m.members → AllLegal ss m → AllPlayed ss m
all-played [] m rest sound some legal = tt
all-played (s ∷ ss) m rest sound some legal =
    let done = step-done s.what m.place m.trst m.nets m.members rest sound some legal.0 in
    let devices : 0 < length (after_step s.what m).members = subst (λ (n : ℕ). 0 < n) (sym done.count) some in
    (done.answers, done.played, all-played ss (after_step s.what m) done.rest done.sound devices legal.1)

-- one cycle with TMS 1
abbrev one : BoardState → BoardState
one b = after_message (Write true true false) (after_message (Write false true false) b)

sound-one : (b : BoardState) → IsSoundBoard b → IsSoundBoard (one b)
sound-one b sound = sound-told (Write true true false) (after_message (Write false true false) b) (sound-told (Write false true false) b sound)

count-one : (b : BoardState) → length (one b).chips ≡ length b.chips
count-one b = count-told (Write true true false) (after_message (Write false true false) b) ∙ count-told (Write false true false) b

abbrev high : BoardState → BoardState
high b = one (one (one (one (one b))))

sound-high : (b : BoardState) → IsSoundBoard b → IsSoundBoard (high b)
sound-high b sound =
    sound-one (one (one (one (one b)))) (sound-one (one (one (one b))) (sound-one (one (one b)) (sound-one (one b) (sound-one b sound))))

count-high : (b : BoardState) → length (high b).chips ≡ length b.chips
count-high b = count-one (one (one (one (one b)))) ∙ count-one (one (one (one b))) ∙ count-one (one (one b)) ∙ count-one (one b) ∙ count-one b

count-members : (cs : List ChipState) → length (members cs) ≡ length cs
count-members [] = refl
count-members (c ∷ cs) = ap (λ n. suc n) (count-members cs)

-- the board as TRST is released, and the state at rest that the opening brings it to
abbrev pub unasserted : BoardState → BoardState
unasserted b = after_message (Lines false false) b

abbrev pub opened_to : BoardState → AtRest
opened_to b = reset_from_here (unasserted b)

pub opened-count : (b : BoardState) → length (opened_to b).members ≡ length b.chips
opened-count b =
    count-map reset_member (members (high (unasserted b)).chips) ∙ count-members (high (unasserted b)).chips
    ∙ count-high (unasserted b) ∙ count-told (Lines false false) b

released-held : (ms : List Member) → AllByRecursion (λ d. is_held false d ≡ true → Reset ≡ Reset) ms
released-held [] = tt
released-held (m ∷ ms) = (λ held. refl, released-held ms)

pub opened-is : (b : BoardState) → IsSoundBoard b → IsOpened b (opened_to b)
opened-is b sound = record {
  board = ap (λ h. h.board) (opening-rests b);
  rest = record {
    stable = refl;
    at_reset = λ e. reset-all-twice (members (high (unasserted b)).chips);
    held = released-held (opened_to b).members;
  };
  in_reset = refl;
  released = refl;
  sound = Sound-reset (members (high (unasserted b)).chips) (sound-high (unasserted b) (sound-told (Lines false false) b sound));
}

-- the player's bytes for the play's answers leave the play's board
by-bytes : (window : ℕ) (steps : List Numbered) (b : BoardState)
    → after_bytes (player window (turns steps) (full_play (turns steps) b).answers) b ≡ (full_play (turns steps) b).board
by-bytes window steps b =
    let p = full_play (turns steps) b in
    let both = full_play_is_both_ends window steps b in
    ap (λ ms. after_bytes (map encode ms) b) both.0 ∙ after_all-encoded p.messages b ∙ ap (λ h. h.board) both.1

plays : (steps : List Numbered) (b : BoardState) → IsOpened b (opened_to b) → HasDevice b → AllLegal steps (opened_to b)
    → PlaysAsItMeans steps b (opened_to b)
plays steps b is some legal =
    let devices : 0 < length (opened_to b).members = subst (λ (n : ℕ). 0 < n) (sym (opened-count b)) some in
    let same = program-law steps b (all-played steps (opened_to b) is.rest is.sound devices legal) in
    record { ending = same.ending; board = same.board; bytes = λ window. by-bytes window steps b ∙ same.board }

pub program-plays : (b : BoardState) → IsSoundBoard b → HasDevice b → (steps : List Numbered) → AllLegal steps (opened_to b) → PlaysAsItMeans steps b (opened_to b)
program-plays b sound some steps legal = plays steps b (opened-is b sound) some legal

pub program_means : EveryLegalProgramPlaysAsItMeans
program_means b sound some =
    let is = opened-is b sound in
    subst (λ (m : AtRest). IsOpened b m × ((steps : List Numbered) → AllLegal steps m → PlaysAsItMeans steps b m)) (opened-is-reset b)
    (is, λ steps legal. plays steps b is some legal)
