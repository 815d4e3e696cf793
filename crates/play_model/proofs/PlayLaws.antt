-- The laws of the play.
use Rattle.std.proofs.Common.{◌≡◌, [], map, refl, sym, ap, subst, ◌∙◌}
use Rattle.std.proofs.lemmas.List.{map-append}
use Rattle.bitbang_protocol.specs.Protocol.{encode}
use Rattle.bitbang.specs.StepMessages.{step_messages}
use Rattle.board_model.specs.Laws.{IsReset}
use Rattle.board_model.specs.Resting.{IsAtRest}
use Rattle.board_model.specs.Whole.{AtRest}
use Rattle.board_model.proofs.BoardLaws.{resets-kept}
use Rattle.board_model.proofs.FiveOnes.{opening-rests}
use Rattle.play_model.specs.declared.ending.Ending.TheVariants.{Pass}
use Rattle.play_model.proofs.AfterOpening.{opened-is-reset}
use Rattle.play_model.specs.Play.{full_play, sent, turns}
use Rattle.play_model.specs.PlayLaws.{PlayerGrows, FullPlayIsBothEnds, StepsAskForTheirBits, EmptyProgramRests}
use Rattle.play_model.proofs.GrowthByPrefix.{sent-grows}
use Rattle.play_model.proofs.Asks.{asks-step, hear-asks, hear-full, sent-full, turns-ask}

pub player_grows : PlayerGrows
player_grows window steps got more =
    let p = sent-grows window (turns steps) got more in
    (map encode p.0, ap (map encode) (sym p.1) ∙ map-append encode (sent window (turns steps) got) p.0)

pub full_play_is_both_ends : FullPlayIsBothEnds
full_play_is_both_ends window steps b = (sent-full window (turns steps) b (turns-ask steps), hear-full (turns steps) b)

pub steps_ask : StepsAskForTheirBits
steps_ask place step b = hear-asks (step_messages place step) b ∙ asks-step place step

pub empty_rests : EmptyProgramRests
empty_rests b =
    subst (λ (m : AtRest). IsAtRest (full_play (turns []) b).board m × IsReset m × ((full_play (turns []) b).ending ≡ Pass)) (opened-is-reset b)
    (ap (λ h. h.board) (opening-rests b), record { place = refl; registers = resets-kept _ }, refl)
