-- The law of every schedule for boards as they are described.
use Rattle.std.proofs.Common.{ℕ, ◌<◌, sym, ◌∙◌, subst}
use Rattle.jt_tap.specs.declared.State.TheVariants.{Reset}
use Rattle.board_model.specs.Resting.{power_up, board_at_rest}
use Rattle.board_model.specs.Sound.{HasDevice, IsSoundBoard}
use Rattle.play_model.specs.LegalPlays.{powered_up_after}
use Rattle.board_model.proofs.SoundEdges.{count-bytes, sound-bytes}
use Rattle.play_model.specs.ScheduleLaws.{EveryScheduleOfEveryDescribedBoard}
use Rattle.play_model.proofs.DescribedPlays.{count-standing, described-sound}
use Rattle.play_model.proofs.SafetyLaws.{means_from_its_opening}

pub described_schedules : EveryScheduleOfEveryDescribedBoard
described_schedules nets ms bytes all some l stops program es legal ending unlost e =
    let start = board_at_rest (power_up nets ms) in
    let sound : IsSoundBoard (powered_up_after nets ms bytes) = sound-bytes bytes start (described-sound ms all) in
    let devices : HasDevice (powered_up_after nets ms bytes) = subst (λ (n : ℕ). 0 < n) (sym (count-bytes bytes start ∙ count-standing Reset ms)) some in
    means_from_its_opening l stops program (powered_up_after nets ms bytes) es sound devices legal ending unlost e
