use Rattle.std.proofs.Common.{◌<◌, ℕ, subst}
use Rattle.svf_programs.specs.Sizes.{program_of}
use Rattle.jt_player.proofs.KindLaws.{means}
use Rattle.play_explained.proofs.runs.run_play_explained.Goals as goal

pub returns-clause-means : goal.returns-clause-means
returns-clause-means g c =
    means c.args.kind (program_of c.args.program.now) c.args.board.now c.devices.ensures.sound (subst (λ (n : ℕ). 0 < n) c.devices.ensures.count c.devices.ensures.some)
    c.len.ensures.sound.legal
