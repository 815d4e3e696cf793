use Rattle.std.proofs.Common.{ap, ◌∙◌}
use Rattle.play_model.specs.Streams.{StreamState}
use Rattle.player.specs.Each.{hear_each}
use Rattle.player.proofs.player.Player.answers_each.Goals as goal

pub returns : goal.returns
returns c = c.hear.ensures.each ∙ ap (λ (s : StreamState). hear_each c.args.bytes.now s) c.self.view_is
