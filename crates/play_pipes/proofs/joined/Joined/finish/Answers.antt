use Rattle.std.proofs.Common.{ap, subst}
use Rattle.play_pipes.specs.Joining.{JoinedState}
use Rattle.play_pipes.specs.Laws.{MeansAfter, MeansAllAfter}
use Rattle.play_pipes.proofs.Ends.{means-after, means-all-after}
use Rattle.play_pipes.proofs.RoundsEnd.{reached-more}
use Rattle.play_pipes.proofs.joined.Joined.finish.Goals as goal

pub invariant_of-self : goal.invariant_of-self
invariant_of-self c = reached-more c.self.inside.pipes c.finish.new.pipes c.finish.ensures.finished.events c.self.invariant c.finish.ensures.finished.state

pub returns-clause-means : goal.returns-clause-means
returns-clause-means c =
    subst (λ (s : JoinedState). MeansAfter s c.finish.new.pipes.world) c.self.view_is
    (means-after c.self.inside.pipes c.finish.ensures.finished.events c.finish.new.pipes.world (ap (λ (s : JoinedState). s.world) c.finish.ensures.finished.state))

pub returns-clause-means_all : goal.returns-clause-means_all
returns-clause-means_all c =
    subst (λ (s : JoinedState). MeansAllAfter s c.finish.new.pipes.world) c.self.view_is
    (means-all-after c.self.inside.pipes c.finish.ensures.finished.events c.finish.new.pipes.world (ap (λ (s : JoinedState). s.world) c.finish.ensures.finished.state))
