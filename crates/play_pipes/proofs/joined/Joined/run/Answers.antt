use Rattle.std.proofs.Common.{ap, subst}
use Rattle.play_pipes.specs.Joining.{JoinedState}
use Rattle.play_pipes.specs.Laws.{MeansAfter, MeansAllAfter}
use Rattle.play_pipes.proofs.Ends.{means-after, means-all-after}
use Rattle.std.proofs.Common.{map}
use Rattle.play_pipes.specs.Joining.{event_of}
use Rattle.play_pipes.proofs.RoundsEnd.{reached-more}
use Rattle.play_pipes.proofs.joined.Joined.run.Goals as goal

pub invariant_of-self : goal.invariant_of-self
invariant_of-self c = reached-more c.self.inside.pipes c.run-moved.new.self (map event_of c.args.events.now) c.self.invariant c.run-moved.ensures.world

pub returns-clause-means : goal.returns-clause-means
returns-clause-means c =
    subst (λ (s : JoinedState). MeansAfter s c.run-moved.new.self.world) c.self.view_is
    (means-after c.self.inside.pipes (map event_of c.args.events.now) c.run-moved.new.self.world (ap (λ (s : JoinedState). s.world) c.run-moved.ensures.world))

pub returns-clause-means_all : goal.returns-clause-means_all
returns-clause-means_all c =
    subst (λ (s : JoinedState). MeansAllAfter s c.run-moved.new.self.world) c.self.view_is
    (means-all-after c.self.inside.pipes (map event_of c.args.events.now) c.run-moved.new.self.world (ap (λ (s : JoinedState). s.world) c.run-moved.ensures.world))
