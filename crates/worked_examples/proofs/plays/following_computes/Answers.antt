use Rattle.worked_examples.proofs.FollowingCompute.{followingrows}
use Rattle.worked_examples.proofs.plays.following_computes.Goals as goal

pub returns : goal.returns
returns c = followingrows
