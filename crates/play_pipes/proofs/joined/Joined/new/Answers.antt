use Rattle.play_pipes.proofs.RoundsEnd.{reached-new}
use Rattle.play_pipes.proofs.joined.Joined.new.Goals as goal

pub invariant_of-result : goal.invariant_of-result
invariant_of-result c =
    reached-new c.args.player c.args.board c.args.down c.args.up c.in_ok-pipes.pipes c.requires.fresh c.requires.down c.requires.up c.in_ok-pipes.ensures
