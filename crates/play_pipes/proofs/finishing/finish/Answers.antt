use Rattle.std.proofs.Common.{sym, ◌∙◌}
use Rattle.play_pipes.proofs.Ends.{tells-some}
use Rattle.play_pipes.proofs.RoundsEnd.{reached-more}
use Rattle.play_pipes.proofs.finishing.finish.Goals as goal

pub unreachable-requires : goal.unreachable-requires
unreachable-requires c =
    tells-some c.go_on.new.pipes (reached-more c.args.pipes.now c.go_on.new.pipes c.go_on.ensures.events c.requires c.go_on.ensures.state) c.go_on.ensures.over
    (sym c.ended.ensures ∙ c.in-None.is)
