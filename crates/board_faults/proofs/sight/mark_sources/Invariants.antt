use Rattle.std.proofs.Common.{map, take, Some}
use Rattle.board_faults.specs.Sights.{Marks}
use Rattle.board_faults.proofs.sight.mark_sources.Given as goal

abbrev pub invariant-loop-follow : goal.invariant-loop-follow
invariant-loop-follow l = Marks l.fn.read l.read (map (λ f. Some f.source) (take l.follow-index l.follows))
