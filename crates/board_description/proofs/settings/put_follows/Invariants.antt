use Rattle.std.proofs.Common.{◌≡◌, ◌++◌, take}
use Rattle.std.specs.Prelude.{flat_map}
use Rattle.board_description.specs.Described.{follow_line}
use Rattle.board_description.proofs.settings.put_follows.Given as goal

abbrev pub invariant-loop-follow : goal.invariant-loop-follow
invariant-loop-follow l = l.text.items ≡ l.initial.text.items ++ flat_map (follow_line l.name l.device) (take l.follow-index l.follows)
