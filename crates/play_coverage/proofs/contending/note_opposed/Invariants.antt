use Rattle.std.proofs.Common.{◌≡◌, ◌++◌, ◌-◌, length, map, take, drop}
use Rattle.board_model.specs.Chain.{members}
use Rattle.board_model.specs.Nets.{is_opposed}
use Rattle.play_coverage.specs.Contending.{contention, either, newly}
use Rattle.play_coverage.proofs.contending.note_opposed.Given as goal

-- the nets before this one are marked; what is found, and behind it what the others give, is what all do
abbrev pub invariant-loop-net : goal.invariant-loop-net
invariant-loop-net l =
    let now = map (is_opposed l.chain.nets (members l.chain.chips)) l.chain.nets in record {
      long : length l.marks ≡ length l.chain.nets;
      marks : take l.net l.marks ++ either (drop l.net l.marks) (drop l.net now) ≡ either l.fn.marks now;
      found : l.found.items ++ map (contention l.command) (newly l.net (drop l.net l.marks) (drop l.net now))
          ≡ l.fn.found.items ++ map (contention l.command) (newly 0 l.fn.marks now);
    }

abbrev pub decreases-loop-net : goal.decreases-loop-net
decreases-loop-net l = length l.marks - l.net
