use Rattle.std.proofs.Common.{◌≡◌, ◌++◌, drop, map}
use Rattle.board_model.specs.Chain.{members}
use Rattle.board_model.specs.Resting.{IsAtRest}
use Rattle.board_model.specs.Whole as whole
use Rattle.board_model.specs.Whole.{AtRest}
use Rattle.board_faults.specs.Resting.{IsResting}
use Rattle.fault_events.specs.Captures.{Fits, noted_at, seen}
use Rattle.fault_events.specs.Events.{events_along}
use Rattle.fault_events.proofs.captures.along.Given as goal

abbrev pub invariant-loop-state : goal.invariant-loop-state
invariant-loop-state l =
    let pins = l.at.numbers.now.pins.items in
    let left = drop l.state-index l.path in
    record {
      rests : IsResting l.board;
      fits : Fits (members l.board.chips) l.at.devices.now l.at.numbers.now;
      noted : (m : AtRest) → IsAtRest l.fn.board m
          → (n : AtRest) × IsAtRest l.board n × (whole.along left n ≡ whole.along l.path m)
          × (map seen l.list.items ++ map (noted_at pins) (events_along l.at.command left n)
          ≡ map seen l.fn.list.items ++ map (noted_at pins) (events_along l.at.command l.path m));
    }
