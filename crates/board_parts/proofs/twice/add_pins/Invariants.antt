use Rattle.std.proofs.Common.{◌≡◌, ◌++◌, drop}
use Rattle.board_parts.specs.Twice.{is_some_twice}
use Rattle.board_parts.proofs.twice.add_pins.Given as goal

-- what is left is judged as the whole is, and the pins so far with those to come are all
abbrev pub invariant-loop-pin : goal.invariant-loop-pin
invariant-loop-pin l =
    let rest = drop l.pin-index l.pins in
    record {
      judged : is_some_twice l.used rest ≡ is_some_twice l.fn.used l.pins;
      added : l.used ++ rest ≡ l.fn.used ++ l.pins;
    }
