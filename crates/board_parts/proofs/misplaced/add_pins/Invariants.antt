use Rattle.std.proofs.Common.{◌≡◌, ◌++◌, drop}
use Rattle.std.specs.List.{filter_map}
use Rattle.toml.specs.View.{items_view}
use Rattle.board_tables.specs.Fields.{texts_in}
use Rattle.board_tables.specs.WordView.{texts_of}
use Rattle.board_parts.specs.Pins.{twice, pin_at}
use Rattle.board_parts.proofs.misplaced.add_pins.Given as goal

-- what is left is judged as the whole is, and the pins so far with those to come are all
abbrev pub invariant-loop-pin : goal.invariant-loop-pin
invariant-loop-pin l =
    let names = texts_of l.names in
    let rest = texts_in (items_view (drop l.pin-index l.pins)) in
    let all = texts_in (items_view l.pins) in
    record {
      judged : twice names l.devices l.used rest ≡ twice names l.devices l.fn.used all;
      added : l.used ++ filter_map (pin_at names l.devices) rest ≡ l.fn.used ++ filter_map (pin_at names l.devices) all;
    }
