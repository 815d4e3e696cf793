use Rattle.std.proofs.Common.{◌≡◌, ◌++◌, drop}
use Rattle.std.specs.List.{filter_map}
use Rattle.toml.specs.View.{items_view}
use Rattle.board_tables.specs.Fields.{texts_in}
use Rattle.board_tables.specs.WordView.{texts_of}
use Rattle.board_parts.specs.Pins.{pin_at, unknown_pin}
use Rattle.board_parts.proofs.found.find_pins.Given as goal

-- what is left is judged as the whole is, and the pins so far with those to come are all
abbrev pub invariant-loop-pin : goal.invariant-loop-pin
invariant-loop-pin l =
    let names = texts_of l.names in
    let rest = texts_in (items_view (drop l.pin-index l.pins)) in
    let all = texts_in (items_view l.pins) in
    record {
      known : unknown_pin names l.devices rest ≡ unknown_pin names l.devices all;
      pins : l.found.items ++ filter_map (pin_at names l.devices) rest ≡ filter_map (pin_at names l.devices) all;
    }
