-- The nets of a plan by the numbers of their pins.
use Rattle.std.specs.Prelude.{ℕ, ◌+◌, List, [], ◌∷◌, length}
use Rattle.std.specs.List.{range_with_len}
use Rattle.pin_nets.specs.Levels.{NetValue}
use Rattle.pin_nets.specs.Wired.{Net}

-- the nets by the numbers of their pins, from number k on
abbrev pub with_pin_numbers : ℕ → List Net → List NetValue
with_pin_numbers k [] = []
with_pin_numbers k (n ∷ ns) = record { pull = n.pull; rule = n.rule; pins = range_with_len k (length n.pins) }
    ∷ with_pin_numbers (k + length n.pins) ns
