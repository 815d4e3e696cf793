-- What a snapshot shows of a device.
use Rattle.std.specs.Prelude.{Bool, ℕ, List, Option, Some, None, option_map, slice_get, if◌then◌else◌}
use Rattle.chip_instructions.specs.Fitting.{has_code}
use Rattle.pin_nets.specs.declared.Level.{Level}
use Rattle.pin_nets.specs.Wired.{Net}
use Rattle.board_chain.specs.Cells.{Member}
use Rattle.board_chain.specs.Nets.{level}

-- its identification register, where its description has a code
abbrev pub id_of : Member → Option (List Bool)
id_of m = if has_code m.device then Some m.registers.identification else None

-- the stage and the latch of its user register k
abbrev pub user_of : Member → ℕ → Option (List Bool × List Bool)
user_of m k = option_map (λ u. (u.stage, u.latch)) (slice_get m.registers.users k)

-- the name of a net of the board, and its level
abbrev pub shown_net : List Net → List Member → Net → List ℕ × Level
shown_net nets ms n = (n.name, level nets ms n)
