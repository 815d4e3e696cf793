-- A place of a chain of so many devices.
use Rattle.std.specs.Prelude.{ℕ, ◌<◌, ⊤}
use Rattle.board_reasons.specs.declared.origins.Origin.{Origin}
use Rattle.board_reasons.specs.declared.origins.Origin.TheVariants.{Register, Tdi}

-- a place in a register is in one of so many devices
abbrev pub IsOfDevice : ℕ → Origin → Type 0
IsOfDevice devices (Register device bit) = device < devices
IsOfDevice devices (Tdi bit) = ⊤
