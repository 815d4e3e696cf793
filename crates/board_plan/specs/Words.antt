-- What the words of a board file say of a device's core, of EXTEST, and of a net's pull.
use Rattle.std.specs.Prelude.{ℕ, Bool, false, ◌==◌, List, map, replicate, reverse, codes, bytes_eq}
use Rattle.std.specs.Prelude.{Option, Some, None, if◌then◌else◌}
use Rattle.pin_nets.specs.declared.Pull.{Pull}
use Rattle.pin_nets.specs.declared.Pull.TheVariants.{Up, Down, Free}

-- the digit `1`
abbrev pub one_digit : ℕ
one_digit = 49

-- the core's bits, cell 0 rightmost; all 0 where none are given
abbrev pub core_of : ℕ → Option (List ℕ) → List Bool
core_of cells None = replicate cells false
core_of cells (Some s) = map (λ c. c == one_digit) (reverse s)

abbrev pub is_update : Option (List ℕ) → Bool
is_update None = false
is_update (Some s) = bytes_eq s (codes "update")

abbrev pub pull_of : Option (List ℕ) → Pull
pull_of None = Free
pull_of (Some s) = if bytes_eq s (codes "up") then Up else if bytes_eq s (codes "down") then Down else Free
