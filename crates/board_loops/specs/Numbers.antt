-- Numbers of nets, from a string's target to its source.
use Rattle.std.specs.Prelude.{◌<◌, ◌≤◌, ℕ, List, slice_index}
use Rattle.board_loops.specs.declared.net_loops.Dependency.{Dependency}

abbrev pub IsLowered : List ℕ → Dependency → Type 0
IsLowered numbers string = slice_index numbers string.source < slice_index numbers string.target

abbrev pub IsUnraised : List ℕ → Dependency → Type 0
IsUnraised numbers string = slice_index numbers string.source ≤ slice_index numbers string.target
