-- What the cells were told that their ports see, a byte for each of them.
use Rattle.std.specs.Prelude.{ℕ, ◌==◌, Bool}

abbrev pub is_one : ℕ → Bool
is_one byte = byte == 1
