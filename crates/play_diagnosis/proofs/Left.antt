-- How much of a text is left to be cut.
use Rattle.std.proofs.Common.{ℕ, ◌+◌, List, Option, Some, None, length}

abbrev pub size_left : Option (List ℕ) → ℕ
size_left None = 0
size_left (Some rest) = length rest + 1
