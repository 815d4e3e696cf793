-- How many answers a player lets stay owed within one step.
use Rattle.std.specs.Prelude.{ℕ}

abbrev pub window : ℕ
window = 256
