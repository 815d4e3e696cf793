-- How many bytes go over a connection at once.
use Rattle.std.specs.Prelude.{ℕ}

-- the most that are read, or written, by one call, and that go one way in a turn
abbrev pub piece_bytes : ℕ
piece_bytes = 1024
