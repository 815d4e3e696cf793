-- Marks, by their bytes.
use Rattle.std.specs.Prelude.{ℕ}

abbrev pub comma : ℕ
comma = 44

abbrev pub opening : ℕ
opening = 40

abbrev pub closing : ℕ
closing = 41

abbrev pub semi : ℕ
semi = 59

abbrev pub colon : ℕ
colon = 58
