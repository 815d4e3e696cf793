-- Bytes that texts of every kind are parted by.
use Rattle.std.specs.Prelude.{ℕ, Bool, ◌&&◌, ◌||◌, ◌==◌, nat_le}

-- space, tab, line feed, vertical tab, form feed, carriage return
abbrev pub is_white : ℕ → Bool
is_white c = c == 32 || (nat_le 9 c && nat_le c 13)

-- line feed and carriage return end a line
abbrev pub is_line_end : ℕ → Bool
is_line_end c = c == 10 || c == 13
