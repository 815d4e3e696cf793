-- The order of names as keys.
use Rattle.std.specs.Prelude.{ℕ, ◌+◌, ◌-◌, ◌*◌, ◌%◌, ◌^◌, List, length, drop}
use Rattle.std.specs.Cmp.Lexicographic.{slice_cmp}
use Rattle.std.specs.List.{fold}
use Rattle.std.specs.Ordering.{nat_cmp, ordering_then}
use Rattle.std.specs.declared.cmp.Ordering.{Ordering}

-- a byte more at the end of a number of 64 bits
abbrev pub with_byte : ℕ → ℕ → ℕ
with_byte number byte = (number * 256 % 2 ^ 64 + byte) % 2 ^ 64

-- the last eight bytes of a name as a number
unfoldable pub end_of : List ℕ → ℕ
end_of name = fold with_byte 0 (drop (length name - 8) name)

-- names are in order by their ends, and then by all their bytes
unfoldable pub key_order : List ℕ → List ℕ → Ordering
key_order p q = ordering_then (nat_cmp (end_of p) (end_of q)) (slice_cmp nat_cmp p q)
