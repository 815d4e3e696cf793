-- Opcodes with an X, up to 64 at a time: a bit of each of them is a bit of two words.
use Rattle.std.specs.Prelude.{ℕ, suc, Bool, List, [], ◌∷◌, map, flat_map, Option, Some, None, option_map, if◌then◌else◌}
use Rattle.std.specs.List.{find}
use Rattle.bsdl_device.specs.Device.{Pattern}
use Rattle.jt_bits.specs.Packed.{has_bit}
use Rattle.board_description.specs.declared.blocks.Column.{Column}
use Rattle.board_description.specs.Covered.{takes}

-- the bit of the k-th opcode that a column has
abbrev pub column_bit : Column → ℕ → Option Bool
column_bit column k = if has_bit column.x k then None else Some (has_bit column.one k)

-- the k-th opcode
abbrev pub pattern_at : List Column → ℕ → Pattern
pattern_at columns k = map (λ column. column_bit column k) columns

-- the opcodes from the k-th on, so many as there are places, each with its place
abbrev pub pairs_from : ℕ → List ℕ → List Column → List (ℕ × Pattern)
pairs_from k [] columns = []
pairs_from k (place ∷ places) columns = (place, pattern_at columns k) ∷ pairs_from (suc k) places columns

-- those of all blocks
abbrev pub joined : List (List (ℕ × Pattern)) → List (ℕ × Pattern)
joined blocks = flat_map (λ block. block) blocks

-- the place of the first of these that takes an opcode
abbrev pub x_taking : List (ℕ × Pattern) → Pattern → Option ℕ
x_taking xs pattern = option_map (λ (x : ℕ × Pattern). x.0) (find (λ (x : ℕ × Pattern). takes x.1 pattern) xs)
