-- A scan through the registers of a chain, the one nearest TDO first (IEEE Std 1149.1-2001, clause 9).
use Rattle.std.specs.Prelude.{⊤}
use Rattle.std.specs.Prelude.{ℕ, Bool, List, [], ◌∷◌, ◌++◌, length, take, drop}
use Rattle.scan_vectors.specs.Vector.{VectorBit, tdis}

-- the registers joined, from TDO to TDI
abbrev pub joined_registers : List (List Bool) → List Bool
joined_registers [] = []
joined_registers (r ∷ rows) = r ++ joined_registers rows

-- the registers and behind them what is shifted in
abbrev pub passing : List VectorBit → List (List Bool) → List Bool
passing v rows = joined_registers rows ++ tdis v

-- what comes out
abbrev pub out : List VectorBit → List (List Bool) → List Bool
out v rows = take (length v) (passing v rows)

-- what stays in
abbrev pub left : List VectorBit → List (List Bool) → List Bool
left v rows = drop (length v) (passing v rows)

-- The new links are the old ones, of which each register has its part of a joined list, cut back by the same lengths.
abbrev pub IsCutBack : {A : Type 0} → (register : A → List Bool) → (is_put : A → List Bool → A → Type 0)
    → List Bool → (old new : List A) → Type 0
IsCutBack register is_put bits [] [] = ⊤
IsCutBack register is_put bits (c ∷ old) (d ∷ new) =
    is_put c (take (length (register c)) bits) d × IsCutBack register is_put (drop (length (register c)) bits) old new
IsCutBack register is_put bits _ _ = ⊥

-- how many bits stand before register k
abbrev pub before : List (List Bool) → ℕ → ℕ
before rows k = length (joined_registers (take k rows))
