-- A position is no further than the bytes before it.
use Rattle.std.proofs.Common.{ℕ, zero, suc, Bool, true, false, ◌+◌, ◌≤◌, List, arith}
use Rattle.output_words.specs.declared.lines.Position.{Position}
use Rattle.refusal_places.specs.Positions.{position_at, position_behind, ends_line}

line_behind : (ends : Bool) (p : Position) → (position_behind ends p).line ≤ p.line + 1
line_behind true p = omega arith
line_behind false p = omega arith

pub line_small : (text : List ℕ) (k : ℕ) → (position_at text k).line ≤ k + 1
line_small text zero = omega arith
line_small text (suc k) = omega (arith, line_small text k, line_behind (ends_line text k) (position_at text k))

column_behind : (ends : Bool) (p : Position) → (position_behind ends p).column ≤ p.column + 1
column_behind true p = omega arith
column_behind false p = omega arith

pub column_small : (text : List ℕ) (k : ℕ) → (position_at text k).column ≤ k + 1
column_small text zero = omega arith
column_small text (suc k) = omega (arith, column_small text k, column_behind (ends_line text k) (position_at text k))
