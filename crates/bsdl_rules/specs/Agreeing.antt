-- The lengths that are known of registers.
use Rattle.std.specs.Prelude.{ℕ, ◌==◌, Bool, true, if◌then◌else◌, List, Option, Some, None, bytes_eq}
use Rattle.bsdl_values.specs.InstructionValues.{AccessRow}

-- no other length is known
abbrev pub agrees : Option ℕ → ℕ → Bool
agrees None n = true
agrees (Some m) n = m == n

-- a row says nothing else than what is known
abbrev pub row_agrees : (List ℕ → Option ℕ) → AccessRow → Bool
row_agrees known r = at_len r.len
  where
    at_len : Option ℕ → Bool
    at_len None = true
    at_len (Some n) = agrees (known r.register) n

-- what is known with a row
abbrev pub with_row_length : (List ℕ → Option ℕ) → AccessRow → List ℕ → Option ℕ
with_row_length known r q = at_len r.len
  where
    at_len : Option ℕ → Option ℕ
    at_len None = known q
    at_len (Some n) = if bytes_eq r.register q then Some n else known q
