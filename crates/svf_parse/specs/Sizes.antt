-- How many bits a statement has, and what those of a field are to its value.
use Rattle.std.specs.Prelude.{◌≡◌, ℕ, ◌+◌, Bool, List, length, Option, Some, None, Ok}
use Rattle.jt_bits.specs.Hex.{hex_value}
use Rattle.jt_bits.specs.Lengths.{resized}
use Rattle.svf_parse.specs.Judging.{Said, scan, states, field_fault, bits_written}

-- the bits that a field writes, with 0s above them up to the length, are the value of its digits
abbrev pub ValuesAreWritten : Type 0
ValuesAreWritten = (n : ℕ) (h : List ℕ) → field_fault (Some n) (Some h) ≡ None
    → hex_value h n ≡ Ok (resized n (bits_written n h))

abbrev pub bits_in : Option (List Bool) → ℕ
bits_in None = 0
bits_in (Some bits) = length bits

-- a statement, with each bit and each state of a path that it has
abbrev pub size : Said → ℕ
size (scan which n tdi tdo mask smask) = 1 + (bits_in tdi + (bits_in tdo + (bits_in mask + bits_in smask)))
size (states ss) = 1 + length ss
size s = 1
