-- Lengths of registers and of patterns, and what captures end in (IEEE Std 1149.1-2001, Annex B.8.11 to B.8.14).
use Rattle.std.specs.Prelude.{ℕ, nat_le, ◌==◌, Bool, true, false, not, ◌&&◌, is_some, if◌then◌else◌, List, [], ◌∷◌}
use Rattle.std.specs.Prelude.{length, Option, Some, None, unwrap_or, bytes_eq, codes}
use Rattle.std.specs.List.{list_any, list_all}
use Rattle.bsdl_device.specs.Device.{Pattern}
use Rattle.bsdl_values.specs.InstructionValues.{Instr, AccessRow}
use Rattle.bsdl_description.specs.Describing.{Description}

abbrev pub has_len : ℕ → Pattern → Bool
has_len n p = length p == n

-- the length of the register of a row: its own, or the public register's, where the boundary register has this one
abbrev pub row_len : ℕ → AccessRow → ℕ
row_len boundary r =
    unwrap_or r.len (if bytes_eq r.register (codes "BOUNDARY") then boundary
    else if bytes_eq r.register (codes "BYPASS") then 1 else 32)

abbrev pub patterns_captured : Option Pattern → List Pattern
patterns_captured None = []
patterns_captured (Some p) = p ∷ []

abbrev pub captures_fit : ℕ → Instr → Bool
captures_fit n i = list_all (has_len n) (patterns_captured i.captures)

abbrev pub is_empty : AccessRow → Bool
is_empty r = is_some r.len && unwrap_or r.len 0 == 0

-- a register has a bit, and what it captures has its length
abbrev pub access_fits : ℕ → AccessRow → Bool
access_fits boundary r = not (is_empty r) && list_all (captures_fit (row_len boundary r)) r.instrs

-- two rows give one register of the device's own two lengths
abbrev pub differ : AccessRow → AccessRow → Bool
differ a b =
    is_some a.len && (is_some b.len && (bytes_eq a.register b.register
    && not (unwrap_or a.len 0 == unwrap_or b.len 0)))

abbrev pub agree : List AccessRow → Bool
agree rows = list_all (λ r. not (list_any (differ r) rows)) rows

-- instructions have two bits at least, the boundary register one
abbrev pub has_bits : Description → Bool
has_bits d = nat_le 2 d.instruction_length && nat_le 1 d.boundary_length

-- opcodes and what is captured are as long as instructions
abbrev pub instructions_fit : Description → Bool
instructions_fit d =
    list_all (λ r. list_all (has_len d.instruction_length) r.patterns) d.opcodes
    && has_len d.instruction_length d.capture

-- codes have 32 bits
abbrev pub codes_fit : Description → Bool
codes_fit d = list_all (has_len 32) d.idcodes && list_all (has_len 32) d.usercodes

abbrev pub lengths_fit : Description → Bool
lengths_fit d =
    has_bits d && (instructions_fit d && (codes_fit d
    && (list_all (access_fits d.boundary_length) d.accesses && agree d.accesses)))

-- ---- captures and codes, as written

-- the two rightmost are 01
abbrev pub captures_one : Pattern → Bool
captures_one (Some true ∷ Some false ∷ p) = true
captures_one _ = false

-- the rightmost of the first is 1
abbrev pub ends_in_one : List Pattern → Bool
ends_in_one [] = true
ends_in_one ((Some true ∷ p) ∷ ps) = true
ends_in_one _ = false
