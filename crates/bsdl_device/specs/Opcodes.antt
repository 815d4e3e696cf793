-- Which instruction an opcode names, and the opcode of IDCODE (IEEE Std 1149.1-2001, clauses 7 and 8). Bits stand
-- lowest first.
use Rattle.std.specs.Prelude.{Bool, true, false, not, ◌&&◌, if◌then◌else◌, List, [], ◌∷◌, map, Option, Some, None}
use Rattle.std.specs.Prelude.{option_map, option_and_then, unwrap_or, bytes_eq, codes, slice_get}
use Rattle.std.specs.List.{list_any, list_all, find}
use Rattle.bsdl_device.specs.Device.{Name, Pattern, Opcode}

-- an X matches either bit
abbrev pub matches_bit : Option Bool → Bool → Bool
matches_bit None b = true
matches_bit (Some true) b = b
matches_bit (Some false) b = not b

-- a pattern matches an opcode of its own length
abbrev pub matches : Pattern → List Bool → Bool
matches [] [] = true
matches [] (b ∷ bs) = false
matches (d ∷ p) [] = false
matches (d ∷ p) (b ∷ bs) = matches_bit d b && matches p bs

-- one of an instruction's opcodes matches
abbrev pub names_it : List Bool → Opcode → Bool
names_it latch o = list_any (λ p. matches p latch) o.patterns

-- all ones is BYPASS; else the first row with a matching opcode names the instruction
abbrev pub named_instruction : List Opcode → List Bool → Option Name
named_instruction opcodes latch =
    if list_all (λ b. b) latch then Some (codes "BYPASS") else option_map (λ o. o.name) (find (names_it latch) opcodes)

abbrev pub is_idcode : Opcode → Bool
is_idcode o = bytes_eq (codes "IDCODE") o.name

-- the first opcode of IDCODE's row
abbrev pub idcode_opcode : List Opcode → Option Pattern
idcode_opcode opcodes = option_and_then (λ o. slice_get o.patterns 0) (find is_idcode opcodes)

-- what a pattern loads
abbrev pub x_as_0 : Pattern → List Bool
x_as_0 opcode = map (λ b. unwrap_or b false) opcode
