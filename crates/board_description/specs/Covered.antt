-- Which instruction a board plays by an opcode, where a description gives its codes to several.
use Rattle.std.specs.Prelude.{◌≡◌, ◌&&◌, Bool, true, false, not, List, [], ◌∷◌, map, flat_map, codes}
use Rattle.std.specs.Prelude.{position, slice_get, Option, Some, None, option_and_then, unwrap_or, if◌then◌else◌}
use Rattle.std.specs.List.{list_all}
use Rattle.bsdl_device.specs.Device.{Device, Name, Opcode, Pattern}
use Rattle.chip_instructions.specs.Instruction.{instruction}

-- an X takes either bit, and X
abbrev pub takes_bit : Option Bool → Option Bool → Bool
takes_bit None b = true
takes_bit (Some a) None = false
takes_bit (Some true) (Some b) = b
takes_bit (Some false) (Some b) = not b

-- an opcode takes another of its length: every code of that is one of its own
abbrev pub takes : Pattern → Pattern → Bool
takes [] [] = true
takes [] (b ∷ q) = false
takes (a ∷ p) [] = false
takes (a ∷ p) (b ∷ q) = takes_bit a b && takes p q

-- the opcodes of a device, in the order of its description, and of each the instruction
abbrev pub opcode_patterns : List Opcode → List Pattern
opcode_patterns rows = flat_map (λ row. row.patterns) rows

abbrev pub opcode_names : List Opcode → List Name
opcode_names rows = flat_map (λ row. map (λ p. row.name) row.patterns) rows

abbrev pub is_one : Option Bool → Bool
is_one None = false
is_one (Some b) = b

-- the instruction that takes every code of an opcode: all ones is BYPASS, else the first opcode that takes it decides
abbrev pub taking : List Opcode → Pattern → Option Name
taking rows pattern =
    if list_all is_one pattern then Some (codes "BYPASS")
    else option_and_then (slice_get (opcode_names rows))
    (position (λ other. takes other pattern) (opcode_patterns rows))

-- the instruction that a board plays by an opcode of one
abbrev pub played : Device → Name → Pattern → Name
played d name pattern = unwrap_or (taking d.opcodes pattern) name

-- the law: of an opcode without an X it is what the board knows that code by
abbrev pub TakesAsTheBoardDoes : Type 0
TakesAsTheBoardDoes = (d : Device) (code : List Bool) → taking d.opcodes (map Some code) ≡ instruction d code
