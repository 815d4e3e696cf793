-- The instructions of a device that have an opcode but no meaning of their own here: each stands for BYPASS.
use Rattle.std.specs.Prelude.{◌≡◌, Bool, true, ◌||◌, List, map, filter, Some, codes, bytes_eq}
use Rattle.std.specs.List.{list_any}
use Rattle.chip_instructions.specs.Device.{Name, Opcode, Device}
use Rattle.chip_instructions.specs.Instruction.{as_bypass, meaning_of}

-- the standard's INTEST and RUNBIST, and the private ones
abbrev pub is_left_out : Device → Name → Bool
is_left_out d name =
    bytes_eq name (codes "INTEST") || bytes_eq name (codes "RUNBIST") || list_any (bytes_eq name) d.private_names

-- in the order of the opcode rows
abbrev pub left_out : Device → List Name
left_out d = filter (is_left_out d) (map (λ (o : Opcode). o.name) d.opcodes)

-- an instruction that is left out does what BYPASS does
abbrev pub LeftOutMeansBypass : Type 0
LeftOutMeansBypass = (d : Device) (name : Name) → is_left_out d name ≡ true → meaning_of d (Some name) ≡ as_bypass
