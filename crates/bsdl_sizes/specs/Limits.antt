-- Of what a limit is passed (B9), by the word that tells it: an attribute, an instruction or a port.
use Rattle.std.specs.Prelude.{ℕ, nat_le, not, Bool, if◌then◌else◌, List, [], ◌∷◌, ◌++◌, Option, Some, None, option_map}
use Rattle.std.specs.Prelude.{option_and_then, slice_get, unwrap_or}
use Rattle.std.specs.List.{list_all, find}
use Rattle.jt_limits.specs.Limits.{limits, subscript_limit}
use Rattle.bsdl_values.specs.declared.Attribute.TheVariants.{InstructionLength, BoundaryLength, BoundaryRegister}
use Rattle.bsdl_values.specs.declared.Attribute.TheVariants.{RegisterAccess}
use Rattle.bsdl_values.specs.CellRows.{CellRow}
use Rattle.bsdl_values.specs.InstructionValues.{OpcodeRow, Instr, AccessRow}
use Rattle.bsdl_entity.specs.Ports.{Port}
use Rattle.bsdl_description.specs.Describing.{Description}
use Rattle.bsdl_rules.specs.Limits.{ports_fit}
use Rattle.bsdl_sizes.specs.declared.spots.Spot.{Spot}
use Rattle.bsdl_sizes.specs.declared.spots.Spot.TheVariants.{Outside, Inside}
use Rattle.bsdl_sizes.specs.Spots.{attribute_spot, unless_fits, first_spot}

-- the first instruction with an opcode that is one too many
abbrev pub opcode_beyond : List OpcodeRow → Option ℕ
opcode_beyond rows = option_map (λ r. r.name.start) (slice_get rows limits.instructions)

-- the first port with which the ports so far pass a limit
abbrev pub port_beyond : (before : List Port) → List Port → Option ℕ
port_beyond before [] = None
port_beyond before (p ∷ ps) =
    let so_far = before ++ p ∷ [] in
    if ports_fit so_far then port_beyond so_far ps else Some p.name.start

abbrev pub numbers_fit : List CellRow → Bool
numbers_fit rows = list_all (λ r. nat_le r.number subscript_limit) rows

abbrev pub first_start : List Instr → Option ℕ
first_start is = option_map (λ i. i.name.start) (slice_get is 0)

-- the first instruction of the first row whose register has too many bits
abbrev pub long_register : List AccessRow → Option ℕ
long_register rows =
    option_and_then (λ r. first_start r.instrs) (find (λ r. not (nat_le (unwrap_or r.len 0) limits.user_bits)) rows)

-- in the order of docs/bsdl.md; where each of these keeps its limit, there are too many registers
abbrev pub limit_spot : Description → Option Spot
limit_spot d =
    first_spot (unless_fits (nat_le d.instruction_length limits.instruction_bits)
    (attribute_spot d.given InstructionLength)
    ∷ option_map (Inside d.opcode_start) (opcode_beyond d.opcodes)
    ∷ unless_fits (nat_le d.boundary_length limits.cells) (attribute_spot d.given BoundaryLength)
    ∷ unless_fits (numbers_fit d.cells) (attribute_spot d.given BoundaryRegister)
    ∷ option_map Outside (port_beyond [] d.ports)
    ∷ option_map (Inside d.access_start) (long_register d.accesses)
    ∷ attribute_spot d.given RegisterAccess ∷ [])
