-- Of what a length does not fit (B5), by the word that tells it: an attribute or an instruction.
use Rattle.std.specs.Prelude.{ℕ, ◌||◌, nat_le, not, Bool, List, [], ◌∷◌, Option, None, option_map}
use Rattle.std.specs.Option.{option_or}
use Rattle.std.specs.List.{list_all, find}
use Rattle.bsdl_values.specs.declared.Attribute.TheVariants.{InstructionLength, BoundaryLength, InstructionCapture}
use Rattle.bsdl_values.specs.declared.Attribute.TheVariants.{IdcodeRegister, UsercodeRegister, RegisterAccess}
use Rattle.bsdl_values.specs.InstructionValues.{OpcodeRow, Instr, AccessRow}
use Rattle.bsdl_description.specs.Describing.{Description}
use Rattle.bsdl_rules.specs.Lengths.{has_len, is_empty, captures_fit, row_len}
use Rattle.bsdl_sizes.specs.declared.spots.Spot.{Spot}
use Rattle.bsdl_sizes.specs.declared.spots.Spot.TheVariants.{Inside}
use Rattle.bsdl_sizes.specs.Spots.{attribute_spot, unless_fits, first_spot}

-- the first instruction with an opcode that is not as long as instructions are
abbrev pub unfit_opcode : ℕ → List OpcodeRow → Option ℕ
unfit_opcode n rows = option_map (λ r. r.name.start) (find (λ r. not (list_all (has_len n) r.patterns)) rows)

-- the first of these instructions, whose register has no bit or has this length, that captures what is not as long
abbrev pub unfit_among : Bool → ℕ → List Instr → Option ℕ
unfit_among empty n is = option_map (λ i. i.name.start) (find (λ i. empty || not (captures_fit n i)) is)

abbrev pub unfit_in_row : ℕ → AccessRow → Option ℕ
unfit_in_row boundary r = unfit_among (is_empty r) (row_len boundary r) r.instrs

-- the first instruction whose register has no bit, or that captures what is not as long as its register
abbrev pub unfit_instr : ℕ → List AccessRow → Option ℕ
unfit_instr boundary [] = None
unfit_instr boundary (r ∷ rows) = option_or (unfit_in_row boundary r) (unfit_instr boundary rows)

-- in the order of docs/bsdl.md; where each of these fits, a register has two lengths
abbrev pub length_spot : Description → Option Spot
length_spot d =
    first_spot (unless_fits (nat_le 2 d.instruction_length) (attribute_spot d.given InstructionLength)
    ∷ unless_fits (nat_le 1 d.boundary_length) (attribute_spot d.given BoundaryLength)
    ∷ option_map (Inside d.opcode_start) (unfit_opcode d.instruction_length d.opcodes)
    ∷ unless_fits (has_len d.instruction_length d.capture) (attribute_spot d.given InstructionCapture)
    ∷ unless_fits (list_all (has_len 32) d.idcodes) (attribute_spot d.given IdcodeRegister)
    ∷ unless_fits (list_all (has_len 32) d.usercodes) (attribute_spot d.given UsercodeRegister)
    ∷ option_map (Inside d.access_start) (unfit_instr d.boundary_length d.accesses)
    ∷ attribute_spot d.given RegisterAccess ∷ [])
