-- Which instructions are the device's own, and the rows with those alone (IEEE Std 1149.1-2001, clause 8 and Annex
-- B.8.13).
use Rattle.std.specs.Prelude.{ℕ, Bool, ◌&&◌, not, List, [], ◌∷◌, filter, codes}
use Rattle.std.specs.List.{list_any}
use Rattle.bsdl_text.specs.Words.{upper, same_name}
use Rattle.bsdl_device.specs.Device.{Name}
use Rattle.bsdl_values.specs.InstructionValues.{OpcodeRow, Instr, AccessRow}
use Rattle.bsdl_text.specs.Words.{is_among}

-- the standard's instructions
abbrev pub standard_names : List Name
standard_names =
    codes "BYPASS" ∷ codes "EXTEST" ∷ codes "SAMPLE" ∷ codes "PRELOAD" ∷ codes "IDCODE" ∷ codes "USERCODE"
    ∷ codes "CLAMP" ∷ codes "HIGHZ" ∷ codes "INTEST" ∷ codes "RUNBIST" ∷ []

abbrev pub has_opcode : List OpcodeRow → List ℕ → Bool
has_opcode rows name = list_any (λ r. same_name r.name.text name) rows

-- an instruction of the device's own: it has an opcode, and is neither the standard's nor private
abbrev pub is_own : List OpcodeRow → List Name → Instr → Bool
is_own rows private i =
    has_opcode rows i.name.text
    && (not (is_among standard_names (upper i.name.text)) && not (is_among private (upper i.name.text)))

-- the own instructions of each row; a row without any is left out
abbrev pub with_own : AccessRow → List Instr → List AccessRow → List AccessRow
with_own row [] rows = rows
with_own row (i ∷ is) rows = record row { instrs = i ∷ is } ∷ rows

abbrev pub own_accesses : (Instr → Bool) → List AccessRow → List AccessRow
own_accesses own [] = []
own_accesses own (row ∷ rows) = with_own row (filter own row.instrs) (own_accesses own rows)
