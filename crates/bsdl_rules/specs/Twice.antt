-- Names that a description gives twice: ports, attributes, opcodes and own instructions (IEEE Std 1149.1-2001, Annex
-- B.8.3 to B.8.14).
use Rattle.std.specs.Prelude.{ℕ, List, ◌++◌, map, Option}
use Rattle.std.specs.List.{flat_map}
use Rattle.bsdl_text.specs.Cutting.{Lexeme}
use Rattle.bsdl_description.specs.Describing.{Description}
use Rattle.bsdl_rules.specs.Namings.{Naming, repeated, earliest}

-- where a token stands in the text
abbrev pub outside : Lexeme → Naming
outside t = record { name = t.text; position = record { outer = t.start; within = 0 } }

-- where a token stands in a text within quotes, whose first quote is at this place
abbrev pub inside : ℕ → Lexeme → Naming
inside start t = record { name = t.text; position = record { outer = start; within = t.start } }

-- ports, attributes, instructions with an opcode, own instructions with a register
abbrev pub port_names : Description → List Naming
port_names d = map (λ p. outside p.name) d.ports

abbrev pub attribute_names : Description → List Naming
attribute_names d = map (λ g. outside g.name) d.given

abbrev pub opcode_names : Description → List Naming
opcode_names d = map (λ r. inside d.opcode_start r.name) d.opcodes

abbrev pub own_names : Description → List Naming
own_names d = map (λ i. inside d.access_start i.name) (flat_map (λ r. r.instrs) d.accesses)

-- what is given again in the text itself, and in the texts within quotes
abbrev pub repeated_outside : Description → List Naming
repeated_outside d = repeated (port_names d) ++ repeated (attribute_names d)

abbrev pub repeated_inside : Description → List Naming
repeated_inside d = repeated (opcode_names d) ++ repeated (own_names d)

-- the first name that is given again
abbrev pub given_again : Description → Option Naming
given_again d = earliest (repeated_outside d ++ repeated_inside d)
