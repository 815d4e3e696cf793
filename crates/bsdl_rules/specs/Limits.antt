-- The limits of a description.
use Rattle.std.specs.Prelude.{ℕ, nat_le, Bool, ◌&&◌, List, length}
use Rattle.std.specs.List.{list_all, sum_by}
use Rattle.jt_limits.specs.declared.Limits.{Limits}
use Rattle.jt_limits.specs.Limits.{limits, subscript_limit}
use Rattle.bsdl_entity.specs.Ports.{Port}
use Rattle.bsdl_description.specs.Describing.{Description}
use Rattle.bsdl_entity.specs.PortBits.{highest, width}
use Rattle.bsdl_opcodes.specs.Users.{users_of}

-- the bits of an instruction, and how many have opcodes
abbrev pub instructions_fit : Limits → Description → Bool
instructions_fit l d = nat_le d.instruction_length l.instruction_bits && nat_le (length d.opcodes) l.instructions

-- the cells, and the numbers of their rows
abbrev pub cells_fit : Limits → Description → Bool
cells_fit l d = nat_le d.boundary_length l.cells && list_all (λ r. nat_le r.number subscript_limit) d.cells

-- the indices of ports, and how many port bits there are
abbrev pub port_bits_fit : Limits → List Port → Bool
port_bits_fit l ps =
    list_all (λ p. nat_le (highest p.range) subscript_limit) ps && nat_le (sum_by (λ p. width p.range) ps) l.port_bits

-- the registers of the device's own, and the bits of each
abbrev pub users_fit : Limits → Description → Bool
users_fit l d =
    nat_le (length (users_of d.accesses)) l.user_registers && list_all (λ u. nat_le u.1 l.user_bits)
    (users_of d.accesses)

-- a description keeps these limits
abbrev pub keeps : Limits → Description → Bool
keeps l d = instructions_fit l d && (cells_fit l d && (port_bits_fit l d.ports && users_fit l d))

-- ---- the limits that stand

abbrev pub instructions_within : Description → Bool
instructions_within d = instructions_fit limits d

abbrev pub cells_within : Description → Bool
cells_within d = cells_fit limits d

abbrev pub ports_fit : List Port → Bool
ports_fit ps = port_bits_fit limits ps

abbrev pub ports_within : Description → Bool
ports_within d = ports_fit d.ports

abbrev pub users_within : Description → Bool
users_within d = users_fit limits d

abbrev pub is_within_limits : Description → Bool
is_within_limits d = keeps limits d
