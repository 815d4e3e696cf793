-- The lists of a device that no limit bounds, its text bounds: the names of ports and instructions, the patterns of
-- instructions, the private names, and the own instructions with what they capture.
use Rattle.std.specs.Prelude.{ℕ, ◌+◌, ◌≤◌, Bool, List, [], ◌∷◌, length, Option, Some, None}
use Rattle.std.specs.List.{AllByRecursion}
use Rattle.bsdl_device.specs.Device.{Access, Device, Opcode}

-- the sum of a measure
abbrev pub total : {A : Type 0} → (A → ℕ) → List A → ℕ
total measure [] = 0
total measure (x ∷ xs) = measure x + total measure xs

-- the bytes of its name and the bits of its patterns
abbrev pub opcode_size : Opcode → ℕ
opcode_size o = length o.name + total length o.patterns

-- how many bits are given
abbrev pub bits_given : Option (List Bool) → ℕ
bits_given None = 0
bits_given (Some bits) = length bits

-- the bytes of its name and the bits that it captures
abbrev pub access_size : Access → ℕ
access_size a = length a.instruction + bits_given a.captures

-- at most so many entries, and so many bytes and bits, of each of these
pub record IsSmallDevice (most : ℕ) (d : Device) : Type 0 where
  -- each name by itself, since all bits of a port have the one name that is written
  pub port_names : AllByRecursion (λ p. length p.name ≤ most) d.ports
  pub private_names : length d.private_names ≤ most
  pub private_bytes : total length d.private_names ≤ most
  pub patterns : total (λ o. length o.patterns) d.opcodes ≤ most
  pub opcode_sizes : total opcode_size d.opcodes ≤ most
  pub accesses : length d.accesses ≤ most
  pub access_sizes : total access_size d.accesses ≤ most
