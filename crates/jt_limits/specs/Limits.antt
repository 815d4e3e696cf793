-- The limits of texts, descriptions, boards and plays. The numbers stand here; that the code's are these is its law.
use Rattle.std.specs.Prelude.{ℕ, ◌≤◌}
use Rattle.jt_limits.specs.declared.Limits.{Limits}

-- those that stand
abbrev pub limits : Limits
limits = record {
  text_bytes = 16777216;
  statements = 200000;
  scan_bits = 1048576;
  vector_bits = 1048576;
  cycles = 4294967295;
  picoseconds = 1000000000000000000;
  description_bytes = 4194304;
  instruction_bits = 64;
  instructions = 256;
  cells = 4096;
  port_bits = 8192;
  user_registers = 64;
  user_bits = 4096;
  devices = 256;
  nets = 16384;
}

-- those that stood before
abbrev pub earlier_limits : Limits
earlier_limits = record limits {
  scan_bits = 65536;
  vector_bits = 65536;
  devices = 32;
  nets = 4096;
}

-- the largest index of a port, and the largest number of a row of the boundary register
abbrev pub subscript_limit : ℕ
subscript_limit = 65535

-- digits of a number of SVF text before its exponent, and the largest exponent: a number beyond them has no value
abbrev pub digit_limit : ℕ
digit_limit = 18

abbrev pub exponent_limit : ℕ
exponent_limit = 18

-- each number of a is at most that of b
pub record IsAtMost (a b : Limits) : Type 0 where
  pub text_bytes : a.text_bytes ≤ b.text_bytes
  pub statements : a.statements ≤ b.statements
  pub scan_bits : a.scan_bits ≤ b.scan_bits
  pub vector_bits : a.vector_bits ≤ b.vector_bits
  pub cycles : a.cycles ≤ b.cycles
  pub picoseconds : a.picoseconds ≤ b.picoseconds
  pub description_bytes : a.description_bytes ≤ b.description_bytes
  pub instruction_bits : a.instruction_bits ≤ b.instruction_bits
  pub instructions : a.instructions ≤ b.instructions
  pub cells : a.cells ≤ b.cells
  pub port_bits : a.port_bits ≤ b.port_bits
  pub user_registers : a.user_registers ≤ b.user_registers
  pub user_bits : a.user_bits ≤ b.user_bits
  pub devices : a.devices ≤ b.devices
  pub nets : a.nets ≤ b.nets
