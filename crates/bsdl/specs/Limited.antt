-- What no text can pass, whatever numbers it names. The lists that are left out here, the text bounds: names, how many
-- patterns an instruction has, private names, and own instructions with what they capture.
use Rattle.std.specs.Prelude.{⊤}
use Rattle.std.specs.Prelude.{◌≡◌, ℕ, ◌≤◌, Bool, List, length, Option, Some, None}
use Rattle.std.specs.List.{AllByRecursion}
use Rattle.jt_limits.specs.Limits.{limits, subscript_limit}
use Rattle.bsdl_device.specs.Device.{Device, Opcode}

-- a list of bits that is not left out has this length
abbrev pub HasLengthIfGiven : ℕ → Option (List Bool) → Type 0
HasLengthIfGiven n None = ⊤
HasLengthIfGiven n (Some bits) = length bits ≡ n

-- each pattern of an instruction is as long as the instruction register
abbrev pub HasPatternsOf : ℕ → Opcode → Type 0
HasPatternsOf n o = AllByRecursion (λ p. length p ≡ n) o.patterns

-- an index that is not left out is at most this
abbrev pub IsIndexWithin : ℕ → Option ℕ → Type 0
IsIndexWithin most None = ⊤
IsIndexWithin most (Some index) = index ≤ most

pub record IsLimitedDevice (d : Device) : Type 0 where
  pub ports : length d.ports ≤ limits.port_bits
  pub indices : AllByRecursion (λ p. IsIndexWithin subscript_limit p.index) d.ports
  pub two : 2 ≤ d.instruction_length
  pub instruction : d.instruction_length ≤ limits.instruction_bits
  pub opcodes : length d.opcodes ≤ limits.instructions
  pub patterns : AllByRecursion (λ o. HasPatternsOf d.instruction_length o) d.opcodes
  pub capture : length d.capture ≡ d.instruction_length
  pub idcode : HasLengthIfGiven 32 d.idcode
  pub usercode : HasLengthIfGiven 32 d.usercode
  pub cells : length d.cells ≤ limits.cells
  pub users : length d.users ≤ limits.user_registers
  pub user_lengths : AllByRecursion (λ n. n ≤ limits.user_bits) d.users
