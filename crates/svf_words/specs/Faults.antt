-- The numbers of the refusals.
use Rattle.std.specs.Prelude.{ℕ, nat_le, if◌then◌else◌}
use Rattle.svf_words.specs.declared.fault.Code.{Code}
use Rattle.svf_words.specs.declared.fault.Code.TheVariants as code

-- the number of a refusal
abbrev pub number : Code → ℕ
number (code.BadByte place) = 1
number (code.Unclosed place) = 2
number code.UnknownCommand = 3
number code.BadForm = 4
number code.BadNumber = 5
number code.TooWide = 6
number code.MissingTdi = 7
number code.BadState = 8
number code.BadPath = 9
number code.TrstHeld = 10
number code.TrstAbsent = 11
number code.EmptyScan = 12
number code.Unsupported = 13
number code.TooSlow = 14
number code.TooLarge = 15
number code.NoMemory = 16

-- of two refusals the one with the lower number
abbrev pub lower_code : Code → Code → Code
lower_code c d = if nat_le (number c) (number d) then c else d
