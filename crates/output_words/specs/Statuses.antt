-- The exit statuses of the program.
use Rattle.std.specs.Prelude.{ℕ}
use Rattle.output_words.specs.declared.status.Status.{Status}
use Rattle.output_words.specs.declared.status.Status.TheVariants.{Pass, Fail, Refused, Lost, NoMemory}

abbrev pub number : Status → ℕ
number Pass = 0
number Fail = 1
number Refused = 2
number Lost = 3
number NoMemory = 4
