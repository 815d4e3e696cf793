-- How much a program keeps.
use Rattle.std.specs.Prelude.{ℕ, ◌+◌, List, length}
use Rattle.svf_parse.specs.Judging.{Said, scan, states}
use Rattle.svf_parse.specs.Sizes.{bits_in}
use Rattle.svf_programs.specs.Steps.{Numbered, Program}
use Rattle.svf_programs.specs.declared.periods.PeriodChange.{PeriodChange}

-- A program, with the number of bits of fields and of states of paths in all the statements that it keeps, used by a
-- step or not, and its changes of period.
pub record Holding : Type 0 where
  pub statements : ℕ
  pub steps : List Numbered
  pub held : ℕ
  pub periods : List PeriodChange

abbrev pub program_of : Holding → Program
program_of p = record { statements = p.statements; steps = p.steps }

-- the bits and states of a statement
abbrev pub content : Said → ℕ
content (scan which n tdi tdo mask smask) = bits_in tdi + (bits_in tdo + (bits_in mask + bits_in smask))
content (states ss) = length ss
content s = 0
