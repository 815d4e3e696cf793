-- The steps of a program that are left.
use Rattle.std.specs.Prelude.{List, drop}
use Rattle.svf_programs.specs.declared.program.Steps as declared
use Rattle.svf_programs.specs.Steps.{Numbered}

abbrev pub left : declared.Steps → List Numbered
left s = drop s.at s.program.now.steps
