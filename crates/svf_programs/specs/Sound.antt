-- Which programs are sound: what a player is promised of each that is accepted.
use Rattle.std.specs.Prelude.{⊤}
use Rattle.std.specs.Prelude.{ℕ, ◌≤◌, List, length}
use Rattle.std.specs.List.{AllByRecursion}
use Rattle.jt_limits.specs.declared.Limits.{Limits}
use Rattle.jt_limits.specs.Limits.{limits}
use Rattle.svf_programs.specs.Steps.{Step, Scan, Go, Path, Run, Trst, Numbered}
use Rattle.svf_programs.specs.Legal.{IsLegalProgram}

-- bits of a whole vector
abbrev pub vector_limit : ℕ
vector_limit = limits.vector_bits

-- cycles of a run
abbrev pub cycle_limit : ℕ
cycle_limit = limits.cycles

-- steps of a program: a statement makes one at most, and is named by 32 bits
abbrev pub step_limit : ℕ
step_limit = 4294967295

-- a step is within limits
abbrev pub StepWithin : Limits → Step → Type 0
StepWithin l (Scan column v end) = length v ≤ l.vector_bits
StepWithin l (Go s) = ⊤
StepWithin l (Path path) = ⊤
StepWithin l (Run run n end) = n ≤ l.cycles
StepWithin l (Trst w) = ⊤

abbrev pub StepsWithin : Limits → List Numbered → Type 0
StepsWithin l steps = AllByRecursion (λ s. StepWithin l s.what) steps

-- within those that stand
abbrev pub IsWithin : Step → Type 0
IsWithin s = StepWithin limits s

abbrev pub AllWithin : List Numbered → Type 0
AllWithin steps = StepsWithin limits steps

-- legal from RESET with TRST released, and within the limits
pub record IsSound (steps : List Numbered) : Type 0 where
  pub legal : IsLegalProgram steps
  pub within : AllWithin steps

-- sound, and so few steps that all their wanted bits are fewer than 2^64
pub record IsKept (steps : List Numbered) : Type 0 where
  pub sound : IsSound steps
  pub few : length steps ≤ step_limit
