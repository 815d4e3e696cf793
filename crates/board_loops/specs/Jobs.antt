-- What is to be done for strings.
use Rattle.std.specs.Prelude.{◌≡◌, ℕ, List, Some, slice_get, slice_index}
use Rattle.board_loops.specs.declared.net_loops.Dependency.{Dependency}
use Rattle.board_loops.specs.declared.net_loops.order.Job.{Job}

abbrev pub place_of : Job → ℕ
place_of job = job.place

-- the job is that of a string, with the number of its target's net
pub record IsJobOf (strings : List Dependency) (numbers : List ℕ) (job : Job) : Type 0 where
  pub string : Dependency
  pub stands : slice_get strings job.place ≡ Some string
  pub number : job.number ≡ slice_index numbers string.target
