use Rattle.std.proofs.Common.{◌≡◌, ◌<◌, ℕ, Some, slice_get}
use Rattle.bsdl_device.specs.Device.{Access}
use Rattle.chip_instructions.specs.Fitting.{AccessFits}
use Rattle.chip_instructions.proofs.formed.accesses_fit.Given as goal

abbrev pub invariant-loop-access : goal.invariant-loop-access
invariant-loop-access l = (k : ℕ) (a : Access) → k < l.access-index → slice_get l.device.accesses k ≡ Some a → AccessFits l.device a
