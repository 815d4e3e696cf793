use Rattle.std.proofs.Common.{◌≡◌, ◌++◌, drop, map}
use Rattle.board_plan.specs.View.{member as planned_member}
use Rattle.board_faults.proofs.faulty.copy_devices.Given as goal

-- the devices so far, with those to come, are all
abbrev pub invariant-loop-device : goal.invariant-loop-device
invariant-loop-device l = map planned_member l.copies.items ++ map planned_member (drop l.device-index l.devices) ≡ map planned_member l.devices
