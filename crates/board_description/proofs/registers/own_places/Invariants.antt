use Rattle.std.proofs.Common.{◌≡◌, ◌++◌, drop, map}
use Rattle.bsdl_device.specs.Device.{Access}
use Rattle.board_tables.specs.WordView.{texts_of}
use Rattle.board_description.proofs.registers.own_places.Given as goal

-- the names so far, with those to come, are all
abbrev pub invariant-loop-access : goal.invariant-loop-access
invariant-loop-access l = texts_of l.own ++ map (λ (a : Access). a.instruction) (drop l.access-index l.access-items) ≡ map (λ (a : Access). a.instruction) l.access-items
