-- What a chain is made of.
use Rattle.std.specs.Prelude.{◌≢◌}
use Rattle.std.specs.List.{AllByRecursion, AllPairs}
use Rattle.board_loops.specs.Loops.{HasNoLoop}
use Rattle.pin_nets.specs.declared.Pin.{Pin}
use Rattle.board_plan.specs.Planned.{all_pins}
use Rattle.board_plan.specs.Planned as planned
use Rattle.board_loops.specs.Strings.{HasStrings}
use Rattle.board_loops.specs.Depending.{dependencies}
use Rattle.board_model.specs.Following.{FollowsNoOtherControl}
use Rattle.board_model.specs.Planned.{members_of}
use Rattle.board_chips.specs.Building.{IsReady as HasReadyChips}

pub record IsReady (w : planned.Wiring) : Type 0 where
  -- the cores are whole, the pins are port bits, the descriptions are formed
  pub chips : HasReadyChips w
  -- no pin stands twice
  pub apart : AllPairs (λ (p q : Pin). p ≢ q) (all_pins w.nets)
  -- the strings fit their devices, none is for the control of another cell, and none is on a loop
  pub strings : AllByRecursion HasStrings w.members
  pub controls : AllByRecursion (λ m. FollowsNoOtherControl m) (members_of w)
  pub no_loop : HasNoLoop (dependencies w)
