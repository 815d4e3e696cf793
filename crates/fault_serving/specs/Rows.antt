-- What a bridge tells, worked out: of a net N with a pull up, and a net M.
use Rattle.std.specs.Prelude.{◌≡◌, Bool, true, false, not, ℕ, [], Some, None}
use Rattle.scan_vectors.specs.declared.part.Part.TheVariants.{Data}
use Rattle.pin_nets.specs.declared.Pull.TheVariants.{Free}
use Rattle.board_plan.specs.Planned.{Wiring}
use Rattle.board_faults.specs.declared.kinds.Way.{Way}
use Rattle.board_faults.specs.declared.kinds.Way.TheVariants as way
use Rattle.board_faults.specs.declared.kinds.Winner.TheVariants.{Zeros}
use Rattle.board_faults.specs.Rows.{nets}
use Rattle.fault_events.specs.declared.differing.Pulls.{Pulls}
use Rattle.fault_events.specs.declared.notes.Note.{Note}
use Rattle.fault_serving.specs.Planes.{tells}

abbrev pub board : Wiring
board = record { members = []; nets = nets }

-- a net that is driven to a bit, and is wanted at this place of the data
abbrev pub driving : Bool → (place : ℕ) → Note
driving bit place = record {
  made = record { zero = not bit; one = bit; weak = false };
  first = Some (record { index = place; part = Data; bit = place });
  stays = false;
}

abbrev pub unpulled : Pulls
unpulled = record { first = Free; second = Free }

abbrev pub wired_and : Way
wired_and = way.Short 0 1 Zeros

pub record ServingRows : Type 0 where
  -- a wired and turns the 1 of its first net, where that is wanted or stays
  pub tells_something : tells wired_and unpulled (driving true 3) (driving false 5) ≡ true
  pub tells_nothing : tells wired_and unpulled (record (driving true 3) { first = None }) (driving false 5) ≡ false
  pub tells_by_what_stays :
      tells wired_and unpulled (record (driving true 3) { first = None; stays = true }) (driving false 5) ≡ true
  -- both nets show the same already
  pub tells_nothing_new : tells wired_and unpulled (driving true 3) (driving true 5) ≡ false
