-- Worked captures: of one device under EXTEST. Its cell 0 drives a 1 to a net, and its cells 1 and 2
-- capture what that shows.
use Rattle.std.specs.Prelude.{◌≡◌, Bool, true, false, ℕ, suc, List, [], ◌∷◌, Option, Some, None, codes}
use Rattle.jt_tap.specs.declared.Column.TheVariants.{Dr, Ir}
use Rattle.jt_tap.specs.declared.State.TheVariants.{Idle, DrPause}
use Rattle.bsdl_device.specs.Device.{Device}
use Rattle.bsdl_device.specs.declared.Function.TheVariants.{Output2, Input}
use Rattle.scan_vectors.specs.declared.failures.Mismatch.{Mismatch}
use Rattle.scan_vectors.specs.declared.part.Part.TheVariants.{Data}
use Rattle.scan_vectors.specs.Vector.{VectorBit}
use Rattle.svf_programs.specs.Steps.{Numbered, Step, Scan, Go}
use Rattle.pin_nets.specs.declared.Pin.{Pin}
use Rattle.pin_nets.specs.declared.Pull.TheVariants.{Free}
use Rattle.pin_nets.specs.declared.Rule.{Rule}
use Rattle.pin_nets.specs.declared.Rule.TheVariants.{Counted, Tied}
use Rattle.pin_nets.specs.Wired.{Net}
use Rattle.board_model.specs.Whole.{AtRest}
use Rattle.play_model.specs.declared.ending.Ending.{Ending}
use Rattle.play_model.specs.declared.ending.Ending.TheVariants.{Pass, Fail}
use Rattle.fault_events.specs.Events.{ending_by, events}
use Rattle.fault_events.specs.Firsts.{firsts_by}
use Rattle.fault_events.specs.Sources.{Fixed, Seen, sources}

-- one instruction bit: EXTEST 0, BYPASS 1
abbrev pub device : Device
device = record {
  ports = [];
  instruction_length = 1;
  opcodes = record { name = codes "EXTEST"; patterns = (Some false ∷ []) ∷ [] } ∷ [];
  capture = true ∷ [];
  idcode = None;
  usercode = None;
  cells = record { function = Output2; port = Some 0; control = None }
      ∷ record { function = Input; port = Some 1; control = None }
      ∷ record { function = Input; port = Some 2; control = None } ∷ [];
  private_names = [];
  accesses = [];
  users = [];
  has_trst = false;
}

abbrev pub pin : ℕ → Pin
pin port = record { device = 0; port = port }

abbrev pub net : Rule → List Net
net rule = record { name = codes "N"; pull = Free; rule = rule; pins = pin 0 ∷ pin 1 ∷ pin 2 ∷ [] } ∷ []

abbrev pub board : AtRest
board = record {
  place = Idle;
  trst = false;
  nets = net Counted;
  members = record {
    name = codes "U";
    device = device;
    core = false ∷ false ∷ false ∷ [];
    follows = [];
    extest_update = false;
    registers = record {
      latch = false ∷ [];
      stage = false ∷ [];
      bypass = false ∷ [];
      identification = [];
      boundary = false ∷ false ∷ false ∷ [];
      update = true ∷ false ∷ false ∷ [];
      users = [];
    };
  } ∷ [];
}

-- a vector that wants these, and leaves the 1 driven
abbrev pub wants : ℕ → List (Option Bool) → List VectorBit
wants k [] = []
wants k (w ∷ ws) = record { tdi = true; wanted = w; part = Data; place = k } ∷ wants (suc k) ws

abbrev pub numbered : ℕ → List Step → List Numbered
numbered k [] = []
numbered k (s ∷ ss) = record { number = k; what = s } ∷ numbered (suc k) ss

-- how these steps end where the net is stuck
abbrev pub stuck : Bool → List Step → Option Ending
stuck bit steps = ending_by (events (numbered 3 steps) board) (net (Tied bit))

-- what a play of these steps to the end would list first at each capture there, as far as that is told
abbrev pub stuck_firsts : Bool → List Step → List Mismatch
stuck_firsts bit steps = firsts_by (events (numbered 3 steps) board) (net (Tied bit))

abbrev pub failed : (command : ℕ) → Mismatch
failed command = record { command = command; part = Data; bit = 1 }

-- a scan of all cells, of the first two, of the first alone
abbrev pub whole : Step
whole = Scan Dr (wants 0 (None ∷ Some true ∷ Some true ∷ [])) Idle

abbrev pub most : Step
most = Scan Dr (wants 0 (None ∷ Some true ∷ [])) Idle

abbrev pub short : Step
short = Scan Dr (wants 0 (Some false ∷ [])) Idle

pub record EventRows : Type 0 where
  pub from : sources board.members ≡ Fixed false ∷ Seen (pin 1) ∷ Seen (pin 2) ∷ []
  -- the least wanted bit that is another
  pub caught : stuck false (whole ∷ []) ≡ Some (Fail 3 Data 1)
  pub same : stuck true (whole ∷ short ∷ []) ≡ Some Pass
  -- what stays of the capture that is caught, or behind it, does not matter
  pub caught_first : stuck false (most ∷ []) ≡ Some (Fail 3 Data 1)
  pub caught_before : stuck false (whole ∷ short ∷ []) ≡ Some (Fail 3 Data 1)
  -- what stays before does
  pub stays : stuck false (short ∷ whole ∷ []) ≡ None
  pub stays_in_a_pause : stuck false (Go DrPause ∷ whole ∷ []) ≡ None
  -- an instruction's capture hangs on no net
  pub instruction : stuck false (Scan Ir (wants 0 (Some true ∷ [])) Idle ∷ []) ≡ Some Pass
  -- one bit of each capture, up to one of which a bit stays
  pub firsts : stuck_firsts false (whole ∷ whole ∷ []) ≡ failed 3 ∷ failed 4 ∷ []
  pub firsts_up_to : stuck_firsts false (whole ∷ most ∷ whole ∷ []) ≡ failed 3 ∷ failed 4 ∷ []
  pub none_first : stuck_firsts true (whole ∷ whole ∷ []) ≡ []
