-- One program of every kind of step, and one device with every kind of register: the premises of the laws can be met.
-- And three plays where one of them fails: the laws need it.
use Rattle.std.specs.Prelude.{◌≡◌, true, false, List, [], ◌∷◌, map, replicate, Some, None, codes}
use Rattle.std.specs.List.{AllByRecursion}
use Rattle.jt_tap.specs.declared.Column.TheVariants.{Dr, Ir}
use Rattle.jt_tap.specs.declared.State.{State}
use Rattle.jt_tap.specs.declared.State.TheVariants.{Reset, Idle, DrShift, DrExit1, DrPause, DrExit2, DrUpdate, IrPause}
use Rattle.board_model.specs.Bare.{bare, bare_name}
use Rattle.board_model.specs.Cells.{Member, powered}
use Rattle.board_model.specs.Chain.{BoardState}
use Rattle.bsdl_device.specs.declared.Place.TheVariants.{AtUser}
use Rattle.bsdl_device.specs.Device.{Device}
use Rattle.board_model.specs.Resting.{power_up, board_at_rest}
use Rattle.bitbang.specs.Steps.{Step, Scan, Go, Path, Run, Trst, Numbered}
use Rattle.svf_words.specs.declared.keywords.TrstWord.TheVariants.{On, Off, Z, Absent}
use Rattle.scan_vectors.specs.Vector.{VectorBit}
use Rattle.board_model.specs.Whole.{AtRest, after_opening}
use Rattle.scan_vectors.specs.declared.part.Part.TheVariants.{Data}
use Rattle.play_model.specs.declared.ending.Ending.TheVariants.{Fail, Pass}
use Rattle.play_model.specs.Play.{full_play, turns}
use Rattle.play_model.specs.Meaning.{outcome}
use Rattle.bitbang.specs.Legal.{IsLegalProgram}
use Rattle.board_model.specs.Sound.{IsPoweredUp}

-- the bare device with a TRST port, a code and a user register of three bits
abbrev pub rich : Device
rich = record bare {
  opcodes =
      record { name = codes "BYPASS"; patterns = (Some true ∷ Some true ∷ []) ∷ [] }
      ∷ record { name = codes "EXTEST"; patterns = (Some false ∷ Some false ∷ []) ∷ [] }
      ∷ record { name = codes "IDCODE"; patterns = (Some false ∷ Some true ∷ []) ∷ [] }
      ∷ record { name = codes "OWN"; patterns = (Some true ∷ Some false ∷ []) ∷ [] }
      ∷ [];
  idcode = Some (true ∷ replicate 31 false);
  accesses = record { instruction = codes "OWN"; place = AtUser 0; captures = None } ∷ [];
  users = 3 ∷ [];
  has_trst = true;
}

-- a rich device and a bare one
abbrev pub mixed : List Member
mixed = powered (bare_name 1) rich (false ∷ []) [] false ∷ powered (bare_name 2) bare (false ∷ []) [] false ∷ []

-- one bit of a scan: 0 in, and 0 wanted
abbrev pub zero_bit : VectorBit
zero_bit = record { tdi = false; wanted = Some false; part = Data; place = 0 }

abbrev pub step : Step → Numbered
step what = record { number = 1; what = what }

-- TRST is asserted and released, both columns are scanned, a stated path shifts on from a pause, and the rest moves.
abbrev pub every_step : List Numbered
every_step = map step (
    Trst On ∷ Run Reset 3 Reset ∷ Path (Reset ∷ Reset ∷ []) ∷ Go Reset ∷ Trst Off
    ∷ Scan Ir (zero_bit ∷ zero_bit ∷ []) IrPause ∷ Scan Dr (zero_bit ∷ []) DrPause
    ∷ Path (DrExit2 ∷ DrShift ∷ DrExit1 ∷ DrUpdate ∷ Idle ∷ []) ∷ Run Idle 2 DrPause
    ∷ Trst Z ∷ Trst Absent ∷ Go Reset ∷ [])

pub record PremisesCanBeMet : Type 0 where
  pub program : IsLegalProgram every_step
  pub devices : AllByRecursion (λ d. IsPoweredUp d) mixed

-- the board of these members, and the state at rest to which an opening brings it
abbrev pub board_without_nets : List Member → BoardState
board_without_nets ms = board_at_rest (power_up [] ms)

abbrev pub opened_of : List Member → AtRest
opened_of ms = after_opening (power_up [] ms)

-- Without a device, or with a capture of no bit, a scan reads 1, where whole registers of no bit give back the 0 that
-- went in. And under TRST the held device stays in RESET, where a move to IDLE means IDLE.
abbrev pub lone_scan : List Numbered
lone_scan = step (Scan Ir (zero_bit ∷ []) Idle) ∷ []

abbrev pub empty_capture : List Member
empty_capture = powered (bare_name 1) (record bare { capture = [] }) (false ∷ []) [] false ∷ []

abbrev pub move_under_trst : List Numbered
move_under_trst = step (Trst On) ∷ step (Go Idle) ∷ []

abbrev pub states : BoardState → List State
states b = map (λ c. c.state) b.chips

pub record PremisesAreNeeded : Type 0 where
  pub no_device_by_edges : (full_play (turns lone_scan) (board_without_nets [])).ending ≡ Fail 1 Data 0
  pub no_device_by_registers : (outcome lone_scan (opened_of [])).ending ≡ Pass
  pub empty_by_edges : (full_play (turns lone_scan) (board_without_nets empty_capture)).ending ≡ Fail 1 Data 0
  pub empty_by_registers : (outcome lone_scan (opened_of empty_capture)).ending ≡ Pass
  pub held_by_edges : states (full_play (turns move_under_trst) (board_without_nets mixed)).board ≡ Reset ∷ Idle ∷ []
  pub held_by_registers : (outcome move_under_trst (opened_of mixed)).after.place ≡ Idle
