-- The captures of the data column in a program's run, and what they tell of a board with other nets: by the first of
-- them at which a wanted bit is another, as long as none that stays is another before it.
use Rattle.std.specs.Prelude.{◌≡◌, Bool, ◌&&◌, ℕ, List, [], ◌∷◌, ◌++◌, length, drop, Option, Some, None}
use Rattle.std.specs.Prelude.{if◌then◌else◌, is_some}
use Rattle.std.specs.List.{list_any}
use Rattle.jt_tap.specs.declared.Column.{Column}
use Rattle.jt_tap.specs.declared.Column.TheVariants.{Dr, Ir}
use Rattle.jt_tap.specs.declared.State.{State}
use Rattle.jt_tap.specs.declared.State.TheVariants.{DrPause}
use Rattle.jt_tap.specs.declared.Work.{Work}
use Rattle.jt_tap.specs.declared.Work.TheVariants.{Captures}
use Rattle.jt_tap.specs.Controller.{is_at, pause, work}
use Rattle.scan_vectors.specs.declared.part.Part.{Part}
use Rattle.scan_vectors.specs.Vector.{VectorBit, tdis}
use Rattle.svf_programs.specs.Legal.{IsLegalProgram}
use Rattle.svf_programs.specs.Steps.{Numbered, Program, Step, Scan, Go, Path, Run, Trst}
use Rattle.pin_nets.specs.Wired.{Net}
use Rattle.board_plan.specs.Planned.{Wiring}
use Rattle.board_model.specs.Nets.{strings}
use Rattle.board_model.specs.Planned.{members_of}
use Rattle.board_model.specs.Whole.{AtRest, capture, pass, settle, shift, update}
use Rattle.play_model.specs.declared.ending.Ending.{Ending}
use Rattle.play_model.specs.declared.ending.Ending.TheVariants.{Pass, Fail}
use Rattle.play_model.specs.DirectPlay.{opened_state}
use Rattle.play_model.specs.Meaning.{after_step, move_unless_there, outcome}
use Rattle.play_model.specs.Play.{play}
use Rattle.board_faults.specs.declared.kinds.Way.{Way}
use Rattle.board_faults.specs.Faults.{with_way}
use Rattle.board_faults.specs.Judging.{ending_with}
use Rattle.board_faults.specs.Made.{IsSoundWiring, board_of}
use Rattle.board_faults.specs.Staying.{with_nets}
use Rattle.board_faults.specs.Together.{unlike}
use Rattle.fault_events.specs.Sources.{Source, sources, taken}

-- ---- the captures of a run

-- A capture of the data column: the statement's number, the board before it, and the vector that is shifted behind it,
-- none in a pause or along a stated path.
pub record Event : Type 0 where
  pub command : ℕ
  pub board : AtRest
  pub vector : List VectorBit

-- on arriving at a state
abbrev pub events_arriving : (command : ℕ) → State → AtRest → List Event
events_arriving command DrPause m = record { command = command; board = m; vector = [] } ∷ []
events_arriving command _ m = []

-- on the way to a state where the board is not yet
abbrev pub events_moving : (command : ℕ) → State → AtRest → List Event
events_moving command s m = if is_at m.place s then [] else events_arriving command s (settle m)

-- along a stated path
abbrev pub events_passing : (command : ℕ) → Work → AtRest → List Event
events_passing command (Captures Dr) m = record { command = command; board = m; vector = [] } ∷ []
events_passing command _ m = []

abbrev pub events_along : (command : ℕ) → List State → AtRest → List Event
events_along command [] m = []
events_along command (s ∷ path) m =
    events_passing command (work s) m ++ events_along command path (record (pass (work s) m) { place = s })

-- of a scan
abbrev pub events_ending : (command : ℕ) → Column → State → AtRest → List Event
events_ending command column end m =
    if is_at end (pause column) then [] else events_arriving command end (update column m)

abbrev pub events_capturing : (command : ℕ) → Column → List VectorBit → AtRest → List Event
events_capturing command Dr v m = record { command = command; board = m; vector = v } ∷ []
events_capturing command Ir v m = []

abbrev pub events_scanning : (command : ℕ) → Column → List VectorBit → State → AtRest → List Event
events_scanning command column v end m =
    events_capturing command column v m
    ++ events_ending command column end (shift column (tdis v) (capture column m))

-- The captures of a step.
abbrev pub events_of_step : (command : ℕ) → Step → AtRest → List Event
events_of_step command (Scan column v end) m = events_scanning command column v end (settle m)
events_of_step command (Go s) m = events_arriving command s (settle m)
events_of_step command (Path path) m = events_along command path m
events_of_step command (Run run n end) m =
    events_moving command run m ++ events_moving command end (move_unless_there run m)
events_of_step command (Trst w) m = []

-- Those of a program, step after step.
abbrev pub events : List Numbered → AtRest → List Event
events [] m = []
events (s ∷ ss) m = events_of_step s.number s.what m ++ events ss (after_step s.what m)

-- ---- what they tell of other nets

-- a bit is another with other nets
abbrev pub reads_other : List Net → AtRest → Source → Bool
reads_other nets m s = unlike (taken m.nets m.members s) (taken nets m.members s)

-- the least bit that is wanted and that is another
abbrev pub first_other : (Source → Bool) → List VectorBit → List Source → Option (Part × ℕ)
first_other is_other (v ∷ vs) (s ∷ ss) =
    if is_some v.wanted && is_other s then Some (v.part, v.place) else first_other is_other vs ss
first_other is_other _ _ = None

abbrev pub caught_at : List Net → Event → Option (Part × ℕ)
caught_at nets e = first_other (reads_other nets e.board) e.vector (sources e.board.members)

-- a bit that the vector does not push out is another
abbrev pub stays_other : List Net → Event → Bool
stays_other nets e = list_any (reads_other nets e.board) (drop (length e.vector) (sources e.board.members))

-- How a program that passes ends with other nets, by its captures; None where they do not tell: a bit that stays is
-- another, and no wanted one of this capture or of one before it.
abbrev pub ending_by : List Event → List Net → Option Ending
ending_by [] nets = Some Pass
ending_by (e ∷ es) nets =
    let rest = if stays_other nets e then None else ending_by es nets in
    elim (caught_at nets e) [ None ↦ rest | Some f ↦ Some (Fail e.command f.0 f.1) ]

-- ---- the laws

-- of programs that pass from a state of devices without strings
abbrev pub EventsTellOfRuns : Type 0
EventsTellOfRuns = (steps : List Numbered) (m : AtRest) → strings m.members ≡ 0 → (outcome steps m).ending ≡ Pass
    → (nets : List Net) (ending : Ending) → ending_by (events steps m) nets ≡ Some ending
    → (outcome steps (with_nets nets m)).ending ≡ ending

-- of plays from power-up, where a fault shows in a way
abbrev pub EventsTellOfFaults : Type 0
EventsTellOfFaults = (program : Program) → IsLegalProgram program.steps → (w : Wiring) → IsSoundWiring w
    → strings (members_of w) ≡ 0 → (play program (board_of w)).ending ≡ Pass
    → (way : Way) (ending : Ending)
    → ending_by (events program.steps (opened_state (board_of w))) (with_way way w.nets) ≡ Some ending
    → ending_with program w way ≡ ending
