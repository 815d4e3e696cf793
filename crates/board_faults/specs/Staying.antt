-- What of a step's captures stays on the board. What a scan shifts in does not hang on what it reads; so while no
-- captured bit that stays is another, the registers of a board with other nets are those of the board itself.
use Rattle.std.specs.Prelude.{◌≡◌, ◌≤◌, Bool, List, [], ◌∷◌, ◌++◌, length, drop, if◌then◌else◌}
use Rattle.jt_tap.specs.declared.Column.{Column}
use Rattle.jt_tap.specs.declared.Column.TheVariants.{Dr, Ir}
use Rattle.jt_tap.specs.declared.State.{State}
use Rattle.jt_tap.specs.declared.State.TheVariants.{DrPause, IrPause}
use Rattle.jt_tap.specs.declared.Work.{Work}
use Rattle.jt_tap.specs.declared.Work.TheVariants.{Captures}
use Rattle.jt_tap.specs.Controller.{is_at, pause, work}
use Rattle.scan_vectors.specs.Vector.{VectorBit, tdis}
use Rattle.svf_programs.specs.Steps.{Step, Scan, Go, Path, Run, Trst}
use Rattle.pin_nets.specs.Wired.{Net}
use Rattle.board_model.specs.Whole.{AtRest, capture, joined_bits, pass, settle, shift, update}
use Rattle.play_model.specs.Meaning.{after_step, move_unless_there}

-- the state with other nets
abbrev pub with_nets : List Net → AtRest → AtRest
with_nets nets m = record m { nets = nets }

-- what the selected registers capture, joined from TDO to TDI
abbrev pub captured : Column → AtRest → List Bool
captured column m = joined_bits column (capture column m).members

-- what is captured on arriving at a place: in a pause its column
abbrev pub kept_arriving : State → AtRest → List Bool
kept_arriving DrPause m = captured Dr m
kept_arriving IrPause m = captured Ir m
kept_arriving place m = []

-- on the way to a place where the board is not yet
abbrev pub kept_moving : State → AtRest → List Bool
kept_moving s m = if is_at m.place s then [] else kept_arriving s (settle m)

-- along a stated path all that is captured, also what it shifts out later: that much is more than stays
abbrev pub kept_passing : Work → AtRest → List Bool
kept_passing (Captures column) m = captured column m
kept_passing work m = []

abbrev pub kept_along : List State → AtRest → List Bool
kept_along [] m = []
kept_along (s ∷ path) m = kept_passing (work s) m ++ kept_along path (record (pass (work s) m) { place = s })

-- of a scan what its vector does not push out, and what is captured where it ends in the other column's pause
abbrev pub kept_ending : Column → State → AtRest → List Bool
kept_ending column end m = if is_at end (pause column) then [] else kept_arriving end (update column m)

abbrev pub kept_scanning : Column → List VectorBit → State → AtRest → List Bool
kept_scanning column v end m =
    drop (length v) (captured column m) ++ kept_ending column end (shift column (tdis v) (capture column m))

-- The captured bits of a step that stay in the registers behind it.
abbrev pub staying : Step → AtRest → List Bool
staying (Scan column v end) m = kept_scanning column v end (settle m)
staying (Go s) m = kept_arriving s (settle m)
staying (Path path) m = kept_along path m
staying (Run run n end) m = kept_moving run m ++ kept_moving end (move_unless_there run m)
staying (Trst w) m = []

-- the law: where the same bits stay, all registers are the same behind the step
abbrev pub RegistersDifferByWhatStays : Type 0
RegistersDifferByWhatStays = (step : Step) (m : AtRest) (nets : List Net)
    → staying step m ≡ staying step (with_nets nets m)
    → after_step step (with_nets nets m) ≡ with_nets nets (after_step step m)

-- the law: a scan as long as the chain leaves nothing, but what is captured where it ends in the other column's pause
abbrev pub WholeScansLeaveNothing : Type 0
WholeScansLeaveNothing = (column : Column) (v : List VectorBit) (end : State) (m : AtRest)
    → length (captured column (settle m)) ≤ length v
    → staying (Scan column v end) m ≡ kept_ending column end (shift column (tdis v) (capture column (settle m)))
