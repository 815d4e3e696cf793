-- The cycles of a step (Serial Vector Format, revision E).
use Rattle.std.specs.Prelude.{true, false, List, [], ◌∷◌, ◌++◌, map, replicate, is_some, if◌then◌else◌}
use Rattle.jt_tap.specs.declared.State.{State}
use Rattle.jt_tap.specs.Controller.{is_at}
use Rattle.jt_tap.specs.Paths.{go, to_shift, from_exit1}
use Rattle.svf_programs.specs.TrstWord.TheVariants as word
use Rattle.scan_vectors.specs.Vector.{VectorBit}
use Rattle.svf_programs.specs.Steps.{Step, Scan, Go, Path, Run, Trst}
use Rattle.bitbang_protocol.specs.declared.Cycle.{Cycle}
pub use Rattle.bitbang_protocol.specs.Cycles.{entering, five_resets}

-- one cycle a bit, TMS 1 on the last
abbrev pub scan_cycles : List VectorBit → List Cycle
scan_cycles [] = []
scan_cycles (v ∷ []) = record { tms = true; tdi = v.tdi; read = is_some v.wanted } ∷ []
scan_cycles (v ∷ w ∷ vs) = record { tms = false; tdi = v.tdi; read = is_some v.wanted } ∷ scan_cycles (w ∷ vs)

abbrev pub go_unless_there : State → State → List State
go_unless_there from to = if is_at from to then [] else go from to

-- The cycles of a step from a resting place.
abbrev pub cycles : State → Step → List Cycle
cycles place (Scan column v end) =
    map entering (to_shift place column) ++ scan_cycles v ++ map entering (from_exit1 column end)
cycles place (Go s) = map entering (go place s)
cycles place (Path path) = map entering path
cycles place (Run run n end) =
    map entering (go_unless_there place run) ++ replicate n (entering run) ++ map entering (go_unless_there run end)
cycles place (Trst word.On) = five_resets
cycles place (Trst w) = []
