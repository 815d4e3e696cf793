-- What a program makes of the faults of a board: a board with a fault is a board, so each of its ways is caught where
-- the play on the board with it, from power-up, finds a bit that fails.
use Rattle.std.specs.Prelude.{⊤, ◌≡◌, List, [], ◌∷◌, Option, Some, None, option_map}
use Rattle.std.specs.List.{AllByRecursion}
use Rattle.svf_programs.specs.Steps.{Program}
use Rattle.board_loops.specs.Depending.{dependencies}
use Rattle.board_loops.specs.Loops.{HasNoLoop}
use Rattle.board_plan.specs.Planned.{Member, Wiring}
use Rattle.board_model.specs.Following.{IsAmong}
use Rattle.play_direct.specs.Made.{board_of}
use Rattle.play_model.specs.declared.ending.Ending.{Ending}
use Rattle.play_model.specs.Play.{play}
use Rattle.board_faults.specs.declared.judging.Judged.{Judged}
use Rattle.board_faults.specs.declared.judging.JudgedWay.{JudgedWay}
use Rattle.board_faults.specs.declared.judging.Verdict.{Verdict}
use Rattle.board_faults.specs.declared.judging.Verdict.TheVariants.{Invisible, Played}
use Rattle.board_faults.specs.declared.kinds.Fault.{Fault}
use Rattle.board_faults.specs.declared.kinds.Way.{Way}
use Rattle.board_faults.specs.Faults.{faults, ways, with_way}
use Rattle.board_faults.specs.Sight.{IsInvisible}

-- the board where a fault shows in a way
abbrev pub wiring_with : Way → Wiring → Wiring
wiring_with way w = record w { nets = with_way way w.nets }

-- it has a meaning: no net depends on itself by strings
abbrev pub HasMeaning : Wiring → Way → Type 0
HasMeaning w way = HasNoLoop (dependencies (wiring_with way w))

-- how the program's play on it ends, from power-up
abbrev pub ending_with : Program → Wiring → Way → Ending
ending_with program w way = (play program (board_of (wiring_with way w))).ending

-- What is told of a way: that it is invisible, or how the play ends.
abbrev pub Judges : Program → Wiring → Way → Verdict → Type 0
Judges program w way Invisible = IsInvisible w way
Judges program w way (Played ending) = (IsInvisible w way → ⊥) × (ending ≡ ending_with program w way)

-- of ways that all have a meaning, one after another
abbrev pub JudgesEach : Program → Wiring → List Way → List JudgedWay → Type 0
JudgesEach program w [] [] = ⊤
JudgesEach program w (way ∷ ways) (j ∷ js) =
    (j.way ≡ way) × HasMeaning w way × Judges program w way j.verdict × JudgesEach program w ways js
JudgesEach program w _ _ = ⊥

-- Of a fault: what is told of its ways, in their order; nothing where the board has no meaning in one of them.
abbrev pub JudgesFault : Program → Wiring → Fault → Option (List JudgedWay) → Type 0
JudgesFault program w fault (Some js) = JudgesEach program w (ways fault) js
JudgesFault program w fault None = (way : Way) × IsAmong way (ways fault) × (HasMeaning w way → ⊥)

-- the same, as it is answered
abbrev pub JudgesWayWith : Program → Wiring → Way → Option Verdict → Type 0
JudgesWayWith program w way (Some v) = HasMeaning w way × Judges program w way v
JudgesWayWith program w way None = HasMeaning w way → ⊥

abbrev pub ways_of : Judged → Option (List JudgedWay)
ways_of j = option_map (λ ws. ws.items) j.ways

-- of faults, one after another
abbrev pub JudgesAll : Program → Wiring → List Fault → List Judged → Type 0
JudgesAll program w [] [] = ⊤
JudgesAll program w (fault ∷ faults) (j ∷ js) =
    (j.fault ≡ fault) × JudgesFault program w fault (ways_of j) × JudgesAll program w faults js
JudgesAll program w _ _ = ⊥

-- of all faults of a board
abbrev pub JudgesBoard : Program → Wiring → List Judged → Type 0
JudgesBoard program w js = JudgesAll program w (faults w.nets) js

-- ---- the law: a board without strings has a meaning with every fault

abbrev pub HasNoStrings : Wiring → Type 0
HasNoStrings w = AllByRecursion (λ (m : Member). m.follows ≡ []) w.members

abbrev pub EveryFaultHasAMeaningWithoutStrings : Type 0
EveryFaultHasAMeaningWithoutStrings = (w : Wiring) → HasNoStrings w → (way : Way) → HasMeaning w way
