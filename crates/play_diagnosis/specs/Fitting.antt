-- Which ways of which faults give just what a log says.
use Rattle.std.specs.Prelude.{⊤, ◌≡◌, ◌↔◌, Bool, List, [], ◌∷◌, IsTrue}
use Rattle.scan_vectors.specs.Failures.{Found}
use Rattle.svf_programs.specs.Steps.{Program}
use Rattle.board_plan.specs.Planned.{Wiring}
use Rattle.board_model.specs.Chain.{BoardState}
use Rattle.play_model.specs.declared.ending.Ending.TheVariants.{Pass, Fail}
use Rattle.play_model.specs.declared.kind.Kind.TheVariants as kind
use Rattle.play_model.specs.Play.{play}
use Rattle.play_model.specs.Streams.{found_of}
use Rattle.play_direct.specs.ToTheEnd.{all_failures}
use Rattle.board_faults.specs.declared.kinds.Fault.{Fault}
use Rattle.board_faults.specs.declared.kinds.Way.{Way}
use Rattle.board_faults.specs.Faults.{ways}
use Rattle.board_faults.specs.Judging.{HasMeaning, wiring_with}
use Rattle.board_faults.specs.Made.{board_of}
use Rattle.play_diagnosis.specs.declared.fitting.TriedWay.{TriedWay}
use Rattle.play_diagnosis.specs.Reading.{Verdict, Passes, Stops, PlaysOn}

-- what a program's play on a board would say: that it passes; its first bit that fails, where it stops there; or of all
-- bits that fail in a play to the end the first 256, and how many they are
abbrev pub Gives : Verdict → Program → BoardState → Type 0
Gives Passes program b = (play program b).ending ≡ Pass
Gives (Stops m) program b = (play program b).ending ≡ Fail m.command m.part m.bit
Gives (PlaysOn f) program b = found_of kind.PlaysOn (all_failures program b) ≡ f

-- A way fits where the board with it has a meaning, and the play on that board, from power-up, says just this.
pub record Fits (said : Verdict) (program : Program) (w : Wiring) (way : Way) : Type 0 where
  pub meaning : HasMeaning w way
  pub gives : Gives said program (board_of (wiring_with way w))

-- of ways, one after another, whether each fits
abbrev pub TriesEach : Verdict → Program → Wiring → List Way → List TriedWay → Type 0
TriesEach said program w [] [] = ⊤
TriesEach said program w (way ∷ ways) (t ∷ ts) =
    (t.way ≡ way) × (IsTrue t.fits ↔ Fits said program w way) × TriesEach said program w ways ts
TriesEach said program w _ _ = ⊥

-- of a fault, all its ways in their order
abbrev pub TriesFault : Verdict → Program → Wiring → Fault → List TriedWay → Type 0
TriesFault said program w fault ts = TriesEach said program w (ways fault) ts
