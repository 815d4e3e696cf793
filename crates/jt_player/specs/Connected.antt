-- What plays over connections mean, of an accepted text and a board in use.
use Rattle.std.specs.Prelude.{◌≡◌, Bool, false, ℕ, List}
use Rattle.board_model.specs.Chain.{BoardState, after_bytes}
use Rattle.play_direct.specs.InUse.{IsInUse}
use Rattle.play_model.specs.declared.ending.Ending.{Ending}
use Rattle.play_model.specs.declared.kind.Kind.TheVariants.{Stops, PlaysOn}
use Rattle.play_model.specs.DirectPlay.{MeansFromOpening}
use Rattle.play_model.specs.Play.{turns}
use Rattle.play_model.specs.Playing.{PlayerState}
use Rattle.play_model.specs.PlayingOn.{failures}
use Rattle.play_model.specs.Streams.{Found}
use Rattle.play_model.specs.Histories.{bits_told}
use Rattle.play_pipes.specs.Honest.{AreLinked, HasFoundAll, IsHonest}
use Rattle.play_pipes.specs.Links.{EndsSo, found_by, sent_by}
use Rattle.svf_programs.specs.Steps.{Program}
use Rattle.play_direct.specs.Accepting.{Accepts}

-- An end of a player that stops, over a link that answers as the board does to what was written: the verdict of the
-- text's meaning over whole registers, and what went out leaves the board where this meaning does.
abbrev pub AnHonestEndMeansTheText : Type 0
AnHonestEndMeansTheText = (text : List ℕ) (p : PlayerState) → Accepts text p.program → (b : BoardState) → IsInUse b
    → (ending : Ending) → IsHonest Stops p b → EndsSo Stops p false ending
    → MeansFromOpening p.program b ending (after_bytes (sent_by Stops p) b)

-- And of a player that plays on: all failures of the text's meaning.
abbrev pub AnHonestEndHasFoundAllOfTheText : Type 0
AnHonestEndHasFoundAllOfTheText = (text : List ℕ) (p : PlayerState) → Accepts text p.program
    → (b : BoardState) → IsInUse b
    → (ending : Ending) → IsHonest PlaysOn p b → EndsSo PlaysOn p false ending
    → HasFoundAll p.program b (failures (turns p.program.steps) (bits_told p.got)) ending (found_by PlaysOn p)
    (after_bytes (sent_by PlaysOn p) b)

-- The same of both ends of one connection that read what the other wrote, unless the play was lost.
abbrev pub MeansTheTextWhereLinked : PlayerState → (lost : Bool) → (read : List ℕ) → Program
    → (start board : BoardState) → Ending → Type 0
MeansTheTextWhereLinked p lost read program start board ending = (text : List ℕ) → Accepts text program
    → IsInUse start → AreLinked Stops p start read → lost ≡ false → MeansFromOpening program start ending board

abbrev pub FindsAllOfTheTextWhereLinked : PlayerState → (lost : Bool) → (read : List ℕ) → Program
    → (start board : BoardState) → Ending → Found → Type 0
FindsAllOfTheTextWhereLinked p lost read program start board ending found = (text : List ℕ) → Accepts text program
    → IsInUse start → AreLinked PlaysOn p start read → lost ≡ false
    → HasFoundAll program start (failures (turns program.steps) (bits_told p.got)) ending found board
