-- What every schedule of two bounded pipes comes to.
use Rattle.std.specs.Prelude.{◌≡◌, true, false, ℕ, List, Some, take}
use Rattle.svf_programs.specs.Legal.{IsLegalProgram}
use Rattle.svf_programs.specs.Steps.{Program}
use Rattle.board_model.specs.Chain.{BoardState}
use Rattle.board_model.specs.Sound.{HasDevice, IsSoundBoard}
use Rattle.play_model.specs.declared.ending.Ending.{Ending}
use Rattle.play_model.specs.DirectPlay.{MeansFromOpening}
use Rattle.play_model.specs.Events.{Event, World, empty_pipes, run}
use Rattle.play_model.specs.Play.{play, turns}
use Rattle.play_model.specs.declared.kind.Kind.{Kind}
use Rattle.play_model.specs.declared.kind.Kind.TheVariants.{Stops, PlaysOn}
use Rattle.play_model.specs.PlayingOn.{Mismatch, ending_of, failures}
use Rattle.play_model.specs.Streams.{StreamState, found_of, new_stream}
use Rattle.play_model.specs.AllFailures.{MeansAllFromOpening}
use Rattle.play_model.specs.ScheduleLaws.{full}
use Rattle.play_pipes.specs.Standing.{ended_of}
use Rattle.play_pipes.specs.Joining.{JoinedState, side}

-- the world that events lead to, from a fresh player of this kind and a board with empty pipes
abbrev pub joined_after_of : Kind → Program → BoardState → (down_room up_room : ℕ) → List Event → World StreamState
joined_after_of kind program b down_room up_room es =
    run side down_room up_room es (empty_pipes (new_stream kind program) b)

-- the same of a player that stops
abbrev pub joined_after : Program → BoardState → (down_room up_room : ℕ) → List Event → World StreamState
joined_after program b down_room up_room es = joined_after_of Stops program b down_room up_room es

-- Once the board took `Q` the play was not lost; what differed and the board are those of the full play of this kind.
-- Its ending is that of the full play that stops, whichever the kind.
pub record EndsAsTheFullPlay (kind : Kind) (program : Program) (b : BoardState) (w : World StreamState) : Type 0 where
  pub unlost : w.lost ≡ false
  pub found : w.player.found ≡ found_of kind (failures (turns program.steps) (full kind program.steps b).answers)
  pub ending : ended_of w ≡ Some (play program b).ending
  pub board : w.board ≡ (full kind program.steps b).board

abbrev pub WhatIsJoinedEndsAsTheFullPlay : Type 0
WhatIsJoinedEndsAsTheFullPlay = (kind : Kind) (program : Program) (b : BoardState) (down_room up_room : ℕ)
    (es : List Event) → (joined_after_of kind program b down_room up_room es).quit ≡ true
    → EndsAsTheFullPlay kind program b (joined_after_of kind program b down_room up_room es)

-- For every legal program, every sound board that has a device, every room of the two pipes and every order of events:
-- a play that ends unlost has the verdict of the program's meaning over whole registers from the state after the
-- opening, and leaves the board at rest where this meaning does.
abbrev pub WhatIsJoinedMeansTheProgram : Type 0
WhatIsJoinedMeansTheProgram = (program : Program) (b : BoardState) (down_room up_room : ℕ) (es : List Event)
    → (ending : Ending) → IsLegalProgram program.steps → IsSoundBoard b → HasDevice b
    → let w = joined_after program b down_room up_room es in
    w.lost ≡ false → ended_of w ≡ Some ending → MeansFromOpening program b ending w.board

-- What more events make of a joined play: if the play came from this program and this board, and ends unlost, it means
-- the program.
abbrev pub MeansAfter : JoinedState → World StreamState → Type 0
MeansAfter before after = (program : Program) (start : BoardState) (es : List Event)
    → before.world ≡ joined_after program start before.down_room before.up_room es
    → IsLegalProgram program.steps → IsSoundBoard start → HasDevice start
    → (ending : Ending) → after.lost ≡ false → ended_of after ≡ Some ending
    → MeansFromOpening program start ending after.board

-- A play to the end found exactly the failures of the program's meaning over whole registers from the state after the
-- opening: it lists the first of them and counts all. It ends by the first of all, and leaves the board at rest where
-- the meaning of the whole program does.
pub record MeansAll (program : Program) (b : BoardState) (ending : Ending) (w : World StreamState) : Type 0 where
  pub all : List Mismatch
  pub means : MeansAllFromOpening program.steps b all w.board
  pub found : w.player.found ≡ found_of PlaysOn all
  pub ends : ending ≡ ending_of all

-- For every legal program, every sound board that has a device, every room of the two pipes and every order of events:
-- so is every play to the end that ends unlost.
abbrev pub WhatPlaysOnMeansTheWholeProgram : Type 0
WhatPlaysOnMeansTheWholeProgram = (program : Program) (b : BoardState) (down_room up_room : ℕ) (es : List Event)
    → (ending : Ending) → IsLegalProgram program.steps → IsSoundBoard b → HasDevice b
    → let w = joined_after_of PlaysOn program b down_room up_room es in
    w.lost ≡ false → ended_of w ≡ Some ending → MeansAll program b ending w

-- The same of what more events make of a joined play, as `MeansAfter`.
abbrev pub MeansAllAfter : JoinedState → World StreamState → Type 0
MeansAllAfter before after = (program : Program) (start : BoardState) (es : List Event)
    → before.world ≡ joined_after_of PlaysOn program start before.down_room before.up_room es
    → IsLegalProgram program.steps → IsSoundBoard start → HasDevice start
    → (ending : Ending) → after.lost ≡ false → ended_of after ≡ Some ending
    → MeansAll program start ending after

-- For every program and board: what a play to the end finds first is what one that stops finds, and both end alike,
-- each with its own rooms of the pipes and order of events.
abbrev pub WhatIsFoundFirstIsWhatStops : Type 0
WhatIsFoundFirstIsWhatStops = (program : Program) (b : BoardState) (down_room up_room other_down other_up : ℕ)
    (es others : List Event) → let stopped = joined_after program b down_room up_room es in
    let played_on = joined_after_of PlaysOn program b other_down other_up others in
    stopped.quit ≡ true → played_on.quit ≡ true
    → (take 1 played_on.player.found.list ≡ stopped.player.found.list) × (ended_of played_on ≡ ended_of stopped)
