-- The headline: an accepted text, a board in use, and whatever order of events over two bounded pipes.
use Rattle.std.specs.Prelude.{◌≡◌, ◌⊎◌, Bool, false, ℕ, List, Some}
use Rattle.svf_programs.specs.Steps.{Program}
use Rattle.board_model.specs.Chain.{BoardState}
use Rattle.play_direct.specs.InUse.{IsInUse}
use Rattle.play_model.specs.ScheduleLaws.{full}
use Rattle.play_model.specs.declared.ending.Ending.{Ending}
use Rattle.play_model.specs.declared.ending.Ending.TheVariants.{Pass, Fail}
use Rattle.play_model.specs.declared.kind.Kind.{Kind}
use Rattle.play_model.specs.DirectPlay.{MeansFromOpening}
use Rattle.play_model.specs.declared.kind.Kind.TheVariants.{Stops, PlaysOn}
use Rattle.play_model.specs.Events.{Event, World}
use Rattle.play_model.specs.Play.{play}
use Rattle.play_model.specs.Streams.{StreamState}
use Rattle.scan_vectors.specs.declared.part.Part.{Part}
use Rattle.svf_words.specs.declared.fault.SvfFault.{SvfFault}
use Rattle.play_direct.specs.Accepting.{Accepts, Refuses}
use Rattle.jt_player.specs.Kinds.{MeansAsPlayed, ending_in}
use Rattle.jt_player.specs.Running.{IsRunOf, Run}
use Rattle.play_pipes.specs.Standing.{ended_of}
use Rattle.play_pipes.specs.Laws.{MeansAll, joined_after, joined_after_of}

-- For every accepted text, every board in use, every room of the two pipes and every order of events: a play that ends
-- unlost gives exactly the verdict, and leaves exactly the registers and pin levels, of the program's meaning over
-- whole registers from the state after the opening.
abbrev pub EveryScheduleMeansWhatTheTextMeans : Type 0
EveryScheduleMeansWhatTheTextMeans = (text : List ℕ) (program : Program) → Accepts text program
    → (start : BoardState) → IsInUse start
    → (down_room up_room : ℕ) (events : List Event) (ending : Ending)
    → let world = joined_after program start down_room up_room events in
    world.lost ≡ false → ended_of world ≡ Some ending → MeansFromOpening program start ending world.board

-- The same without pipes, each byte taken at once.
abbrev pub DirectPlayMeansWhatTheTextMeans : Type 0
DirectPlayMeansWhatTheTextMeans = (text : List ℕ) (program : Program) → Accepts text program
    → (start : BoardState) → IsInUse start
    → MeansFromOpening program start (play program start).ending (play program start).board

-- What a joined play comes to that ends unlost: of a player that stops the verdict, of one that plays on all failures,
-- and of both the board, as the program means it over whole registers from the state after the opening.
abbrev pub MeansOfKind : Kind → Program → (start : BoardState) → Ending → World StreamState → Type 0
MeansOfKind Stops program start ending world = MeansFromOpening program start ending world.board
MeansOfKind PlaysOn program start ending world = MeansAll program start ending world

-- The headline of a player of either kind, over every schedule and without pipes.
abbrev pub EveryScheduleOfEitherKind : Type 0
EveryScheduleOfEitherKind = (kind : Kind) (text : List ℕ) (program : Program) → Accepts text program
    → (start : BoardState) → IsInUse start
    → (down_room up_room : ℕ) (events : List Event) (ending : Ending)
    → let world = joined_after_of kind program start down_room up_room events in
    world.lost ≡ false → ended_of world ≡ Some ending → MeansOfKind kind program start ending world

abbrev pub DirectPlayOfEitherKind : Type 0
DirectPlayOfEitherKind = (kind : Kind) (text : List ℕ) (program : Program) → Accepts text program
    → (start : BoardState) → IsInUse start → MeansAsPlayed kind program start

-- What a play leaves after whatever events, a loss among them, is a board in use again: so a new play on it means what
-- its own text means, from its own opening.
abbrev pub WhatEventsLeaveIsInUse : Type 0
WhatEventsLeaveIsInUse = (program : Program) (start : BoardState) → IsInUse start
    → (down_room up_room : ℕ) (events : List Event)
    → IsInUse (joined_after program start down_room up_room events).board

-- The same of a player of either kind.
abbrev pub WhatEventsOfEitherKindLeaveIsInUse : Type 0
WhatEventsOfEitherKindLeaveIsInUse = (kind : Kind) (program : Program) (start : BoardState) → IsInUse start
    → (down_room up_room : ℕ) (events : List Event)
    → IsInUse (joined_after_of kind program start down_room up_room events).board

-- So is what a direct play leaves, of a player that stops at the first failing step or goes to the end; and what a run
-- leaves, a refused one too.
abbrev pub WhatDirectPlaysLeaveIsInUse : Type 0
WhatDirectPlaysLeaveIsInUse = (kind : Kind) (program : Program) (start : BoardState) → IsInUse start
    → IsInUse (full kind program.steps start).board

abbrev pub WhatRunsLeaveIsInUse : Type 0
WhatRunsLeaveIsInUse = (kind : Kind) (text : List ℕ) (bytes : Bool) (start : BoardState) → IsInUse start
    → (run : Run) → IsRunOf kind text bytes start run → IsInUse run.board

-- A direct play passes or fails: it is never lost, and no answer is bad.
abbrev pub PassesOrFails : Ending → Type 0
PassesOrFails ending =
    (ending ≡ Pass) ⊎ ((command : ℕ) × (part : Part) × (bit : ℕ) × (ending ≡ Fail command part bit))

abbrev pub DirectPlaysPassOrFail : Type 0
DirectPlaysPassOrFail =
    (kind : Kind) (program : Program) (start : BoardState) → PassesOrFails (ending_in kind program start)

-- What the exit status of a run says: 0 and 1 that its text is accepted and was played, and passed or failed; 2 that
-- the text is refused; 4 that memory ran out.
pub data EndsIn (kind : Kind) (text : List ℕ) (start : BoardState) : (status : ℕ) → Type 0 where
  passes : (program : Program) → Accepts text program → ending_in kind program start ≡ Pass
      → EndsIn kind text start 0
  fails : (program : Program) → Accepts text program → (command : ℕ) (part : Part) (bit : ℕ)
      → ending_in kind program start ≡ Fail command part bit → EndsIn kind text start 1
  is_refused : (fault : SvfFault) → Refuses text fault → EndsIn kind text start 2
  wants_memory : EndsIn kind text start 4

abbrev pub EveryRunEnds : Type 0
EveryRunEnds = (kind : Kind) (text : List ℕ) (bytes : Bool) (start : BoardState) (run : Run)
    → IsRunOf kind text bytes start run → EndsIn kind text start run.status
