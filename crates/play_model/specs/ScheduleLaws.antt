-- The laws of every schedule: whatever the order of events, with pipes of any capacity and any window of owed answers,
-- what happens is inside the full play; a play that ends unlost is the full play; and unless it is lost, a fair driver
-- ends it.
use Rattle.std.specs.Prelude.{◌≡◌, ◌⊎◌, Bool, true, false, ℕ, ◌+◌, ◌*◌, ◌<◌, ◌≤◌, List, [], ◌∷◌, ◌++◌, map, length}
use Rattle.std.specs.Prelude.{Some}
use Rattle.std.specs.List.{AllByRecursion}
use Rattle.bitbang_protocol.specs.Protocol.{encode}
use Rattle.board_model.specs.Cells.{Member}
use Rattle.board_model.specs.Chain.{BoardState, after_bytes}
use Rattle.pin_nets.specs.Wired.{Net}
use Rattle.play_model.specs.declared.ending.Ending.{Ending}
use Rattle.play_model.specs.declared.ending.Ending.TheVariants.{Lost}
use Rattle.play_model.specs.DirectPlay.{MeansFromOpening}
use Rattle.play_model.specs.Events.{Event, Put, Serve, Take, Lose, World, Known, Side, by_answers, ending_of_world}
use Rattle.play_model.specs.Events.{before_events, bytes_moved}
use Rattle.play_model.specs.Events.{moving, run, taken_over}
use Rattle.play_model.specs.Play.{Played, full_play, player}
use Rattle.bitbang.specs.Steps.{Numbered, Program}
use Rattle.play_model.specs.LegalPlays.{powered_up_after}
use Rattle.board_model.specs.Sound.{HasDevice, IsPoweredUp, IsSoundBoard}
use Rattle.bitbang.specs.Legal.{IsLegalProgram}
use Rattle.play_model.specs.Fair.{IsFair, in_a_row, one_each}
use Rattle.play_model.specs.Fronts.{IsPrefix}
use Rattle.play_model.specs.InWork.{IsInWork, turns_made}
use Rattle.play_model.specs.declared.kind.Kind.{Kind}
use Rattle.play_model.specs.declared.kind.Kind.TheVariants.{Stops}
use Rattle.play_model.specs.PlayingOn.{turns_for}
use Rattle.play_model.specs.Sides.{answers_to_bytes}

-- what is fixed before the first event: whether the player stops after a failing step, how many answers may be owed,
-- and the room of the two pipes
pub record Connection : Type 0 where
  pub kind : Kind
  pub window : ℕ
  pub down_room : ℕ
  pub up_room : ℕ

-- a connection over which a play can come to its end
pub record IsOpen (l : Connection) : Type 0 where
  pub window : 0 < l.window
  pub down_room : 0 < l.down_room
  pub up_room : 0 < l.up_room

-- what a program's player may send for each list of answers
abbrev pub may_send : Connection → List Numbered → List Bool → List ℕ
may_send l steps = player l.window (turns_for l.kind steps)

-- the player of a program, as events see it
abbrev pub side : Connection → List Numbered → Side Known
side l steps = by_answers (may_send l steps)

-- what events do to a play of these steps
abbrev pub goes_on : Connection → List Numbered → List Event → World Known → World Known
goes_on l steps es w = run (side l steps) l.down_room l.up_room es w

-- the play of these steps on a board after these events, from empty pipes and a fresh player
abbrev pub after_events : Connection → List Numbered → BoardState → List Event → World Known
after_events l steps b es = goes_on l steps es (before_events b)

-- the bytes that the board took in it
abbrev pub taken_in : Connection → List Numbered → BoardState → List Event → List ℕ
taken_in l steps b es = taken_over (side l steps) l.down_room l.up_room es (before_events b)

abbrev pub full : Kind → List Numbered → BoardState → Played
full kind steps b = full_play (turns_for kind steps) b

abbrev pub bytes_of_full_play : Kind → List Numbered → BoardState → List ℕ
bytes_of_full_play kind steps b = map encode (full kind steps b).messages

-- The down pipe holds what was given out and not yet taken, the up pipe what was answered and not yet taken, neither
-- more than its room. What was given out the player may send for the answers that it took, and is a front part of the
-- full play's bytes; the answers, those of the board to the bytes it took, are a front part of the full play's.
pub record IsInside (l : Connection) (steps : List Numbered) (b : BoardState) (took : List ℕ)
    (w : World Known) : Type 0 where
  pub given : w.player.given ≡ length (took ++ w.down)
  pub allowed : IsPrefix (took ++ w.down) (may_send l steps w.player.got)
  pub bytes : IsPrefix (took ++ w.down) (bytes_of_full_play l.kind steps b)
  pub answered : w.player.got ++ w.up ≡ answers_to_bytes took b
  pub answers : IsPrefix (w.player.got ++ w.up) (full l.kind steps b).answers
  pub board : w.board ≡ after_bytes took b
  pub down_fits : length w.down ≤ l.down_room
  pub up_fits : length w.up ≤ l.up_room

abbrev pub EveryScheduleIsInsideTheFullPlay : Type 0
EveryScheduleIsInsideTheFullPlay = (l : Connection) (steps : List Numbered) (b : BoardState) (es : List Event)
    → IsInside l steps b (taken_in l steps b es) (after_events l steps b es)

-- Once the board took `Q`, every byte was taken and every answer too, and the board is the full play's.
pub record IsWhole (l : Connection) (steps : List Numbered) (b : BoardState) (took : List ℕ)
    (w : World Known) : Type 0 where
  pub bytes : took ≡ bytes_of_full_play l.kind steps b
  pub answers : w.player.got ≡ (full l.kind steps b).answers
  pub down : w.down ≡ []
  pub up : w.up ≡ []
  pub board : w.board ≡ (full l.kind steps b).board
  pub unlost : w.lost ≡ false
  pub ending : (statements : ℕ)
      → ending_of_world statements (turns_for l.kind steps) w ≡ Some (full l.kind steps b).ending

abbrev pub WhatEndsIsTheFullPlay : Type 0
WhatEndsIsTheFullPlay = (l : Connection) (steps : List Numbered) (b : BoardState) (es : List Event)
    → (after_events l steps b es).quit ≡ true → IsWhole l steps b (taken_in l steps b es) (after_events l steps b es)

-- No other verdict is given: an ending that is not a loss is the full play's.
abbrev pub NoOtherVerdictIsGiven : Type 0
NoOtherVerdictIsGiven = (l : Connection) (steps : List Numbered) (b : BoardState) (es : List Event) (statements : ℕ)
    (ending : Ending)
    → (after_events l steps b es).lost ≡ false
    → ending_of_world statements (turns_for l.kind steps) (after_events l steps b es) ≡ Some ending
    → ending ≡ (full l.kind steps b).ending

-- Every legal program, sound board that has a device, and schedule: an ending that is not a loss is that of the
-- program's meaning over whole registers from the state after the opening, and the board is at rest where this meaning
-- leaves it.
abbrev pub EveryScheduleMeansFromOpening : Type 0
EveryScheduleMeansFromOpening = (l : Connection) → l.kind ≡ Stops → (program : Program) (b : BoardState)
    (es : List Event) → IsSoundBoard b → HasDevice b → IsLegalProgram program.steps
    → (ending : Ending) → (after_events l program.steps b es).lost ≡ false
    → ending_of_world program.statements (turns_for l.kind program.steps) (after_events l program.steps b es)
    ≡ Some ending
    → MeansFromOpening program b ending (after_events l program.steps b es).board

-- The same of boards as they are described: as they power up, or after any bytes, in mid-scan too.
abbrev pub EveryScheduleOfEveryDescribedBoard : Type 0
EveryScheduleOfEveryDescribedBoard = (nets : List Net) (ms : List Member) (bytes : List ℕ)
    → AllByRecursion (λ d. IsPoweredUp d) ms → 0 < length ms
    → (l : Connection) → l.kind ≡ Stops → (program : Program) (es : List Event) → IsLegalProgram program.steps
    → (ending : Ending) → (after_events l program.steps (powered_up_after nets ms bytes) es).lost ≡ false
    → ending_of_world program.statements (turns_for l.kind program.steps)
    (after_events l program.steps (powered_up_after nets ms bytes) es) ≡ Some ending
    → MeansFromOpening program (powered_up_after nets ms bytes) ending
    (after_events l program.steps (powered_up_after nets ms bytes) es).board

-- how many bytes or answers an event moves in a play
abbrev pub moves_in : Connection → List Numbered → Event → World Known → ℕ
moves_in l steps e w = bytes_moved (side l steps) l.down_room l.up_room e w

-- While a play has neither ended nor been lost, one byte or answer more can move.
abbrev pub SomethingCanMove : Type 0
SomethingCanMove = (l : Connection) → IsOpen l → (steps : List Numbered) (b : BoardState) (es : List Event)
    → let w = after_events l steps b es in
    w.quit ≡ false → w.lost ≡ false
    → (0 < moves_in l steps (Put 1) w) ⊎ (0 < moves_in l steps (Serve 1) w) ⊎ (0 < moves_in l steps (Take 1) w)

-- twice the full play's bytes, and its answers
abbrev pub bound : Connection → List Numbered → BoardState → ℕ
bound l steps b = 2 * length (bytes_of_full_play l.kind steps b) + length (full l.kind steps b).answers

-- Over a whole schedule, however it goes, no more events than that move something.
abbrev pub MovingEventsAreBounded : Type 0
MovingEventsAreBounded = (l : Connection) (steps : List Numbered) (b : BoardState) (es : List Event)
    → moving (side l steps) l.down_room l.up_room es (before_events b) ≤ bound l steps b

-- So as many fair rounds, of whatever events, end a play that was not lost.
abbrev pub FairDriversEnd : Type 0
FairDriversEnd = (l : Connection) → IsOpen l
    → (steps : List Numbered) (b : BoardState) (es : List Event) (rounds : List (List Event))
    → (after_events l steps b es).lost ≡ false → AllByRecursion (λ r. IsFair r) rounds → bound l steps b ≤ length rounds
    → (goes_on l steps (in_a_row rounds) (after_events l steps b es)).quit ≡ true

-- The simplest of them, in as many turns: after any events without a loss it comes to the full play's ending.
abbrev pub OneByteEachWayEnds : Type 0
OneByteEachWayEnds = (l : Connection) → IsOpen l → (steps : List Numbered) (b : BoardState) (es : List Event)
    (statements : ℕ) → (after_events l steps b es).lost ≡ false
    → ending_of_world statements (turns_for l.kind steps)
    (goes_on l steps (one_each (bound l steps b)) (after_events l steps b es)) ≡ Some (full l.kind steps b).ending

-- A play that was lost was lost by the first Lose, which came before the board took `Q`; it stands as it stood then.
pub record IsLostAt (l : Connection) (steps : List Numbered) (b : BoardState) (es : List Event) : Type 0 where
  pub before : List Event
  pub later : List Event
  pub split : es ≡ before ++ Lose ∷ later
  pub going : (after_events l steps b before).quit ≡ false
  pub unlost : (after_events l steps b before).lost ≡ false
  pub stands : after_events l steps b es ≡ record (after_events l steps b before) { lost = true }

abbrev pub LostOnlyByALose : Type 0
LostOnlyByALose = (l : Connection) (steps : List Numbered) (b : BoardState) (es : List Event)
    → (after_events l steps b es).lost ≡ true → IsLostAt l steps b es

-- And a Lose before that loses it.
abbrev pub ALoseLoses : Type 0
ALoseLoses = (l : Connection) (steps : List Numbered) (b : BoardState) (before later : List Event)
    → (after_events l steps b before).quit ≡ false
    → (after_events l steps b (before ++ Lose ∷ later)).lost ≡ true

-- A loss names the command in work.
abbrev pub ALossNamesTheCommandInWork : Type 0
ALossNamesTheCommandInWork = (l : Connection) (steps : List Numbered) (b : BoardState) (es : List Event)
    (statements command : ℕ) → let w = after_events l steps b es in
    w.lost ≡ true → ending_of_world statements (turns_for l.kind steps) w ≡ Some (Lost command)
    → IsInWork statements (turns_made (turns_for l.kind steps) b) w.player.given (length w.player.got) command

-- Wherever a play broke off, a new one on its board means what the program means, from its own opening.
abbrev pub ANewPlayMeansFromItsOpening : Type 0
ANewPlayMeansFromItsOpening = (l : Connection) (steps : List Numbered) (b : BoardState) (es : List Event)
    → IsSoundBoard b → HasDevice b
    → (again : Connection) → again.kind ≡ Stops → (program : Program) (more : List Event) → IsLegalProgram program.steps
    → let left = (after_events l steps b es).board in
    (ending : Ending) → (after_events again program.steps left more).lost ≡ false
    → ending_of_world program.statements (turns_for again.kind program.steps)
    (after_events again program.steps left more)
    ≡ Some ending
    → MeansFromOpening program left ending (after_events again program.steps left more).board

-- Several lists of events, one after another, are one.
abbrev pub SeveralCallsAreOne : Type 0
SeveralCallsAreOne = (l : Connection) (steps : List Numbered) (w : World Known) (es more : List Event)
    → goes_on l steps (es ++ more) w ≡ goes_on l steps more (goes_on l steps es w)

-- Answers that a board gave to a player's bytes, which these very answers let it send, are the full play's.
abbrev pub HonestAnswersAreTheFullPlays : Type 0
HonestAnswersAreTheFullPlays = (l : Connection) (steps : List Numbered) (b : BoardState) (got : List Bool)
    → IsPrefix got (answers_to_bytes (may_send l steps got) b) → IsPrefix got (full l.kind steps b).answers
