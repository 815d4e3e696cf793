-- The wave file of a play.
use Rattle.std.specs.Prelude.{◌≡◌, ℕ, ◌==◌, Bool, true, false, nat_le, List, [], ◌∷◌, ◌++◌, Option, Some, None}
use Rattle.std.specs.Prelude.{if◌then◌else◌}
use Rattle.jt_tap.specs.declared.State.{State}
use Rattle.jt_tap.specs.declared.Column.{Column}
use Rattle.scan_vectors.specs.Vector.{VectorBit}
use Rattle.svf_programs.specs.Steps.{Numbered, Program, Scan, Step}
use Rattle.bitbang.specs.StepMessages.{step_messages}
use Rattle.board_model.specs.Chain.{BoardState}
use Rattle.play_model.specs.declared.ending.Ending.{Ending}
use Rattle.play_model.specs.declared.ending.Ending.TheVariants.{Fail}
use Rattle.play_model.specs.declared.kind.Kind.{Kind}
use Rattle.play_model.specs.declared.kind.Kind.TheVariants.{Stops, PlaysOn}
use Rattle.play_model.specs.Play.{Turn, play, turns, wants_of}
use Rattle.output_words.specs.Digits.{digit}
use Rattle.wave_files.specs.declared.extras.Extras.{Extras}
use Rattle.wave_files.specs.Changes.{stamp}
use Rattle.wave_files.specs.Codes.{binary}
use Rattle.wave_files.specs.Heading.{first_values, variables}
use Rattle.wave_files.specs.Values.{bits_line, byte_line, first_of_notes, statement_variable}
use Rattle.play_drawing.specs.declared.marks.Marks.{Marks}
use Rattle.play_drawing.specs.Drawing.{after_drawing, draw, shown}
use Rattle.play_drawing.specs.Judging.{draw_judging}
use Rattle.play_drawing.specs.Notes.{no_note}
use Rattle.play_drawing.specs.Pens.{Pen, begun}

-- TCK, where it was drawn as unknown
abbrev pub last_tck : (drawn : Option Bool) → Bool → List ℕ
last_tck (Some b) tck = []
last_tck None tck = byte_line 0 (digit tck)

-- The end of a file: the time at which the play ends, and TCK, where it was drawn as unknown.
abbrev pub closing_of : Marks → (tck : Bool) → List ℕ
closing_of marks tck = stamp marks.time ++ last_tck marks.tck tck

abbrev pub closing : Pen → List ℕ
closing p = closing_of p.marks p.board.tck

-- whether a turn is one of the play, which may fail in a statement and stop
abbrev pub is_played : (failed : Option ℕ) → (command : ℕ) → Bool
is_played None command = true
is_played (Some failed) command = nat_le command failed

-- The number of a statement, where it begins; the opening is none.
abbrev pub begins_at : (command time : ℕ) → List ℕ
begins_at command time =
    if command == 0 then [] else stamp time ++ bits_line statement_variable (binary command)

abbrev pub begins : (command : ℕ) → Pen → List ℕ
begins command p = begins_at command p.marks.time

-- What the messages of a turn change, and where the kind of player is given what is told of the bits that it wants.
abbrev pub turn_text : (noted : Option Kind) → (period : ℕ) → Turn → Pen → List ℕ
turn_text None period t p = draw period t.messages p
turn_text (Some kind) period t p =
    draw_judging kind (first_of_notes p.board.chips p.board.nets) period t.messages t.wants no_note p

-- the turn of a step
abbrev pub turn_at : State → Numbered → Turn
turn_at place s = record {
  command = s.number;
  messages = step_messages place s.what;
  wants = wants_of s.what;
}

-- a step that scans a vector
abbrev pub IsScanOf : Step → List VectorBit → Type 0
IsScanOf step v = (column : Column) × (end : State) × (step ≡ Scan column v end)

-- a turn: its number, and that
abbrev pub draw_turn : (noted : Option Kind) → (period : ℕ) → Turn → Pen → List ℕ
draw_turn noted period t p = begins t.command p ++ turn_text noted period t p

-- The turns of a play, up to and with that of the statement that fails.
abbrev pub wave : (noted : Option Kind) → (period_of : ℕ → ℕ) → (failed : Option ℕ) → List Turn → Pen → List ℕ
wave noted period_of failed [] p = closing p
wave noted period_of failed (t ∷ ts) p =
    if is_played failed t.command then
    draw_turn noted (period_of t.command) t p
    ++ wave noted period_of failed ts (after_drawing (period_of t.command) t.messages p)
    else closing p

abbrev pub failed_in : Ending → Option ℕ
failed_in (Fail command part bit) = Some command
failed_in _ = None

-- the statement in which a play stops, if it does
abbrev pub stopped_in : Kind → Program → BoardState → Option ℕ
stopped_in Stops program b = failed_in (play program b).ending
stopped_in PlaysOn program b = None

-- what each variable shows before the first message
abbrev pub starts : (noted : Bool) → Pen → List ℕ
starts noted p = first_values noted p.extras (shown p) p.board.chips p.board.nets

-- what stands before the first message
abbrev pub heading : (noted : Bool) → Pen → List ℕ
heading noted p = variables noted p.extras p.board.chips p.board.nets ++ starts noted p

-- the kind of a player where it is told of the bits that it wants
abbrev pub noting : (noted : Bool) → Kind → Option Kind
noting true kind = Some kind
noting false kind = None

-- The file of a program's play on a board, where this is the period in force at the statement of each number; where
-- `noted` is set it tells of the bits that are wanted, and of devices and pins what the extras say.
abbrev pub wave_file : (noted : Bool) → Extras → (period_of : ℕ → ℕ) → Kind → Program → BoardState → List ℕ
wave_file noted x period_of kind program b =
    heading noted (begun x b)
    ++ wave (noting noted kind) period_of (stopped_in kind program b) (turns program.steps) (begun x b)
