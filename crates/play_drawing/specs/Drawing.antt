-- The wave of messages: what the lines of the TAP, the devices and the named nets show, message by message, as a value
-- change dump (IEEE Std 1364-2001, clause 18). Time goes by the period of TCK in force, half of it a level.
use Rattle.std.specs.Prelude.{ℕ, suc, ◌+◌, ◌-◌, ◌/◌, Bool, true, false, ◌&&◌, not, nat_le, min, List, [], ◌∷◌}
use Rattle.std.specs.Prelude.{◌++◌, replicate, Option, Some, None, is_none, if◌then◌else◌}
use Rattle.std.specs.List.{list_all}
use Rattle.jt_tap.specs.Controller.{is_stable}
use Rattle.bitbang_protocol.specs.declared.Message.{Message}
use Rattle.bitbang_protocol.specs.declared.Message.TheVariants.{Write, Lines}
use Rattle.bitbang_protocol.specs.declared.Cycle.{Cycle}
use Rattle.board_model.specs.Chain.{ChipState, after_message}
use Rattle.wave_files.specs.declared.shown.Shown.{Shown}
use Rattle.wave_files.specs.Changes.{board_changes, line_changes, stamp}
use Rattle.wave_files.specs.Extras.{all_extra_changes}
use Rattle.wave_files.specs.Values.{shown_of}
use Rattle.play_drawing.specs.declared.marks.Marks.{Marks}
use Rattle.play_drawing.specs.Pens.{Pen}

-- what the lines of the TAP show
abbrev pub shown : Pen → Shown
shown p = shown_of p.marks.tck p.marks.tms p.marks.tdi p.board.trst p.board.chips

-- ---- time

-- the last time that is told: readers keep it in 63 bits
abbrev pub latest : ℕ
latest = 9223372036854775806

abbrev pub later : (time more : ℕ) → ℕ
later time more = min (time + more) latest

-- How long a message lasts: TCK low takes the first half of a period, TCK high the second; the reset lines a whole one.
abbrev pub lasts : (period : ℕ) → Message → ℕ
lasts period (Write false tms tdi) = period - period / 2
lasts period (Write true tms tdi) = period / 2
lasts period (Lines trst srst) = period
lasts period _ = 0

-- ---- rests

-- every device stands in TEST-LOGIC-RESET, RUN-TEST/IDLE or a pause
abbrev pub is_resting : List ChipState → Bool
is_resting cs = list_all (λ c. is_stable c.state) cs

-- a line is written as it was drawn
abbrev pub is_drawn_so : Option Bool → Bool → Bool
is_drawn_so (Some true) level = level
is_drawn_so (Some false) level = not level
is_drawn_so None level = false

-- So many messages of a rest are drawn.
abbrev pub drawn_rests : ℕ
drawn_rests = 128

-- How many messages in a row only moved TCK on a board that rests, counted to one more than are drawn.
abbrev pub rests_behind : Message → Marks → List ChipState → ℕ
rests_behind (Write tck tms tdi) marks cs =
    if is_drawn_so marks.tms tms && (is_drawn_so marks.tdi tdi && is_resting cs)
    then min (suc marks.rested) (suc drawn_rests) else 0
rests_behind _ marks cs = 0

-- TCK is unknown where a long rest is drawn as one stretch.
abbrev pub tck_drawn : (rested : ℕ) → Bool → Option Bool
tck_drawn rested tck = if nat_le rested drawn_rests then Some tck else None

-- ---- one message

abbrev pub tms_behind : Message → Option Bool → Option Bool
tms_behind (Write tck tms tdi) was = Some tms
tms_behind _ was = was

abbrev pub tdi_behind : Message → Option Bool → Option Bool
tdi_behind (Write tck tms tdi) was = Some tdi
tdi_behind _ was = was

-- the lines as they are drawn behind a message that left TCK and the devices so, at the time of before
abbrev pub marks_behind : Message → Marks → (tck : Bool) → List ChipState → Marks
marks_behind m marks tck cs =
    let rested = rests_behind m marks cs in
    record {
      tck = tck_drawn rested tck;
      tms = tms_behind m marks.tms;
      tdi = tdi_behind m marks.tdi;
      time = marks.time;
      rested = rested;
    }

abbrev pub taken : Message → Pen → Pen
taken m p =
    let b = after_message m p.board in
    record p { marks = marks_behind m p.marks b.tck b.chips; board = b }

-- Within a stretch nothing is written.
abbrev pub between : Pen → Pen → List ℕ
between p q =
    if is_none p.marks.tck && is_none q.marks.tck then []
    else stamp p.marks.time
    ++ (line_changes (shown p) (shown q)
    ++ (board_changes p.board.nets p.board.chips q.board.chips
    ++ all_extra_changes p.extras p.board.nets p.board.chips q.board.chips))

-- a question for TDO, the end and the lights are no line, and take no time
abbrev pub is_drawn : Message → Bool
is_drawn (Write tck tms tdi) = true
is_drawn (Lines trst srst) = true
is_drawn _ = false

abbrev pub mark : Message → Pen → List ℕ
mark m p = if is_drawn m then between p (taken m p) else []

abbrev pub lasting : (more : ℕ) → Pen → Pen
lasting more p = record p { marks = record p.marks { time = later p.marks.time more } }

abbrev pub after_mark : (period : ℕ) → Message → Pen → Pen
after_mark period m p = if is_drawn m then lasting (lasts period m) (taken m p) else p

-- ---- messages, one after another

-- the messages of the line TRST, and those that close a step
abbrev pub trst_message : Bool → List Message
trst_message trst = Lines trst false ∷ []

abbrev pub closing_messages : List Message
closing_messages = Write false false false ∷ []

abbrev pub opening_cycles : List Cycle
opening_cycles = replicate 5 (record { tms = true; tdi = false; read = false })

abbrev pub draw : (period : ℕ) → List Message → Pen → List ℕ
draw period [] p = []
draw period (m ∷ ms) p = mark m p ++ draw period ms (after_mark period m p)

abbrev pub after_drawing : (period : ℕ) → List Message → Pen → Pen
after_drawing period [] p = p
after_drawing period (m ∷ ms) p = after_drawing period ms (after_mark period m p)
