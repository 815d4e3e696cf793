-- What holds of every wave.
use Rattle.std.specs.Prelude.{◌≡◌, ◌⊎◌, Bool, true, false, ℕ, zero, suc, ◌+◌, ◌-◌, ◌*◌, ◌/◌, ◌≤◌, List, [], ◌∷◌}
use Rattle.std.specs.Prelude.{◌++◌, codes, length, map, slice_get, Some, None}
use Rattle.std.specs.List.{AllByRecursion}
use Rattle.jt_tap.specs.declared.State.{State}
use Rattle.bitbang_protocol.specs.declared.Cycle.{Cycle}
use Rattle.bitbang_protocol.specs.declared.Message.{Message}
use Rattle.bitbang_protocol.specs.declared.Message.TheVariants.{Ask}
use Rattle.bitbang_protocol.specs.Cycles.{closed_messages}
use Rattle.bitbang.specs.StepMessages.{line_message, step_messages}
use Rattle.scan_vectors.specs.declared.part.Part.{Part}
use Rattle.scan_vectors.specs.Failures.{differing}
use Rattle.scan_vectors.specs.Vector.{VectorBit, judge}
use Rattle.svf_programs.specs.Steps.{Program, Step}
use Rattle.tck_cycles.specs.Cycles.{cycles}
use Rattle.pin_nets.specs.declared.Drive.{Drive}
use Rattle.pin_nets.specs.declared.Drive.TheVariants.{Weak}
use Rattle.pin_nets.specs.declared.Pin.{Pin}
use Rattle.pin_nets.specs.declared.Rule.TheVariants.{Counted}
use Rattle.pin_nets.specs.Levels.{pull_drive}
use Rattle.pin_nets.specs.Wired.{Net}
use Rattle.board_description.specs.Words.{port_of}
use Rattle.board_model.specs.Chain.{BoardState, ChipState, hear, members, reply_of, tdi_before}
use Rattle.board_model.specs.Following.{IsAmong}
use Rattle.board_model.specs.Nets.{level, pin_drive}
use Rattle.board_model.specs.declared.Reply.TheVariants.{Answer}
use Rattle.play_model.specs.declared.ending.Ending.TheVariants.{Pass}
use Rattle.play_model.specs.declared.kind.Kind.{Kind}
use Rattle.play_model.specs.declared.kind.Kind.TheVariants.{Stops, PlaysOn}
use Rattle.play_model.specs.Play.{play}
use Rattle.output_words.specs.Digits.{digit}
use Rattle.wave_files.specs.declared.extras.Extras.{Extras}
use Rattle.wave_files.specs.Drives.{drive_byte, driving, weak_byte}
use Rattle.wave_files.specs.Heading.{fronted, pin_name}
use Rattle.wave_files.specs.Values.{level_byte, undriven, unknown, wire}
use Rattle.play_drawing.specs.declared.notes.Note.{Note}
use Rattle.play_drawing.specs.Drawing.{after_drawing, after_mark, lasts, later, latest, shown}
use Rattle.play_drawing.specs.Judging.{tdo_of, wanted_behind}
use Rattle.play_drawing.specs.Notes.{judged}
use Rattle.play_drawing.specs.Pens.{Pen}
use Rattle.play_drawing.specs.Waves.{wave_file}

-- ---- what is drawn is what is played

-- Behind any messages what is drawn is the board that took them.
abbrev pub WhatIsDrawnIsTheBoard : Type 0
WhatIsDrawnIsTheBoard = (period : ℕ) (ms : List Message) (p : Pen)
    → (after_drawing period ms p).board ≡ (hear ms p.board).board

-- What is drawn of TDO is the byte that answers `R`; undriven it is drawn as `z`, and `R` is answered `1`.
abbrev pub TdoDrawnIsTheAnswer : Type 0
TdoDrawnIsTheAnswer = (p : Pen)
    → (reply_of Ask p.board ≡ Answer (shown p).tdo)
    ⊎ (((shown p).tdo ≡ undriven) × (reply_of Ask p.board ≡ Answer (digit true)))

-- What is drawn of a device's TDO is what the next device nearer TDO takes as TDI; undriven it is drawn as `z`, and
-- taken as 1.
abbrev pub EachTdoIsHandedOn : Type 0
EachTdoIsHandedOn = (tdi : Bool) (c : ChipState) (cs : List ChipState)
    → (wire undriven c.tdo ≡ digit (tdi_before tdi (c ∷ cs)))
    ⊎ ((wire undriven c.tdo ≡ undriven) × (tdi_before tdi (c ∷ cs) ≡ true))

-- ---- what pins drive

-- Each drive has a letter of its own.
abbrev pub EachDriveHasItsLetter : Type 0
EachDriveHasItsLetter = (d e : Drive) → drive_byte d ≡ drive_byte e → d ≡ e

-- a pin of a net is drawn by this letter
abbrev pub IsDrawn : ℕ → List Net → List ChipState → Net → Type 0
IsDrawn letter nets cs net =
    (pin : Pin) × IsAmong pin net.pins × (drive_byte (pin_drive (driving nets cs) pin) ≡ letter)

-- a pin of a net is drawn as weak at this level, or the net is pulled to it
abbrev pub IsPulled : Bool → List Net → List ChipState → Net → Type 0
IsPulled b nets cs net = IsDrawn (weak_byte b) nets cs net ⊎ (pull_drive net.pull ≡ Weak b)

-- On a net that is drawn as contended, whose drivers are counted, it is drawn who fights: a pin at 0 and a pin at 1; or
-- else weak drivers of both.
abbrev pub WhoFightsIsDrawn : Type 0
WhoFightsIsDrawn = (nets : List Net) (cs : List ChipState) (net : Net) → net.rule ≡ Counted
    → level_byte (level nets (members cs) net) ≡ unknown
    → (IsDrawn (digit false) nets cs net × IsDrawn (digit true) nets cs net)
    ⊎ (IsPulled false nets cs net × IsPulled true nets cs net)

-- ---- names of pins

-- No letter of it is the one by which names are parted: so are all that board files and descriptions give.
abbrev pub IsOneName : List ℕ → Type 0
IsOneName name = AllByRecursion (λ c. c ∷ [] ≡ codes "-" → ⊥) name

-- Pins that are drawn by the same name have nets of the same name, devices of the same name, and ports that are spelt
-- alike.
abbrev pub PinsAreToldApart : Type 0
PinsAreToldApart = (cs : List ChipState) (net other : List ℕ) (p q : Pin) (c d : ChipState)
    → slice_get cs p.device ≡ Some c → slice_get cs q.device ≡ Some d
    → IsOneName net → IsOneName other → IsOneName c.member.name → IsOneName d.member.name
    → fronted net ++ pin_name cs p ≡ fronted other ++ pin_name cs q
    → (net ≡ other)
    × ((c.member.name ≡ d.member.name) × (port_of c.member.device p.port ≡ port_of d.member.device q.port))

-- ---- time

-- how long messages last, one after another
abbrev pub time_of : (period : ℕ) → List Message → ℕ
time_of period [] = 0
time_of period (m ∷ ms) = lasts period m + time_of period ms

-- Time goes on by that, up to the last time that is told.
abbrev pub TimeGoesOn : Type 0
TimeGoesOn = (period : ℕ) (ms : List Message) (p : Pen) → p.marks.time ≤ latest
    → (after_drawing period ms p).marks.time ≡ later p.marks.time (time_of period ms)

-- A period for each message of TRST and for each cycle, and behind cycles the low level that closes them.
abbrev pub step_time : (period lines cycles : ℕ) → ℕ
step_time period lines zero = period * lines
step_time period lines (suc n) = period * lines + (period * suc n + (period - period / 2))

abbrev pub EachStepTakesItsCycles : Type 0
EachStepTakesItsCycles = (period : ℕ) (place : State) (step : Step)
    → time_of period (step_messages place step)
    ≡ step_time period (length (line_message step)) (length (cycles place step))

-- ---- the bits that fail

-- the part and the place of a bit that is told to fail, if one is
abbrev pub failing_of : Note → List (Part × ℕ)
failing_of note = elim note.failing [ Some f ↦ f ∷ [] | None ↦ [] ]

-- those that are told over the messages of a turn, one after another
abbrev pub told_failing : Kind → (period : ℕ) → List Message → List VectorBit → Pen → List (Part × ℕ)
told_failing kind period [] vs p = []
told_failing kind period (Ask ∷ m ∷ ms) (v ∷ vs) p =
    let next = judged v (tdo_of p) in
    failing_of next ++ told_failing kind period ms (wanted_behind kind next.failing vs) (after_mark period m p)
told_failing kind period (m ∷ ms) vs p = told_failing kind period ms vs (after_mark period m p)

-- the bit by which a player that stops judges these answers, if one differs
abbrev pub first_failing : List VectorBit → List Bool → List (Part × ℕ)
first_failing vs answers = elim (judge vs answers) [ Some f ↦ f ∷ [] | None ↦ [] ]

-- and all by which one that plays on does
abbrev pub all_failing : List VectorBit → List Bool → List (Part × ℕ)
all_failing vs answers = map (λ f. (f.part, f.bit)) (differing 0 vs answers)

-- What is told to fail of a turn is what its verdict says: of what the board answers to these cycles.
pub record WhatFailsIsTold : Type 0 where
  pub stops : (period : ℕ) (cs : List Cycle) (vs : List VectorBit) (p : Pen)
      → told_failing Stops period (closed_messages cs) vs p
      ≡ first_failing vs (hear (closed_messages cs) p.board).answers
  pub plays_on : (period : ℕ) (cs : List Cycle) (vs : List VectorBit) (p : Pen)
      → told_failing PlaysOn period (closed_messages cs) vs p
      ≡ all_failing vs (hear (closed_messages cs) p.board).answers

-- ---- a play that passes

-- Its file, without what is told of the bits that are wanted, is that of a play that goes on behind failures.
abbrev pub APassIsDrawnToItsEnd : Type 0
APassIsDrawnToItsEnd = (x : Extras) (period_of : ℕ → ℕ) (program : Program) (b : BoardState)
    → (play program b).ending ≡ Pass
    → wave_file false x period_of Stops program b ≡ wave_file false x period_of PlaysOn program b
