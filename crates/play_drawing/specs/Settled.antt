-- Cycles that change nothing but TCK: those of a rest, from the second on.
use Rattle.std.specs.Prelude.{◌≡◌, ℕ, suc, ◌-◌, ◌/◌, Bool, true, false, ◌&&◌, min, List, [], ◌++◌, map, Option, Some}
use Rattle.std.specs.Prelude.{is_none, if◌then◌else◌}
use Rattle.std.specs.List.{list_all}
use Rattle.bitbang_protocol.specs.declared.Cycle.{Cycle}
use Rattle.board_model.specs.Chain.{fall}
use Rattle.play_drawing.specs.declared.marks.Marks.{Marks}
use Rattle.play_drawing.specs.Drawing.{drawn_rests, later, tck_drawn}
use Rattle.wave_files.specs.Changes.{stamp}
use Rattle.play_drawing.specs.Holding.{stays}
use Rattle.play_drawing.specs.Pens.{Pen}
use Rattle.wave_files.specs.Values.{byte_change, unknown, wire}

-- Such a cycle was drawn last: no edge of the next one moves a controller, and a falling one does nothing any more.
pub record IsSettled (c : Cycle) (p : Pen) : Type 0 where
  pub tck : p.board.tck ≡ true
  pub stay : list_all (stays p.board.trst c.tms) p.board.chips ≡ true
  pub fell : map fall p.board.chips ≡ p.board.chips
  pub tms : p.marks.tms ≡ Some c.tms
  pub tdi : p.marks.tdi ≡ Some c.tdi

-- one message of a rest more, which lasts so long
abbrev pub ticked : (tck : Bool) → (lasts : ℕ) → Marks → Marks
ticked tck lasts marks =
    let rested = min (suc marks.rested) (suc drawn_rests) in
    record marks { tck = tck_drawn rested tck; time = later marks.time lasts; rested = rested }

-- TCK as it is drawn before and after: within a stretch nothing is written
abbrev pub tick : (time : ℕ) → (was is : Option Bool) → List ℕ
tick time was is =
    if is_none was && is_none is then [] else stamp time ++ byte_change 0 (wire unknown was) (wire unknown is)

-- the two halves of a cycle
abbrev pub ticked_low : (period : ℕ) → Marks → Marks
ticked_low period marks = ticked false (period - period / 2) marks

abbrev pub ticked_high : (period : ℕ) → Marks → Marks
ticked_high period marks = ticked true (period / 2) (ticked_low period marks)

abbrev pub ticks : (before low high : Marks) → List ℕ
ticks before low high = tick before.time before.tck low.tck ++ tick low.time low.tck high.tck
