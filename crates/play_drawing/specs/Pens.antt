-- What was drawn last.
use Rattle.std.specs.Prelude.{None, Some}
use Rattle.board_model.specs.Chain.{BoardState}
use Rattle.wave_files.specs.declared.extras.Extras.{Extras}
use Rattle.wave_files.specs.Extras.{no_extras}
use Rattle.play_drawing.specs.declared.marks.Marks.{Marks}

-- what is drawn of the lines, what of devices and pins besides, and the board
pub record Pen : Type 0 where
  pub marks : Marks
  pub extras : Extras
  pub board : BoardState

-- as a wave begins: TMS and TDI were not written yet
abbrev pub begun : Extras → BoardState → Pen
begun x b = record {
  marks = record { tck = Some b.tck; tms = None; tdi = None; time = 0; rested = 0 };
  extras = x;
  board = b;
}

-- one that draws nothing besides
abbrev pub plain : Marks → BoardState → Pen
plain marks b = record { marks = marks; extras = no_extras; board = b }
