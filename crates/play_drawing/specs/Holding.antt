-- Devices that a cycle of TCK leaves as they are, once they fell in it.
use Rattle.std.specs.Prelude.{Bool, ◌&&◌, ◌||◌, nat_lt}
use Rattle.std.specs.List.{list_all}
use Rattle.jt_tap.specs.Controller.{is_at, is_stable, next}
use Rattle.bitbang_protocol.specs.declared.Cycle.{Cycle}
use Rattle.board_model.specs.Chain.{ChipState, is_held}
use Rattle.play_drawing.specs.Drawing.{drawn_rests, is_drawn_so}
use Rattle.play_drawing.specs.Pens.{Pen}

-- the controller stays in a stable state on a rising edge with this TMS, or is held there
abbrev pub stays : (trst tms : Bool) → ChipState → Bool
stays trst tms c = is_stable c.state && (is_held trst c.member || is_at (next c.state tms) c.state)

-- A cycle that comes again, in a stretch, to devices that stay.
abbrev pub is_held_by : Cycle → Pen → Bool
is_held_by c p =
    nat_lt drawn_rests p.marks.rested
    && (is_drawn_so p.marks.tms c.tms
    && (is_drawn_so p.marks.tdi c.tdi
    && (p.board.tck && list_all (stays p.board.trst c.tms) p.board.chips)))
