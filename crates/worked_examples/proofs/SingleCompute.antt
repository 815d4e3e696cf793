-- Each row computes.
use Rattle.std.proofs.Common.{refl}
use Rattle.worked_examples.specs.Single.{EdgeRows}

pub edgerows : EdgeRows
edgerows = record {
  in_shift = refl;
  tdo_before = refl;
  tdo_then = refl;
  identification = refl;
  trst_state = refl;
  trst_tdo = refl;
  trst_holds = refl;
  trst_released = refl;
  at_pause = refl;
  latch_before = refl;
  latch_after = refl;
  state_after = refl;
  third_rise = refl;
  third_rise_latch = refl;
  third_fall_latch = refl;
  refused = refl;
  refused_board = refl;
  byte_by_byte = refl;
  byte_by_byte_wide = refl;
  byte_by_byte_not_yet = refl;
  byte_by_byte_board = refl;
  lost_after_an_answer = refl;
  lost_before_quit = refl;
  lost_at_once = refl;
  lost_last = refl;
  byte_by_byte_moves = refl;
  lost_first_moves = refl;
  two_events_move = refl;
  serve_three = refl;
  answers_ok = refl;
  answers_zero = refl;
  answers_one = refl;
  answers_bad = refl;
  answers_owed = refl;
  is_mid_scan = refl;
  scan_from_mid_scan = refl;
}
