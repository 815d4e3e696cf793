-- Each row computes.
use Rattle.std.proofs.Common.{refl}
use Rattle.worked_examples.specs.Plays.{PlayRows}

pub playrows : PlayRows
playrows = record {
  empty_text = (refl, refl, refl, refl);
  ir_scan = (refl, refl, refl, refl);
  ir_scan_answers = refl;
  identification_twice = (refl, refl, refl, refl);
  bypass_chain = (refl, refl, refl, refl);
  header_fails_first = (refl, refl, refl, refl);
  mask_not_kept_past_a_length = (refl, refl, refl, refl);
  bypass_delays_a_bit = (refl, refl, refl, refl);
  pause_holds_the_update = (refl, refl, refl, refl);
  pause_level = refl;
  left_pause_updates = (refl, refl, refl, refl);
  left_pause_level = refl;
  ir_pause_captures = (refl, refl, refl, refl);
  ir_pause_latch = refl;
  ir_pause_instruction = refl;
  stated_path_shifts_zeros = (refl, refl, refl, refl);
  trst_resets_without_settling = (refl, refl, refl, refl);
  trst_keeps_update_stages = refl;
  trst_resets_latches = refl;
  runtest_cycles = (refl, refl, refl, refl);
  contention = (refl, refl, refl, refl);
  contention_level = refl;
  pulled_up = (refl, refl, refl, refl);
  pulled_up_level = refl;
  floating = (refl, refl, refl, refl);
  floating_level = refl;
  pins_on = refl;
  pins_off = refl;
  pins_plain = refl;
  highz = (refl, refl, refl, refl);
  highz_level = refl;
  intest = refl;
  two_ks = (refl, refl, refl, refl);
  user = (refl, refl, refl, refl);
  user_latch = refl;
  user_fixed = (refl, refl, refl, refl);
  bare_ir = (refl, refl, refl, refl);
  bare_latch = refl;
  bare_name = refl;
  bare_dr = (refl, refl, refl, refl);
  run_test = (refl, refl, refl, refl);
  window_one = refl;
  window_one_next = refl;
  window_one_end = refl;
  window_wide = refl;
  window_full = refl;
}
