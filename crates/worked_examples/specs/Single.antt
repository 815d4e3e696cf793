-- One chip by edges, and the rows of schedules.
use Rattle.std.proofs.Common.{◌≡◌, Bool, true, false, ℕ, zero, suc, List, [], ◌∷◌, ◌++◌, map, codes}
use Rattle.std.specs.Prelude.{Option, Some, None, bytes_eq}
use Rattle.jt_tap.specs.declared.State.TheVariants.{Reset, Idle, DrShift, IrPause, IrUpdate}
use Rattle.bitbang_protocol.specs.declared.Message.{Message}
use Rattle.bitbang_protocol.specs.declared.Message.TheVariants.{Write}
use Rattle.board_model.specs.Bare.{bare}
use Rattle.board_model.specs.Cells.{untold}
use Rattle.board_model.specs.Chain.{ChipState, BoardState, rise, fall, assert_trst, hear, reply, after_byte}
use Rattle.board_model.specs.declared.Reply.TheVariants.{Refused}
use Rattle.board_model.specs.Resting.{chip_at_rest, board_at_rest}
use Rattle.scan_vectors.specs.declared.part.Part.TheVariants.{Data}
use Rattle.play_model.specs.declared.ending.Ending.TheVariants.{Pass, Fail, Lost, BadAnswer}
use Rattle.svf_programs.specs.Steps.{Numbered}
use Rattle.play_model.specs.Play.{turns, full_play, player, ending_for}
use Rattle.play_model.specs.Events.{World, Known, Put, Serve, Take, Lose, by_answers, before_events, run, moving}
use Rattle.play_model.specs.Events.{ending_of_world}
use Rattle.play_model.specs.Fair.{one_each}
use Rattle.worked_examples.specs.PlaySamples.{bits, sample_device, with_trst, plain, with_core, tdo, sir}
use Rattle.worked_examples.specs.Agree.{meant, flat_board}

abbrev pub up : Bool → ChipState → ChipState
up tms c = rise false tms true untold c

-- a fall after each rise
abbrev pub cycled : List Bool → ChipState → ChipState
cycled [] c = c
cycled (tms ∷ more) c = cycled more (fall (up tms c))

abbrev pub shifting : ChipState
shifting = up false (cycled (false ∷ true ∷ false ∷ []) (chip_at_rest Reset (with_core sample_device 0)))

abbrev pub tdos : ℕ → ChipState → List (Option Bool)
tdos zero c = c.tdo ∷ []
tdos (suc n) c = c.tdo ∷ tdos n (fall (up false c))

abbrev pub reset_now : ChipState
reset_now = assert_trst
    (fall (up false (cycled (false ∷ true ∷ false ∷ []) (chip_at_rest Reset (with_core with_trst 0)))))

abbrev pub paused : ChipState
paused = cycled (false ∷ true ∷ true ∷ false ∷ true ∷ false ∷ []) (chip_at_rest Reset (with_core sample_device 0))

-- a scan of the instruction register under schedules
abbrev pub ir_scan : List Numbered
ir_scan = sir 1 (tdo 2 3 1) ∷ []

abbrev pub start : World Known
start = before_events (board_at_rest (plain (sample_device ∷ [])))

-- from power-up into a scan of the data registers that breaks off, TCK high: one bit was shifted in
abbrev pub broken_off : BoardState
broken_off =
    (hear (into_shift ++ Write true false true ∷ [])
    (board_at_rest (plain (with_trst ∷ sample_device ∷ [])))).board
  where
    into_shift : List Message
    into_shift = Write true false false ∷ Write false false false ∷ Write true true false ∷ Write false true false
        ∷ Write true false false ∷ Write false false false ∷ Write true false false ∷ Write false false true ∷ []

pub record EdgeRows : Type 0 where
  pub in_shift : shifting.state ≡ DrShift
  pub tdo_before : shifting.tdo ≡ None
  pub tdo_then : (fall shifting).tdo ≡ Some true
  pub identification : tdos 31 (fall shifting) ≡ map (λ b. Some b) (bits 32 0x01234567)
  pub trst_state : reset_now.state ≡ Reset
  pub trst_tdo : reset_now.tdo ≡ None
  pub trst_holds : (rise true false true untold reset_now).state ≡ Reset
  pub trst_released : (rise false false true untold reset_now).state ≡ Idle
  pub at_pause : paused.state ≡ IrPause
  pub latch_before : (up true (cycled (true ∷ []) paused)).member.registers.latch ≡ bits 2 2
  pub latch_after : (cycled (true ∷ true ∷ []) paused).member.registers.latch ≡ bits 2 1
  pub state_after : (cycled (true ∷ true ∷ []) paused).state ≡ IrUpdate
  pub third_rise : (up true (cycled (true ∷ true ∷ true ∷ true ∷ []) paused)).state ≡ Reset
  pub third_rise_latch : (up true (cycled (true ∷ true ∷ true ∷ true ∷ []) paused)).member.registers.latch ≡ bits 2 1
  pub third_fall_latch : (cycled (true ∷ true ∷ true ∷ true ∷ true ∷ []) paused).member.registers.latch ≡ bits 2 2
  -- a byte off the table
  pub refused : reply 0x5a (board_at_rest (plain (bare ∷ []))) ≡ Refused 0x5a
  pub refused_board : after_byte 0x5a (board_at_rest (plain (bare ∷ [])))
      ≡ board_at_rest (plain (bare ∷ []))
  pub byte_by_byte : ending_of_world 1 (turns ir_scan)
      (run (by_answers (player 1 (turns ir_scan))) 1 1 (one_each 34) start)
      ≡ Some Pass
  pub byte_by_byte_wide : ending_of_world 1 (turns ir_scan)
      (run (by_answers (player 256 (turns ir_scan))) 1 1 (one_each 34) start) ≡ Some Pass
  pub byte_by_byte_not_yet : ending_of_world 1 (turns ir_scan)
      (run (by_answers (player 256 (turns ir_scan))) 1 1 (one_each 33) start) ≡ None
  pub byte_by_byte_board : bytes_eq
      (flat_board (run (by_answers (player 256 (turns ir_scan))) 1 1 (one_each 34) start).board)
      (flat_board (board_at_rest (meant (plain (sample_device ∷ [])) ir_scan).after)) ≡ true
  pub lost_after_an_answer : ending_of_world 1 (turns ir_scan)
      (run (by_answers (player 1 (turns ir_scan))) 1 1 (one_each 26 ++ Lose ∷ []) start) ≡ Some (Lost 1)
  pub lost_before_quit : ending_of_world 0 (turns [])
      (run (by_answers (player 256 (turns []))) 64 64 (Put 12 ∷ Serve 12 ∷ Put 1 ∷ Lose ∷ []) start) ≡ Some (Lost 1)
  pub lost_at_once : ending_of_world 1 (turns ir_scan)
      (run (by_answers (player 256 (turns ir_scan))) 1 1 (Lose ∷ Put 5 ∷ []) start) ≡ Some (Lost 0)
  pub lost_last : ending_of_world 1 (turns ir_scan)
      (run (by_answers (player 256 (turns ir_scan))) 64 64 (Put 64 ∷ Serve 64 ∷ Take 1 ∷ Take 1 ∷ Lose ∷ []) start)
      ≡ Some (Lost 2)
  -- 34 bytes each way and 2 answers
  pub byte_by_byte_moves : moving (by_answers (player 1 (turns ir_scan))) 1 1 (one_each 34) start ≡ 70
  pub lost_first_moves : moving (by_answers (player 256 (turns ir_scan))) 64 64 (Lose ∷ Put 5 ∷ []) start ≡ 0
  pub two_events_move : moving (by_answers (player 256 (turns ir_scan))) 64 64 (Put 64 ∷ Serve 3 ∷ []) start ≡ 2
  pub serve_three : (run (by_answers (player 256 (turns ir_scan))) 64 64 (Put 64 ∷ Serve 3 ∷ []) start).board.tck
      ≡ true
  pub answers_ok : ending_for (turns ir_scan) (codes "10") ≡ Some Pass
  pub answers_zero : ending_for (turns ir_scan) (codes "00") ≡ Some (Fail 1 Data 0)
  pub answers_one : ending_for (turns ir_scan) (codes "11") ≡ Some (Fail 1 Data 1)
  pub answers_bad : ending_for (turns ir_scan) (codes "1x") ≡ Some (BadAnswer 1 0x78)
  pub answers_owed : ending_for (turns ir_scan) (codes "1") ≡ None
  pub is_mid_scan : map (λ c. c.state) broken_off.chips ≡ DrShift ∷ DrShift ∷ []
  pub scan_from_mid_scan : (full_play (turns (sir 1 (tdo 4 15 5) ∷ [])) broken_off).ending ≡ Pass
