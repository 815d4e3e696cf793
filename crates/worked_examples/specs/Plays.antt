-- Worked rows, computed: the play by edges, the outcome by whole registers, and that they agree.
use Rattle.std.proofs.Common.{◌≡◌, Bool, true, false, ℕ, List, [], ◌∷◌, map, codes, length}
use Rattle.std.specs.Prelude.{◌++◌, Some, None}
use Rattle.jt_tap.specs.declared.State.TheVariants.{Idle, DrSelect, DrCapture, DrShift, DrExit1, DrUpdate, DrPause}
use Rattle.jt_tap.specs.declared.State.TheVariants.{IrPause, Reset}
use Rattle.bsdl_device.specs.Device.{Device}
use Rattle.pin_nets.specs.declared.Pull.{Pull}
use Rattle.board_model.specs.Bare.{bare}
use Rattle.board_model.specs.Nets.{level}
use Rattle.pin_nets.specs.declared.Level.{Level}
use Rattle.pin_nets.specs.declared.Level.TheVariants.{Zero, One, Contend, Float}
use Rattle.pin_nets.specs.declared.Pull.TheVariants.{Up, Down, Free}
use Rattle.board_model.specs.Chain.{BoardState, members}
use Rattle.chip_instructions.specs.Instruction.{instruction}
use Rattle.chip_registers.specs.Registers.{Registers}
use Rattle.board_model.specs.Whole.{AtRest}
use Rattle.board_model.specs.Resting.{power_up, board_at_rest}
use Rattle.scan_vectors.specs.declared.part.Part.TheVariants.{Header, Data}
use Rattle.play_model.specs.declared.ending.Ending.TheVariants.{Pass, Fail}
use Rattle.svf_programs.specs.Steps.{Go, Path, Run, Trst, Numbered}
use Rattle.svf_words.specs.declared.keywords.TrstWord.TheVariants.{On}
use Rattle.play_model.specs.Play.{player, turns}
use Rattle.worked_examples.specs.PlaySamples.{bits, sample_device, with_trst, with_highz, with_intest, with_user}
use Rattle.worked_examples.specs.PlaySamples.{with_fixed_user, plain, with_core, pin_q, pin_d, net, tdi, tdo}
use Rattle.worked_examples.specs.PlaySamples.{mask, sir}
use Rattle.worked_examples.specs.PlaySamples.{sdr, sdr_to, hdr_sdr, step}
use Rattle.worked_examples.specs.Agree.{Row, played}

abbrev pub pulled_down : AtRest
pulled_down = power_up (net Down (pin_q 0 ∷ [])) (with_core sample_device 0 ∷ [])

-- the level of the net that the sample boards name
abbrev pub net_levels : BoardState → List Level
net_levels b = map (level b.nets (members b.chips)) b.nets

abbrev pub registers_of : BoardState → List Registers
registers_of b = map (λ c. c.member.registers) b.chips

abbrev pub latches : BoardState → List (List Bool)
latches b = map (λ r. r.latch) (registers_of b)

abbrev pub trst_after_a_pause : List Numbered
trst_after_a_pause = sir 1 (tdi 4 0) ∷ sdr_to 3 (tdi 6 0x1B) DrPause ∷ step 4 (Trst On) ∷ []

abbrev pub opposed_drivers : Pull → AtRest
opposed_drivers pull = power_up (net pull (pin_q 0 ∷ pin_q 1 ∷ pin_d 0 ∷ []))
    (with_core sample_device 0 ∷ with_core sample_device 0 ∷ [])

-- a device with this core, its pin Q alone on net N
abbrev pub with_q : Device → ℕ → AtRest
with_q device core = power_up (net Free (pin_q 0 ∷ [])) (with_core device core ∷ [])

pub record PlayRows : Type 0 where
  pub empty_text : Row (plain (sample_device ∷ [])) [] (codes "r26262626260Q") Pass
  pub ir_scan : Row (plain (sample_device ∷ [])) (sir 1 (tdo 2 3 1) ∷ [])
      (codes "r2626262626004262604041R53R726040Q") Pass
  pub ir_scan_answers : (played (plain (sample_device ∷ [])) (sir 1 (tdo 2 3 1) ∷ [])).answers ≡ true ∷ false ∷ []
  pub identification_twice : Row (plain (sample_device ∷ []))
      (sdr 1 (tdo 32 0 0x01234567) ∷ sdr 2 (tdo 32 0 0x01234566) ∷ [])
      (codes "r26262626260042604040R40R40R40R40R40R40R40R40R40R40R40R40R40R40R40R40R40R40R40R40R40R40R40"
      ++ codes "R40R40R40R40R40R40R40R42R6260402604040R40R40R40R40R40R40R40R40R40R40R40R40R40R40R40R40R40R"
      ++ codes "40R40R40R40R40R40R40R40R40R40R40R40R40R42R626040Q")
      (Fail 2 Data 0)
  pub bypass_chain : Row (plain (sample_device ∷ sample_device ∷ [])) (sir 1 (tdi 4 15) ∷ sdr 2 (tdo 3 5 4) ∷ [])
      (codes "r26262626260042626040415151537260402604041R50R43R726040Q") Pass
  pub header_fails_first : Row (plain (sample_device ∷ sample_device ∷ []))
      (sir 1 (tdi 4 15) ∷ hdr_sdr 3 (tdo 1 0 1) (tdo 1 1 1) ∷ [])
      (codes "r26262626260042626040415151537260402604040R43R726040Q") (Fail 3 Header 0)
  pub mask_not_kept_past_a_length : Row (plain (sample_device ∷ []))
      (sir 1 (tdi 2 3) ∷ sdr 2 (mask 8 0 0xF0 0x0F) ∷ sdr 3 (tdo 4 0 0) ∷ sdr 4 (tdo 8 0 0xF0) ∷ [])
      (codes "r2626262626004262604041537260402604040R40R40R40R404040426260402604040R40R40R42R62604026040"
      ++ codes "40R40R40R40R40R40R40R42R626040Q")
      (Fail 4 Data 4)
  pub bypass_delays_a_bit : Row (plain (sample_device ∷ [])) (sir 1 (tdi 2 3) ∷ sdr 2 (tdo 5 0x15 0x0A) ∷ [])
      (codes "r2626262626004262604041537260402604041R50R41R50R43R726040Q") Pass
  pub pause_holds_the_update : Row pulled_down (sir 1 (tdi 2 0) ∷ sdr_to 3 (tdi 3 3) DrPause ∷ [])
      (codes "r262626262600426260404042626040260404151526040Q") Pass
  pub pause_level : net_levels (played pulled_down (sir 1 (tdi 2 0) ∷ sdr_to 3 (tdi 3 3) DrPause ∷ [])).board
      ≡ Zero ∷ []
  pub left_pause_updates : Row pulled_down (sir 1 (tdi 2 0) ∷ sdr_to 3 (tdi 3 3) DrPause ∷ step 4 (Go Idle) ∷ [])
      (codes "r2626262626004262604040426260402604041515260402626040Q") Pass
  pub left_pause_level : net_levels
      (played pulled_down (sir 1 (tdi 2 0) ∷ sdr_to 3 (tdi 3 3) DrPause ∷ step 4 (Go Idle) ∷ [])).board ≡ One ∷ []
  pub ir_pause_captures : Row (plain (sample_device ∷ [])) (step 1 (Go IrPause) ∷ step 2 (Go Idle) ∷ [])
      (codes "r2626262626004262604260402626040Q") Pass
  pub ir_pause_latch : latches
      (played (plain (sample_device ∷ [])) (step 1 (Go IrPause) ∷ step 2 (Go Idle) ∷ [])).board
      ≡ bits 2 1 ∷ []
  pub ir_pause_instruction : instruction sample_device (bits 2 1) ≡ Some (codes "SAMPLE")
  pub stated_path_shifts_zeros : Row (plain (sample_device ∷ []))
      (sir 1 (tdi 2 3)
      ∷ step 2 (Path (DrSelect ∷ DrCapture ∷ DrShift ∷ DrShift ∷ DrExit1 ∷ DrUpdate ∷ Idle ∷ [])) ∷ [])
      (codes "r262626262600426260404153726040260404042626040Q") Pass
  pub trst_resets_without_settling : Row (plain (with_trst ∷ sample_device ∷ [])) trst_after_a_pause
      (codes "r2626262626004262604040404042626040260404151504151526040t26262626260Q") Pass
  pub trst_keeps_update_stages : map (λ r. r.update)
      (registers_of (played (plain (with_trst ∷ sample_device ∷ [])) trst_after_a_pause).board)
      ≡ bits 3 0 ∷ bits 3 3 ∷ []
  pub trst_resets_latches : latches (played (plain (with_trst ∷ sample_device ∷ [])) trst_after_a_pause).board
      ≡ bits 2 2 ∷ bits 2 2 ∷ []
  -- three cycles in IDLE
  pub runtest_cycles : Row (plain (sample_device ∷ [])) (step 2 (Run Idle 3 Idle) ∷ [])
      (codes "r26262626260040404040Q") Pass
  pub contention : Row (opposed_drivers Free) (sir 1 (tdi 4 0) ∷ sdr 2 (tdi 6 0x13) ∷ sdr 3 (tdo 6 0x13 0x20) ∷ [])
      (codes "r2626262626004262604040404042626040260404151504041526260402604041R51R50R40R41R52R626040Q") Pass
  pub contention_level : net_levels
      (played (opposed_drivers Free) (sir 1 (tdi 4 0) ∷ sdr 2 (tdi 6 0x13) ∷ sdr 3 (tdo 6 0x13 0x20) ∷ [])).board
      ≡ Contend ∷ []
  pub pulled_up : Row (opposed_drivers Up) (sir 1 (tdi 4 0) ∷ sdr 2 (tdo 6 0 0x24) ∷ [])
      (codes "r26262626260042626040404040426260402604040R40R40R40R40R42R626040Q") Pass
  pub pulled_up_level : net_levels (played (opposed_drivers Up) (sir 1 (tdi 4 0) ∷ sdr 2 (tdo 6 0 0x24) ∷ [])).board
      ≡ One ∷ []
  pub floating : Row (opposed_drivers Free) (sir 1 (tdi 4 0) ∷ sdr 2 (tdo 6 0 0x24) ∷ [])
      (codes "r26262626260042626040404040426260402604040R40R40R40R40R42R626040Q") Pass
  pub floating_level : net_levels (played (opposed_drivers Free) (sir 1 (tdi 4 0) ∷ sdr 2 (tdo 6 0 0x24) ∷ [])).board
      ≡ Float ∷ []
  pub pins_on : net_levels (board_at_rest (with_q sample_device 3)) ≡ One ∷ []
  pub pins_off : net_levels (board_at_rest (with_q sample_device 1)) ≡ Float ∷ []
  pub pins_plain : net_levels (board_at_rest (with_q with_highz 1)) ≡ One ∷ []
  pub highz : Row (with_q with_highz 1) (sir 1 (tdi 2 1) ∷ []) (codes "r262626262600426260404152626040Q") Pass
  pub highz_level : net_levels (played (with_q with_highz 1) (sir 1 (tdi 2 1) ∷ [])).board ≡ Float ∷ []
  pub intest : instruction with_intest (bits 2 1) ≡ Some (codes "INTEST")
  -- chains and user registers
  pub two_ks : Row (plain (sample_device ∷ sample_device ∷ [])) (sir 1 (tdi 4 7) ∷ sdr 2 (tdo 4 0 8) ∷ [])
      (codes "r26262626260042626040415151526260402604040R40R40R42R626040Q") Pass
  pub user : Row (plain (with_user ∷ [])) (sir 1 (tdi 2 1) ∷ sdr 2 (tdo 4 9 0) ∷ sdr 3 (tdo 4 0 9) ∷ [])
      (codes "r2626262626004262604041526260402604041R50R40R43R7260402604040R40R40R42R626040Q") Pass
  pub user_latch : map (λ r. r.users)
      (registers_of
      (played (plain (with_user ∷ [])) (sir 1 (tdi 2 1) ∷ sdr 2 (tdo 4 9 0) ∷ sdr 3 (tdo 4 0 9) ∷ [])).board)
      ≡ (record { stage = bits 4 0; latch = bits 4 0 } ∷ []) ∷ []
  pub user_fixed : Row (plain (with_fixed_user ∷ [])) (sir 1 (tdi 2 1) ∷ sdr 2 (tdo 4 9 5) ∷ sdr 3 (tdo 4 9 5) ∷ [])
      (codes "r2626262626004262604041526260402604041R50R40R43R7260402604041R50R40R43R726040Q") Pass
  -- the bare device
  pub bare_ir : Row (plain (bare ∷ [])) (step 1 (Go IrPause) ∷ step 2 (Go Idle) ∷ [])
      (codes "r2626262626004262604260402626040Q") Pass
  pub bare_latch : latches (played (plain (bare ∷ [])) (step 1 (Go IrPause) ∷ step 2 (Go Idle) ∷ [])).board
      ≡ bits 2 1 ∷ []
  pub bare_name : instruction bare (bits 2 1) ≡ None
  pub bare_dr : Row (plain (bare ∷ bare ∷ [])) (step 1 (Go DrPause) ∷ [])
      (codes "r2626262626004260426040Q") Pass
  pub run_test : Row (plain (sample_device ∷ []))
      (step 1 (Run DrPause 2 Idle) ∷ step 2 (Run Reset 2 Reset) ∷ step 3 (Run Reset 0 Reset)
      ∷ step 4 (Run Reset 0 Reset) ∷ [])
      (codes "r2626262626004260426040404262604026262626260Q") Pass
  -- what the player may send: a window of 1, and of 256
  pub window_one : player 1 (turns (sir 1 (tdo 2 3 1) ∷ [])) [] ≡ codes "r2626262626004262604041R53"
  pub window_one_next : player 1 (turns (sir 1 (tdo 2 3 1) ∷ [])) (true ∷ [])
      ≡ codes "r2626262626004262604041R53R726040"
  pub window_one_end : player 1 (turns (sir 1 (tdo 2 3 1) ∷ [])) (true ∷ false ∷ [])
      ≡ codes "r2626262626004262604041R53R726040Q"
  pub window_wide : length (player 256 (turns (sir 1 (tdo 2 3 1) ∷ [])) []) ≡ 33
  pub window_full : length (player 256 (turns (sdr 1 (tdo 300 0 0) ∷ [])) []) ≡ 789
