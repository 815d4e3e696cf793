-- Worked programs: what each list of statements resolves to.
use Rattle.std.specs.Prelude.{◌≡◌, ℕ, Bool, true, false, List, [], ◌∷◌, ◌++◌, map, replicate, codes, Option, Some, None}
use Rattle.std.specs.Prelude.{Result, Ok, Err}
use Rattle.jt_limits.specs.Limits.{earlier_limits}
use Rattle.jt_tap.specs.declared.Column.TheVariants.{Dr, Ir}
use Rattle.jt_tap.specs.declared.State.TheVariants.{Reset, Idle, DrSelect, DrCapture, DrShift, DrExit1, DrPause}
use Rattle.jt_tap.specs.declared.State.TheVariants.{DrUpdate, IrPause}
use Rattle.svf_words.specs.declared.fault.Code.{Code}
use Rattle.svf_words.specs.declared.fault.Code.TheVariants as code
use Rattle.svf_words.specs.declared.fault.SvfFault.{SvfFault}
use Rattle.svf_words.specs.declared.keywords.TrstWord.TheVariants as word
use Rattle.svf_words.specs.Numbers.{len_says, len_says_within}
use Rattle.svf_parse.specs.Judging.{Said, ◌>>=◌}
use Rattle.svf_parse.specs.Judging as said
use Rattle.svf_parse.specs.Reading.{text_says}
use Rattle.svf_programs.specs.Steps.{Step, Scan, Go, Path, Run, Trst, Numbered, Program}
use Rattle.svf_settings.specs.Refusals.{refusal, refusal_within}
use Rattle.svf_settings.specs.Periods.{period_at}
use Rattle.svf_settings.specs.Programs.{resolution}
use Rattle.scan_vectors.specs.Vector.{PartBits, VectorBit, join, judge}
use Rattle.scan_vectors.specs.declared.part.Part.{Part}
use Rattle.scan_vectors.specs.declared.part.Part.TheVariants.{Header, Data, Trailer}
use Rattle.worked_examples.specs.Flat.{bits, field_bits, absent, sdr, sir, hdr, tdr, flat}

abbrev pub at : ℕ → Code → Result Program SvfFault
at n c = Err (record { statement = n; code = c })

abbrev pub is : List Numbered → ℕ → Result Program SvfFault
is steps n = Ok (record { statements = n; steps = steps })

abbrev pub nth : ℕ → Step → Numbered
nth n s = record { number = n; what = s }

abbrev pub data_bit : ℕ → Bool → Option Bool → VectorBit
data_bit k tdi wanted = record { tdi = tdi; wanted = wanted; part = Data; place = k }

-- a text's statements, then what they resolve to
abbrev pub accepted : List ℕ → Result Program SvfFault
accepted text = text_says text >>= resolution

abbrev pub run : Option ℕ → Option ℕ → Option ℕ → Said
run count min max = said.run_test None count min max None

-- a bit of a header or a trailer
abbrev pub part_bit : Part → ℕ → Bool → Option Bool → VectorBit
part_bit part k tdi wanted = record { tdi = tdi; wanted = wanted; part = part; place = k }

-- a part of n bits, each 0 and wanted
abbrev pub all_wanted : ℕ → PartBits
all_wanted n = record { tdi = bits n 0; want = bits n 0; care = replicate n true }

-- six statements, of which the second and the fourth set a period, and the fifth none
abbrev pub period_statements : List Said
period_statements =
    sdr 4 (field_bits 4 5) absent absent ∷ said.frequency (Some 500000) ∷ sdr 4 absent absent absent
    ∷ said.frequency (Some 500000) ∷ said.frequency None ∷ sdr 4 absent absent absent ∷ []

pub record SettingsRows : Type 0 where
  -- SIR 2 TDI (3); SDR 8 TDI (00) TDO (F0) MASK (0F); SDR 4 TDI (0) TDO (0); SDR 8 TDI (00) TDO (F0): no mask is kept
  -- past a change of length
  pub mask_is_dropped : resolution
      (sir 2 (field_bits 2 3) absent absent ∷ sdr 8 (field_bits 8 0) (field_bits 8 240) (field_bits 8 15)
      ∷ sdr 4 (field_bits 4 0) (field_bits 4 0) absent ∷ sdr 8 (field_bits 8 0) (field_bits 8 240) absent ∷ [])
      ≡ is (nth 1 (Scan Ir (data_bit 0 true None ∷ data_bit 1 true None ∷ []) Idle)
      ∷ nth 2 (Scan Dr (data_bit 0 false (Some false) ∷ data_bit 1 false (Some false) ∷ data_bit 2 false (Some false)
      ∷ data_bit 3 false (Some false)
      ∷ data_bit 4 false None ∷ data_bit 5 false None ∷ data_bit 6 false None ∷ data_bit 7 false None ∷ []) Idle)
      ∷ nth 3 (Scan Dr (data_bit 0 false (Some false) ∷ data_bit 1 false (Some false) ∷ data_bit 2 false (Some false)
      ∷ data_bit 3 false (Some false) ∷ []) Idle)
      ∷ nth 4 (Scan Dr (data_bit 0 false (Some false) ∷ data_bit 1 false (Some false) ∷ data_bit 2 false (Some false)
      ∷ data_bit 3 false (Some false)
      ∷ data_bit 4 false (Some true) ∷ data_bit 5 false (Some true) ∷ data_bit 6 false (Some true)
      ∷ data_bit 7 false (Some true) ∷ []) Idle) ∷ []) 4
  -- SDR 4 TDI (0F): a high digit that is 0 is free
  pub leading_zero : accepted (codes "SDR 4 TDI (0F);")
      ≡ is (nth 1 (Scan Dr (map (λ k. data_bit k true None) (0 ∷ 1 ∷ 2 ∷ 3 ∷ [])) Idle) ∷ []) 1
  pub too_wide : accepted (codes "SDR 4 TDI (1F);") ≡ at 1 code.TooWide
  -- a path walks as it is named, from the end of the scan
  pub path : resolution (sir 2 (field_bits 2 3) absent absent
      ∷ said.states (DrSelect ∷ DrCapture ∷ DrShift ∷ DrShift ∷ DrExit1 ∷ DrUpdate ∷ Idle ∷ []) ∷ [])
      ≡ is (nth 1 (Scan Ir (data_bit 0 true None ∷ data_bit 1 true None ∷ []) Idle)
      ∷ nth 2 (Path (DrSelect ∷ DrCapture ∷ DrShift ∷ DrShift ∷ DrExit1 ∷ DrUpdate ∷ Idle ∷ [])) ∷ []) 2
  pub path_with_gap : resolution
      (sir 2 (field_bits 2 3) absent absent
      ∷ said.states (DrSelect ∷ DrCapture ∷ DrShift ∷ DrShift ∷ DrUpdate ∷ Idle ∷ []) ∷ [])
      ≡ at 2 code.BadPath
  pub path_from_pause : resolution (said.states (IrPause ∷ []) ∷ said.states (Idle ∷ []) ∷ [])
      ≡ is (nth 1 (Go IrPause) ∷ nth 2 (Go Idle) ∷ []) 2
  -- SIR 4 TDI (0); ENDDR DRPAUSE; SDR 6 TDI (1B); TRST ON
  pub ends : flat (accepted (codes "SIR 4 TDI (0); ENDDR DRPAUSE; SDR 6 TDI (1B); TRST ON;"))
      ≡ flat (is (nth 1 (Scan Ir (map (λ k. data_bit k false None) (0 ∷ 1 ∷ 2 ∷ 3 ∷ [])) Idle)
      ∷ nth 3 (Scan Dr (data_bit 0 true None ∷ data_bit 1 true None ∷ data_bit 2 false None ∷ data_bit 3 true None
      ∷ data_bit 4 true None ∷ data_bit 5 false None ∷ []) DrPause)
      ∷ nth 4 (Trst word.On) ∷ []) 4)
  -- FREQUENCY 3E6 HZ; RUNTEST 1E-6 SEC
  pub cycles : accepted (codes "FREQUENCY 3E6 HZ; RUNTEST 1E-6 SEC;") ≡ is (nth 2 (Run Idle 3 Idle) ∷ []) 2
  pub too_slow : accepted (codes "FREQUENCY 3E6 HZ; RUNTEST 5 TCK 1E-6 SEC MAXIMUM 1E-6 SEC;") ≡ at 2 code.TooSlow
  pub parse_first : accepted (codes "SDR 4; FOO;") ≡ at 2 code.UnknownCommand
  pub parse_first_too : accepted (codes "STATE DRCAPTURE; FOO;") ≡ at 2 code.UnknownCommand
  pub no_tdi : accepted (codes "SDR 4;") ≡ at 1 code.MissingTdi
  pub tdi_taken_over : resolution (sir 2 (field_bits 2 3) absent absent ∷ sir 2 absent (field_bits 2 1) absent ∷ [])
      ≡ is (nth 1 (Scan Ir (data_bit 0 true None ∷ data_bit 1 true None ∷ []) Idle)
      ∷ nth 2 (Scan Ir (data_bit 0 true (Some true) ∷ data_bit 1 true (Some false) ∷ []) Idle) ∷ []) 2
  pub tdi_not_taken_over : resolution (sir 2 (field_bits 2 3) absent absent ∷ sir 3 absent (field_bits 3 1) absent ∷ [])
      ≡ at 2 code.MissingTdi
  pub held : accepted (codes "TRST ON; STATE IDLE;") ≡ at 2 code.TrstHeld
  pub trst_absent : accepted (codes "TRST ABSENT; TRST OFF;") ≡ at 2 code.TrstAbsent
  pub absent_again : accepted (codes "TRST ABSENT; TRST ABSENT;")
      ≡ is (nth 1 (Trst word.Absent) ∷ nth 2 (Trst word.Absent) ∷ []) 2
  pub held_absent : accepted (codes "TRST ON; TRST ABSENT;") ≡ at 2 code.TrstHeld
  pub released : accepted (codes "TRST ON; TRST OFF; STATE IDLE;")
      ≡ is (nth 1 (Trst word.On) ∷ nth 2 (Trst word.Off) ∷ nth 3 (Go Idle) ∷ []) 3
  -- the limit of a whole vector
  pub long_scan : refusal [] (sdr 1048576 (field_bits 0 0) absent absent) ≡ None
  pub longer_scan : accepted (codes "SDR 1048577 TDI (0);") ≡ at 1 code.TooLarge
  pub long_with_header : refusal (hdr 1 (field_bits 1 0) absent absent ∷ [])
      (sdr 1048576 (field_bits 0 0) absent absent) ≡ Some code.TooLarge
  pub within_with_header : refusal (hdr 1 (field_bits 1 0) absent absent ∷ [])
      (sdr 1048575 (field_bits 0 0) absent absent) ≡ None
  -- the same by the earlier limits
  pub long_before : refusal_within earlier_limits [] (sdr 65536 (field_bits 0 0) absent absent) ≡ None
  pub longer_before : refusal_within earlier_limits [] (sdr 65537 (field_bits 0 0) absent absent) ≡ Some code.TooLarge
  pub length_before : len_says_within earlier_limits (codes "65536") ≡ Ok 65536
  pub length_too_large_before : len_says_within earlier_limits (codes "65537") ≡ Err code.TooLarge
  pub length_now : len_says (codes "65537") ≡ Ok 65537
  -- refusals of one statement in the order of their numbers, and of the first statement
  pub empty_first : accepted (codes "SDR 0; STATE DRCAPTURE;") ≡ at 1 code.EmptyScan
  pub unstable : accepted (codes "HDR 0; ENDDR DRSHIFT;") ≡ at 2 code.BadState
  pub header_has_its_own : accepted (codes "SDR 4 TDI (1); HDR 4;") ≡ at 2 code.MissingTdi
  -- RUNTEST
  pub run_state_is_kept : resolution
      (said.run_test (Some DrPause) (Some 2) None None (Some Idle) ∷ run (Some 1) None None
      ∷ said.run_test (Some Reset) (Some 0) None None None ∷ run (Some 4) None None ∷ [])
      ≡ is (nth 1 (Run DrPause 2 Idle) ∷ nth 2 (Run DrPause 1 Idle) ∷ nth 3 (Run Reset 0 Reset)
      ∷ nth 4 (Run Reset 4 Reset) ∷ []) 4
  pub most_cycles : resolution (said.frequency (Some 1) ∷ run None (Some 4294967295) None ∷ [])
      ≡ is (nth 2 (Run Idle 4294967295 Idle) ∷ []) 2
  pub more_cycles : resolution (said.frequency (Some 1) ∷ run None (Some 4294967296) None ∷ []) ≡ at 2 code.TooLarge
  -- 4,294,967,295 cycles of 10^18 ps are exact, beyond what 64 bits hold
  pub beyond_64_bits : resolution
      (said.frequency (Some 1000000000000000000) ∷ run (Some 4294967295) None (Some 1000000000000000000) ∷ [])
      ≡ at 2 code.TooSlow
  pub slowest : resolution
      (said.frequency (Some 1000000000000000000) ∷ run (Some 1) None (Some 1000000000000000000) ∷ [])
      ≡ is (nth 2 (Run Idle 1 Idle) ∷ []) 2
  -- header, data and trailer, and the trailer's TDO stands
  pub parts : flat (resolution
      (hdr 1 (field_bits 1 1) (field_bits 1 1) absent ∷ tdr 2 (field_bits 1 1) (field_bits 2 2) (field_bits 2 2)
      ∷ sdr 1 (field_bits 1 0) absent absent ∷ tdr 0 absent absent absent ∷ sdr 1 absent (field_bits 1 1) absent
      ∷ []))
      ≡ 1 ∷ 5 ∷ 1000000000000000000000 ∷ 3 ∷ 0 ∷ 0 ∷ 1 ∷ 5 ∷ 6 ∷ 13 ∷ 34 ∷ 1000000000000000000000 ∷ 5 ∷ 0 ∷ 0 ∷ 1 ∷ 5
      ∷ 10 ∷ []
  -- a mask goes with a change of length, and a TDO with each scan
  pub mask_and_tdo : flat (accepted (codes "SDR 2 TDI (0) TDO (2) MASK (1); SDR 2 TDO (3); SDR 1 TDI (0);"
      ++ codes "SDR 2 TDI (0) TDO (2); SDR 2;"))
      ≡ flat (is
      (nth 1 (Scan Dr (data_bit 0 false (Some false) ∷ data_bit 1 false None ∷ []) Idle)
      ∷ nth 2 (Scan Dr (data_bit 0 false (Some true) ∷ data_bit 1 false None ∷ []) Idle)
      ∷ nth 3 (Scan Dr (data_bit 0 false None ∷ []) Idle)
      ∷ nth 4 (Scan Dr (data_bit 0 false (Some false) ∷ data_bit 1 false (Some true) ∷ []) Idle)
      ∷ nth 5 (Scan Dr (data_bit 0 false None ∷ data_bit 1 false None ∷ []) Idle) ∷ []) 5)
  pub header_and_trailer : flat (accepted
      (codes "HDR 1 TDI (1) TDO (1); TDR 2 TDI (1) TDO (2) MASK (2); SDR 1 TDI (0); SDR 1 TDO (1);"))
      ≡ flat (is
      (nth 3 (Scan Dr (part_bit Header 0 true (Some true) ∷ data_bit 0 false None ∷ part_bit Trailer 0 true None
      ∷ part_bit Trailer 1 false (Some true) ∷ []) Idle)
      ∷ nth 4 (Scan Dr (part_bit Header 0 true (Some true) ∷ data_bit 0 false (Some true)
      ∷ part_bit Trailer 0 true None ∷ part_bit Trailer 1 false (Some true) ∷ []) Idle) ∷ []) 4)
  -- a header of the other column does not count, and one of length 0 takes it away
  pub other_headers : flat (accepted
      (codes "HIR 1 TDI (1); HDR 1 TDI (1); SDR 1 TDI (0); HDR 0; SDR 1; SIR 1 TDI (0);"))
      ≡ flat (is
      (nth 3 (Scan Dr (part_bit Header 0 true None ∷ data_bit 0 false None ∷ []) Idle)
      ∷ nth 5 (Scan Dr (data_bit 0 false None ∷ []) Idle)
      ∷ nth 6 (Scan Ir (part_bit Header 0 true None ∷ data_bit 0 false None ∷ []) Idle) ∷ []) 6)
  -- bits above the digits that are written are 0, and are not wanted where they are of the mask
  pub unwritten : flat (accepted (codes "SDR 6 TDI (1) TDO (1) MASK (5);"))
      ≡ flat (is (nth 1 (Scan Dr
      (data_bit 0 true (Some true) ∷ data_bit 1 false None ∷ data_bit 2 false (Some false) ∷ data_bit 3 false None
      ∷ data_bit 4 false None ∷ data_bit 5 false None ∷ []) Idle) ∷ []) 1)
  pub held_in_reset : accepted (codes "TRST ON; STATE RESET; RUNTEST RESET 5 TCK;")
      ≡ is (nth 1 (Trst word.On) ∷ nth 2 (Go Reset) ∷ nth 3 (Run Reset 5 Reset) ∷ []) 3
  -- a path that leaves RESET and comes back
  pub leaves_reset : accepted (codes "TRST ON; STATE IDLE DRSELECT IRSELECT RESET;") ≡ at 2 code.TrstHeld
  pub own_refusal : accepted (codes "TRST ON; SDR 4;") ≡ at 2 code.MissingTdi
  pub longer_than_any : accepted (codes "FREQUENCY 1E12 HZ; RUNTEST 1E6 SEC;") ≡ at 2 code.TooLarge
  pub gap : accepted (codes "STATE DRPAUSE IDLE;") ≡ at 1 code.BadPath
  -- the period by default is a microsecond
  pub by_default : accepted (codes "RUNTEST 2.5E-6 SEC;") ≡ is (nth 1 (Run Idle 3 Idle) ∷ []) 1
  pub most_at_once : accepted (codes "RUNTEST 4294967295 TCK;") ≡ is (nth 1 (Run Idle 4294967295 Idle) ∷ []) 1
  -- SDR 4 TDI (5); FREQUENCY 2E6 HZ; SDR 4; FREQUENCY 2E6 HZ; FREQUENCY; SDR 4: a period is in force behind its
  -- statement
  pub periods : map (period_at period_statements) (0 ∷ 1 ∷ 2 ∷ 3 ∷ 4 ∷ 5 ∷ 6 ∷ 7 ∷ 8 ∷ [])
      ≡ 1000000 ∷ 1000000 ∷ 1000000 ∷ 500000 ∷ 500000 ∷ 500000 ∷ 1000000 ∷ 1000000 ∷ 1000000 ∷ []
  -- an answer of four bits that differs at places 2 and 3 from one of parts of 1, 2 and 1 bits, all wanted
  pub judged : judge (join (all_wanted 1) (all_wanted 2) (all_wanted 1)) (false ∷ false ∷ true ∷ true ∷ [])
      ≡ Some (Data, 1)
