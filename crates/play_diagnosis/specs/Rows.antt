-- Logs and lines worked out: of a program that scans two bits of data as its only statement, and of a net N with a pull
-- up and a net M.
use Rattle.std.specs.Prelude.{◌≡◌, ℕ, Bool, true, false, List, [], ◌∷◌, ◌++◌, codes, Some, None, Ok, Err}
use Rattle.jt_tap.specs.declared.Column.TheVariants.{Dr}
use Rattle.jt_tap.specs.declared.State.{State}
use Rattle.jt_tap.specs.declared.State.TheVariants.{Idle}
use Rattle.jt_tap.specs.Words.{word}
use Rattle.pin_nets.specs.declared.Level.{Level}
use Rattle.output_words.specs.Levels.{level_word}
use Rattle.scan_vectors.specs.declared.failures.Mismatch.{Mismatch}
use Rattle.scan_vectors.specs.declared.part.Part.{Part}
use Rattle.scan_vectors.specs.declared.part.Part.TheVariants.{Data}
use Rattle.svf_programs.specs.Steps.{Program, Scan}
use Rattle.play_model.specs.Endings.{part_word}
use Rattle.board_faults.specs.declared.kinds.Fault.TheVariants as fault
use Rattle.board_faults.specs.declared.kinds.Way.{Way}
use Rattle.board_faults.specs.declared.kinds.Way.TheVariants as way
use Rattle.board_faults.specs.declared.kinds.Winner.TheVariants.{Zeros, Ones, First, Second}
use Rattle.fault_serving.specs.Rows.{board}
use Rattle.play_diagnosis.specs.declared.fitting.TriedWay.{TriedWay}
use Rattle.play_diagnosis.specs.declared.lines.Line.TheVariants as line
use Rattle.play_diagnosis.specs.declared.reading.LogFault.TheVariants.{BadLine, NoVerdict, NoSuchBit, TooLarge, Empty}
use Rattle.play_diagnosis.specs.Diagnosis.{diagnosis, fault_line}
use Rattle.play_diagnosis.specs.LogLines.{is_level, is_state, line_of, part}
use Rattle.play_diagnosis.specs.Reading.{Passes, PlaysOn, Stops, read}
use Rattle.play_diagnosis.specs.Refusals.{refusal_lines}

abbrev pub failing : (command place : ℕ) → Mismatch
failing command place = record { command = command; part = Data; bit = place }

abbrev pub scan : Program
scan = record {
  statements = 1;
  steps = record {
    number = 1;
    what = Scan Dr
        (record { tdi = false; wanted = Some true; part = Data; place = 0 }
        ∷ record { tdi = false; wanted = None; part = Data; place = 1 } ∷ []) Idle;
  } ∷ [];
}

abbrev pub tried : Way → (fits : Bool) → TriedWay
tried its_way fits = record { way = its_way; fits = fits }

pub record LogRows : Type 0 where
  -- the words of other pages, as lines have them
  pub states : (s : State) → is_state (word s) ≡ true
  pub levels : (l : Level) → is_level (level_word l) ≡ true
  pub parts : (p : Part) → part (part_word p) ≡ Some p
  -- lines
  pub pass : line_of (codes "pass") ≡ line.Pass
  pub carriage_return : line_of (codes "pass" ++ 13 ∷ []) ≡ line.Pass
  pub fails : line_of (codes "fail command 12 data bit 5") ≡ line.Fail (failing 12 5)
  pub a_zero_first : line_of (codes "fail command 02 data bit 5") ≡ line.Unknown
  pub failures : line_of (codes "failures 300") ≡ line.Total 300
  pub lost : line_of (codes "lost command 2") ≡ line.Cut
  pub a_bad_answer : line_of (codes "bad answer 78 command 1") ≡ line.Cut
  pub a_device : line_of (codes "U1 DRPAUSE 01 -") ≡ line.Beside
  pub a_net : line_of (codes "failures Zero") ≡ line.Beside
  pub nothing : line_of [] ≡ line.Beside
  pub blanks : line_of (codes "pass ") ≡ line.Unknown
  -- logs
  pub passes : read scan (codes "bytes 26\npass\nU1 IDLE 01 -\n") ≡ Ok Passes
  pub first : read scan (codes "fail command 1 data bit 1\nN One") ≡ Ok (Stops (failing 1 1))
  pub all : read scan (codes "fail command 1 data bit 0\nfailures 1\n")
      ≡ Ok (PlaysOn (record { list = failing 1 0 ∷ []; total = 1 }))
  pub cut_off : read scan (codes "fail command 1 data bit 0\nfail command 1 data bit 1\nN One\n") ≡ Err (NoVerdict 2)
  pub another_number : read scan (codes "fail command 1 data bit 0\nfailures 2\n") ≡ Err (BadLine 2)
  pub two_verdicts : read scan (codes "pass\nN One\npass\n") ≡ Err (BadLine 3)
  pub no_such_statement : read scan (codes "\nfail command 2 data bit 0\n") ≡ Err (NoSuchBit 2)
  pub no_such_bit : read scan (codes "fail command 1 data bit 2\n") ≡ Err (NoSuchBit 1)
  pub no_verdict : read scan (codes "N One\n") ≡ Err Empty
  -- refusals
  pub explained : refusal_lines true (BadLine 7) ≡ codes "log L1 BadLine line 7\nat line 7 column 1\n"
  pub refused : refusal_lines false (NoSuchBit 9) ≡ codes "log L3 NoSuchBit line 9\n"
  pub without_a_line : refusal_lines true TooLarge ≡ codes "log L4 TooLarge\n"
  -- faults
  pub every_way : fault_line board (fault.Pull 0) (tried (way.Pull 0) true ∷ []) ≡ codes "pull N\n"
  pub some_ways : fault_line board (fault.Short 0 1)
      (tried (way.Short 0 1 Zeros) true ∷ tried (way.Short 0 1 Ones) false
      ∷ tried (way.Short 0 1 First) false ∷ tried (way.Short 0 1 Second) true ∷ [])
      ≡ codes "short N M wired-and second-leads\n"
  pub no_way : fault_line board (fault.Stuck 1 true) (tried (way.Stuck 1 true) false ∷ []) ≡ []
  pub none : diagnosis [] ≡ codes "none: no single fault gives these bits\n"
