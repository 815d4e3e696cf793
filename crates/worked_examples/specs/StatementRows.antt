-- Worked texts: the statements that they spell, and the refusals of those that spell none.
use Rattle.std.specs.Prelude.{◌≡◌, ℕ, List, [], ◌∷◌, map, codes, Option, Some, None, Ok, Err}
use Rattle.jt_tap.specs.declared.State.TheVariants.{Reset, Idle, DrSelect, DrPause, IrSelect, IrPause}
use Rattle.svf_words.specs.declared.fault.Code.{Code}
use Rattle.svf_words.specs.declared.fault.Code.TheVariants as code
use Rattle.svf_words.specs.declared.keywords.TrstWord.TheVariants as word
use Rattle.svf_words.specs.declared.keywords.Which.TheVariants.{Hir, Tir, Sdr}
use Rattle.svf_parse.specs.Judging.{Said}
use Rattle.svf_parse.specs.Judging as said
use Rattle.svf_parse.specs.Reading.{text_says}
use Rattle.worked_examples.specs.Flat.{field_bits, absent, sdr, sir, hdr, tdr}

-- the text spells these statements
abbrev pub Spells : List ℕ → List Said → Type 0
Spells text statements = text_says text ≡ Ok statements

-- it spells this one alone
abbrev pub SpellsOne : List ℕ → Said → Type 0
SpellsOne text statement = Spells text (statement ∷ [])

-- it is refused at the statement of this number
abbrev pub Refused : ℕ → Code → List ℕ → Type 0
Refused n c text = text_says text ≡ Err (record { statement = n; code = c })

-- each of these texts is refused so at its first statement
abbrev pub EachRefused : Code → List (List ℕ) → Type 0
EachRefused c texts = map text_says texts ≡ map (λ text. Err (record { statement = 1; code = c })) texts

-- a FREQUENCY of this period
abbrev pub period : ℕ → Said
period picoseconds = said.frequency (Some picoseconds)

-- a RUNTEST of this count, and of this least time
abbrev pub run : Option ℕ → Option ℕ → Said
run count least = said.run_test None count least None None

pub record StatementRows : Type 0 where
  -- frequencies
  pub fastest : SpellsOne (codes "FREQUENCY 1E13 HZ;") (period 1)
  pub slowest : SpellsOne (codes "FREQUENCY 1E-6 HZ;") (period 1000000000000000000)
  pub by_default : SpellsOne (codes "FREQUENCY;") (said.frequency None)
  pub rounded_up : SpellsOne (codes "frequency 3E6 hz;") (period 333334)
  pub beyond_a_word : SpellsOne (codes "FREQUENCY 999999999999999999E18 HZ;") (period 1)
  pub point_in_front : SpellsOne (codes "FREQUENCY .5E+06 HZ;") (period 2000000)
  -- runs
  pub count_and_time : SpellsOne (codes "RUNTEST 1.5E1 TCK 1.00E-003 SEC;") (run (Some 15) (Some 1000000000))
  pub whole_run : SpellsOne (codes "RUNTEST IDLE 5 TCK 1E-6 SEC MAXIMUM 1E-3 SEC ENDSTATE IRPAUSE;")
      (said.run_test (Some Idle) (Some 5) (Some 1000000) (Some 1000000000) (Some IrPause))
  pub most_cycles : SpellsOne (codes "RUNTEST 4294967295 TCK;") (run (Some 4294967295) None)
  pub longest_time : SpellsOne (codes "RUNTEST 1E6 SEC;") (run None (Some 1000000000000000000))
  pub shortest_time : SpellsOne (codes "RUNTEST 0.00000000000000001E-18 SEC;") (run None (Some 1))
  pub nothing_to_run : SpellsOne (codes "RUNTEST 0 TCK 0 SEC;") (run (Some 0) (Some 0))
  -- scans: a field has the bits that are written, and none above the length
  pub fields : SpellsOne (codes "sdr 12 Mask (0FF) TDI (1 2\n3) SMASK ();")
      (said.scan Sdr 12 (field_bits 12 0x123) None (field_bits 12 0x0FF) (Some []))
  pub high_digit : SpellsOne (codes "SDR 5 TDI (15);") (sdr 5 (field_bits 5 0x15) absent absent)
  pub high_zeros : SpellsOne (codes "SIR 2 TDI (003);") (sir 2 (field_bits 2 3) absent absent)
  pub few_digits : SpellsOne (codes "HDR 13 TDI (A5);") (hdr 13 (field_bits 8 0xA5) absent absent)
  pub one_digit : SpellsOne (codes "SDR 1048576 TDI (0);") (sdr 1048576 (field_bits 4 0) absent absent)
  pub no_digit : SpellsOne (codes "SDR 1048576 TDI ();") (sdr 1048576 (field_bits 0 0) absent absent)
  -- the others
  pub end_of_data : SpellsOne (codes "ENDDR DRPAUSE;") (said.end_dr DrPause)
  pub end_of_instructions : SpellsOne (codes "EndIr IDLE;") (said.end_ir Idle)
  pub trst_words : Spells (codes "TRST ON;TRST off;trst Z;TRST ABSENT;")
      (said.trst word.On ∷ said.trst word.Off ∷ said.trst word.Z ∷ said.trst word.Absent ∷ [])
  pub path : SpellsOne (codes "STATE drselect IRSELECT Reset;") (said.states (DrSelect ∷ IrSelect ∷ Reset ∷ []))
  -- many, and none
  pub none : Spells (codes ";;") []
  pub six : Spells (codes "HDR 0; HIR 0; TDR 1 TDI (1); TIR 0; SIR 2 TDI (3); SDR 0;")
      (hdr 0 absent absent absent ∷ said.scan Hir 0 None None None None ∷ tdr 1 (field_bits 1 1) absent absent
      ∷ said.scan Tir 0 None None None None ∷ sir 2 (field_bits 2 3) absent absent ∷ sdr 0 absent absent absent ∷ [])
  -- what is of no form
  pub bad_form : EachRefused code.BadForm
      (codes "FREQUENCY 1;" ∷ codes "FREQUENCY ABC HZ;" ∷ codes "RUNTEST IDLE;" ∷ codes "RUNTEST 5 TCK MAXIMUM 1 SEC;"
      ∷ codes "RUNTEST 1 SEC 5 TCK;" ∷ codes "RUNTEST 5 TCK ENDSTATE;" ∷ codes "SDR 4 TDI (1) TDI (1);"
      ∷ codes "SDR TDI (1);" ∷ codes "SDR 4 TDI 1;" ∷ codes "SDR 4 TDI (1;" ∷ codes "SDR 4 TDI ((1));"
      ∷ codes "STATE;" ∷ codes "STATE IDLE FOO;" ∷ codes "ENDDR IDLE IDLE;" ∷ codes "TRST;" ∷ [])
  -- what is no number; of several refusals that of the lowest number is told
  pub bad_number : EachRefused code.BadNumber
      (codes "FREQUENCY 0 HZ;" ∷ codes "FREQUENCY 1..2 HZ;" ∷ codes "FREQUENCY 1E HZ;" ∷ codes "RUNTEST 1.5 TCK;"
      ∷ codes "RUNTEST 5.5 SCK 1E9 SEC;" ∷ codes "SDR 8 TDI (0G);" ∷ codes "SDR 1E1 TDI (0);"
      ∷ codes "SDR 999999999999999999 TDI (1F) TDO (G);" ∷ codes "SDR 4 TDI (1F) TDO (G);" ∷ [])
  pub too_wide : EachRefused code.TooWide (codes "SDR 4 TDI (1F);" ∷ [])
  pub unsupported : EachRefused code.Unsupported
      (codes "RUNTEST 5 SCK;" ∷ codes "RUNTEST 5E12 SCK;" ∷ codes "PIO (HL);"
      ∷ codes "PIOMAP (IN A OUT B) ) 1;" ∷ [])
  pub too_large : EachRefused code.TooLarge
      (codes "FREQUENCY 9E-7 HZ;" ∷ codes "FREQUENCY 1E19 HZ;" ∷ codes "FREQUENCY 0000000000000000001 HZ;"
      ∷ codes "RUNTEST 4294967296 TCK;" ∷ codes "RUNTEST 1.000001E6 SEC;" ∷ codes "SDR 1048577 TDI (0);"
      ∷ codes "SDR 1048577 TDI (1F);" ∷ codes "SDR 9999999999999999999 TDI (1F);" ∷ [])
  -- the statement at fault, and the place of a byte
  pub second : Refused 2 code.UnknownCommand (codes "SDR 4; FOO;")
  pub second_of_many : Refused 2 code.UnknownCommand (codes ";;SDR 4;; ;FOO; #")
  pub behind_a_step : Refused 2 code.UnknownCommand (codes "STATE DRCAPTURE; FOO;")
  pub open_bracket : Refused 1 (code.Unclosed 0) (codes "SDR 4 TDI (F")
  pub open_statement : Refused 2 (code.Unclosed 16) (codes "SDR 4 TDI (F);  STATE")
  pub hash : Refused 1 (code.BadByte 6) (codes "SDR 4 # ;")
  pub slash : Refused 1 (code.BadByte 8) (codes "FOO FOO /;")
