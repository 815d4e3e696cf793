-- Worked words: states and paths between them, bytes of the protocol, hexadecimal digits, and opcodes.
use Rattle.std.specs.Prelude.{◌≡◌, ℕ, ◌+◌, ◌^◌, ◌==◌, true, false, List, [], ◌∷◌, ◌++◌, map, reverse, codes}
use Rattle.std.specs.Prelude.{if◌then◌else◌, Some, None, Ok, Err}
use Rattle.jt_bits.specs.declared.digits.HexFault.{HexFault}
use Rattle.jt_bits.specs.declared.digits.HexFault.TheVariants.{BadDigit, TooWide}
use Rattle.jt_bits.specs.Hex.{hex_value, has_one_beyond}
use Rattle.jt_tap.specs.Controller.{is_stable, next}
use Rattle.jt_tap.specs.Paths.{go}
use Rattle.jt_tap.specs.declared.State.TheVariants.{Reset, DrSelect, DrShift, DrExit1, DrPause, DrExit2, DrUpdate}
use Rattle.jt_tap.specs.declared.State.TheVariants.{IrSelect, IrCapture, IrExit1, IrPause}
use Rattle.bitbang_protocol.specs.declared.Message.TheVariants.{Write, Lines}
use Rattle.bitbang_protocol.specs.Protocol.{answer, cycle_messages, decode, encode, read_answer}
use Rattle.bsdl_device.specs.Device.{Opcode, Pattern}
use Rattle.bsdl_device.specs.Opcodes.{named_instruction}
use Rattle.svf_words.specs.Keywords.{all_states, state_of}
use Rattle.worked_examples.specs.Flat.{bits}

abbrev pub state_words : List (List ℕ)
state_words =
    codes "RESET" ∷ codes "IDLE" ∷ codes "DRSELECT" ∷ codes "DRCAPTURE" ∷ codes "DRSHIFT" ∷ codes "DREXIT1"
    ∷ codes "DRPAUSE" ∷ codes "DREXIT2" ∷ codes "DRUPDATE" ∷ codes "IRSELECT" ∷ codes "IRCAPTURE" ∷ codes "IRSHIFT"
    ∷ codes "IREXIT1" ∷ codes "IRPAUSE" ∷ codes "IREXIT2" ∷ codes "IRUPDATE" ∷ []

abbrev pub state_words_mixed : List (List ℕ)
state_words_mixed =
    codes "Reset" ∷ codes "idle" ∷ codes "Drselect" ∷ codes "drcapture" ∷ codes "Drshift" ∷ codes "drexit1"
    ∷ codes "DrPause" ∷ codes "drexit2" ∷ codes "Drupdate" ∷ codes "irselect" ∷ codes "IrCapture" ∷ codes "irshift"
    ∷ codes "Irexit1" ∷ codes "irpause" ∷ codes "Irexit2" ∷ codes "irUPDATE" ∷ []

-- words that are nearly those of states
abbrev pub near_misses : List (List ℕ)
near_misses =
    [] ∷ codes "R" ∷ codes "RESE" ∷ codes "RESETS" ∷ codes " RESET" ∷ codes "RESET " ∷ codes "RE SET" ∷ codes "IDL"
    ∷ codes "IDLEE" ∷ codes "DR" ∷ codes "DRSHIF" ∷ codes "DRSHIFTT" ∷ codes "DR_SHIFT" ∷ codes "DRPAUS"
    ∷ codes "IRPAUSE1" ∷ codes "DREXIT" ∷ codes "DREXIT3" ∷ codes "IREXIT0" ∷ codes "XRSHIFT" ∷ codes "UPDATEDR"
    ∷ codes "DRUPDATE;" ∷ []

-- digits at a length, with the value that they have there
abbrev pub HasValue : List ℕ → ℕ → ℕ → Type 0
HasValue digits n value = hex_value digits n ≡ Ok (bits n value)

-- digits at a length that are refused
abbrev pub HasNone : List ℕ → ℕ → HexFault → Type 0
HasNone digits n fault = hex_value digits n ≡ Err fault

-- a pattern as it is written, its last digit nearest TDO, of which each other than 0 and 1 is an X
abbrev pub pattern : List ℕ → Pattern
pattern text = map (λ c. if c == 48 then Some false else if c == 49 then Some true else None) (reverse text)

-- an instruction of such opcodes
abbrev pub row : List ℕ → List (List ℕ) → Opcode
row name texts = record { name = name; patterns = map pattern texts }

-- one of a single opcode of 130 bits, of this value
abbrev pub long_row : List ℕ → ℕ → Opcode
long_row name value = record { name = name; patterns = map (λ b. Some b) (bits 130 value) ∷ [] }

-- rows that have opcodes of others, and opcodes of other lengths
abbrev pub plain_rows : List Opcode
plain_rows =
    row (codes "CLAMP") (codes "0001" ∷ codes "0001" ∷ [])
    ∷ row (codes "HIGHZ") (codes "0001" ∷ codes "0010" ∷ codes "1111" ∷ [])
    ∷ row (codes "EXTEST") (codes "0010" ∷ codes "100" ∷ codes "01000" ∷ []) ∷ []

abbrev pub rows_with_x : List Opcode
rows_with_x =
    row (codes "CLAMP") (codes "01XX" ∷ [])
    ∷ row (codes "HIGHZ") (codes "0101" ∷ codes "0001" ∷ codes "1X00" ∷ codes "1000" ∷ [])
    ∷ row (codes "EXTEST") (codes "00XX" ∷ codes "1X00" ∷ []) ∷ row (codes "PRELOAD") (codes "X1X0" ∷ []) ∷ []

abbrev pub long_rows : List Opcode
long_rows =
    long_row (codes "CLAMP") (1 + 2 ^ 64) ∷ long_row (codes "HIGHZ") (1 + 2 ^ 129) ∷ long_row (codes "EXTEST") 1 ∷ []

pub record WordRows : Type 0 where
  -- the words of all states, in any case, and near misses
  pub words : map state_of state_words ≡ map (λ s. Some s) all_states
  pub words_in_any_case : map state_of state_words_mixed ≡ map (λ s. Some s) all_states
  pub no_words : map state_of near_misses ≡ map (λ text. None) near_misses
  -- where a program may rest, and where TMS 1 leads from DRSHIFT
  pub stable : map is_stable all_states
      ≡ true ∷ true ∷ false ∷ false ∷ false ∷ false ∷ true ∷ false ∷ false ∷ false ∷ false ∷ false ∷ false ∷ true
      ∷ false ∷ false ∷ []
  pub by_ones : map (λ s. next s true) (DrShift ∷ DrExit1 ∷ DrUpdate ∷ DrSelect ∷ IrSelect ∷ [])
      ≡ DrExit1 ∷ DrUpdate ∷ DrSelect ∷ IrSelect ∷ Reset ∷ []
  pub longest_path : go DrPause IrPause
      ≡ DrExit2 ∷ DrUpdate ∷ DrSelect ∷ IrSelect ∷ IrCapture ∷ IrExit1 ∷ IrPause ∷ []
  pub path_that_stays : go Reset Reset ≡ Reset ∷ []
  -- bytes of the protocol
  pub written : decode 0x36 ≡ Some (Write true true false)
  pub lines : decode 0x74 ≡ Some (Lines true false)
  pub answers : map read_answer (47 ∷ 48 ∷ 49 ∷ 50 ∷ []) ≡ None ∷ Some false ∷ Some true ∷ None ∷ []
  pub answers_told : map answer (false ∷ true ∷ []) ≡ codes "01"
  pub reading : map encode (cycle_messages (record { tms = false; tdi = true; read = true })) ≡ codes "1R5"
  pub silent : map encode (cycle_messages (record { tms = true; tdi = false; read = false })) ≡ codes "26"
  -- hexadecimal digits
  pub three_digits : HasValue (codes "123") 12 0x123
  pub digits_with_gaps : HasValue (codes "1 2" ++ 13 ∷ 10 ∷ codes "3") 12 0x123
  pub high_zero : HasValue (codes "0F") 4 0xF
  pub no_digits : HasValue [] 5 0
  pub gaps_alone : HasValue (32 ∷ 9 ∷ 10 ∷ 11 ∷ 12 ∷ 13 ∷ []) 5 0
  pub in_any_case : HasValue (codes "aBcD") 16 0xABCD
  pub few_digits : HasValue (codes "E") 13 0xE
  pub many_zeros : HasValue (codes "00000001") 1 1
  pub no_length : HasValue (codes "000") 0 0
  pub low_digits : HasValue (codes "06") 5 6
  pub wide : HasNone (codes "1F") 4 TooWide
  pub wide_for_one : HasNone (codes "2") 1 TooWide
  pub wide_for_none : HasNone (codes "1") 0 TooWide
  pub bad_digit : HasNone (codes "0G") 4 (BadDigit 1)
  pub bad_before_wide : HasNone (codes "FF FG H") 4 (BadDigit 4)
  pub beyond : map (λ n. has_one_beyond n (codes "10 00")) (12 ∷ 13 ∷ 18446744073709551615 ∷ [])
      ≡ true ∷ false ∷ false ∷ []
  -- the first row that has an opcode; all ones is BYPASS, whatever row has it
  pub plain : map (λ code. named_instruction plain_rows (bits 4 code)) (1 ∷ 2 ∷ 15 ∷ 4 ∷ 8 ∷ [])
      ≡ Some (codes "CLAMP") ∷ Some (codes "HIGHZ") ∷ Some (codes "BYPASS") ∷ None ∷ None ∷ []
  pub with_x : map (λ code. named_instruction rows_with_x (bits 4 code)) (5 ∷ 1 ∷ 8 ∷ 12 ∷ 3 ∷ 14 ∷ 9 ∷ [])
      ≡ Some (codes "CLAMP") ∷ Some (codes "HIGHZ") ∷ Some (codes "HIGHZ") ∷ Some (codes "HIGHZ")
      ∷ Some (codes "EXTEST") ∷ Some (codes "PRELOAD") ∷ None ∷ []
  pub long : map (λ code. named_instruction long_rows (bits 130 code))
      ((1 + 2 ^ 64) ∷ (1 + 2 ^ 129) ∷ 1 ∷ (1 + 2 ^ 64 + 2 ^ 129) ∷ (2 ^ 64) ∷ [])
      ≡ Some (codes "CLAMP") ∷ Some (codes "HIGHZ") ∷ Some (codes "EXTEST") ∷ None ∷ None ∷ []
