-- Refused statements with the token at fault, by its offset.
use Rattle.std.specs.Prelude.{◌≡◌, ℕ, List, codes, Option, Some, None}
use Rattle.svf_words.specs.declared.fault.Code.{Code}
use Rattle.svf_words.specs.declared.fault.Code.TheVariants as code
use Rattle.refusal_places.specs.TokenFaults.{token_at_fault}

-- the first statement of a text has this refusal by the token at this place
abbrev pub At : List ℕ → Code → Option ℕ → Type 0
At text c start = token_at_fault text (record { statement = 1; code = c }) ≡ start

-- S4: the first token with which no statement of the command goes on
pub record MisfitRows : Type 0 where
  pub field_twice : At (codes "SDR 4 TDI (1) TDI (1);") code.BadForm (Some 14)
  pub no_length : At (codes "SDR TDI (1);") code.BadForm (Some 4)
  pub bracket_twice : At (codes "SDR 4 TDI ((1));") code.BadForm (Some 11)
  pub no_bracket : At (codes "SDR 4 TDI 1;") code.BadForm (Some 10)
  pub never_closed : At (codes "SDR 4 TDI (1;") code.BadForm (Some 12)
  pub no_state : At (codes "STATE;") code.BadForm (Some 5)
  pub other_state : At (codes "STATE IDLE FOO IDLE;") code.BadForm (Some 11)
  pub two_states : At (codes "ENDDR IDLE IDLE;") code.BadForm (Some 11)
  pub no_unit : At (codes "FREQUENCY 1E6;") code.BadForm (Some 13)
  pub other_unit : At (codes "FREQUENCY 1 MHZ;") code.BadForm (Some 12)
  pub two_counts : At (codes "RUNTEST 5 TCK 2 TCK;") code.BadForm (Some 16)
  pub time_first : At (codes "RUNTEST 5 SEC 2 TCK;") code.BadForm (Some 14)
  pub maximum_alone : At (codes "RUNTEST 5 TCK MAXIMUM 1 SEC;") code.BadForm (Some 14)
  pub neither : At (codes "RUNTEST IDLE;") code.BadForm (Some 12)
  pub no_end_state : At (codes "RUNTEST 5 TCK ENDSTATE;") code.BadForm (Some 22)
  pub no_word : At (codes "TRST HIGH;") code.BadForm (Some 5)

-- the others: the first token that has the refusal
pub record OwnRows : Type 0 where
  pub bad_digit : At (codes "SDR 8 TDI (0 0G);") code.BadNumber (Some 13)
  pub bad_length : At (codes "SDR 1E1 TDI (0);") code.BadNumber (Some 4)
  pub bad_count : At (codes "RUNTEST 1E TCK;") code.BadNumber (Some 8)
  pub bad_time : At (codes "RUNTEST IDLE 1E SEC;") code.BadNumber (Some 13)
  pub too_wide : At (codes "SDR 4 TDI (1F);") code.TooWide (Some 11)
  pub highest_run : At (codes "SDR 4 TDI (0 0 1 F);") code.TooWide (Some 15)
  pub second_field : At (codes "SDR 4 TDI (F) MASK (10);") code.TooWide (Some 20)
  pub unstable_last : At (codes "STATE DRSELECT DRCAPTURE;") code.BadState (Some 15)
  pub unstable_end : At (codes "RUNTEST 5 TCK ENDSTATE DRSHIFT;") code.BadState (Some 23)
  pub gap : At (codes "STATE IDLE DRPAUSE IDLE;") code.BadPath (Some 11)
  pub gap_before : At (codes "STATE DRSELECT IRSELECT;") code.BadPath (Some 6)
  pub no_bits : At (codes "SDR 0;") code.EmptyScan (Some 4)
  pub system_clock : At (codes "RUNTEST 5 SCK;") code.Unsupported (Some 10)
  pub port : At (codes "PIO (HL);") code.Unsupported None
  pub long_scan : At (codes "SDR 1048577 TDI (0);") code.TooLarge (Some 4)
  pub no_field : At (codes "SDR 4;") code.MissingTdi None
  pub whole_text : token_at_fault (codes "SDR 0;") (record { statement = 0; code = code.TooLarge }) ≡ None
  pub second_statement : token_at_fault (codes "SDR 0; ;STATE DRSHIFT;")
      (record { statement = 2; code = code.BadState }) ≡ Some 14
