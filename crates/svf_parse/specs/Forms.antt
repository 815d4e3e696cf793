-- The forms of the statements, and which of them a command's words are.
use Rattle.std.specs.Prelude.{◌&&◌, if◌then◌else◌, List, [], ◌∷◌, codes, Option, Some, None, option_map}
use Rattle.jt_tap.specs.declared.State.{State}
use Rattle.svf_words.specs.declared.keywords.TrstWord.{TrstWord}
use Rattle.svf_words.specs.declared.keywords.Which.{Which}
use Rattle.svf_words.specs.declared.keywords.Command.{Command}
use Rattle.svf_words.specs.declared.keywords.Command.TheVariants as command
use Rattle.svf_words.specs.Words.{Word, reads, is_number}
use Rattle.svf_words.specs.Keywords.{state_of, trst_of}
use Rattle.svf_parse.specs.Fields.{Fields, no_fields, cut_at_close, fields_say}
use Rattle.svf_parse.specs.RunTests.{RunTest, run_test_of}

-- a statement as it is written: each number as its word, with point and exponent, and each field as its digits
pub data Form : Type 0 where
  end_dr_form : State → Form
  end_ir_form : State → Form
  frequency_form : Option Word → Form
  scan_form : Which → Word → Fields → Form
  run_test_form : RunTest → Form
  states_form : List State → Form
  trst_form : TrstWord → Form
  port_form : Form

-- one state
unfoldable pub one_state : List Word → Option State
one_state [] = None
one_state (w ∷ []) = state_of w
one_state (w ∷ x ∷ ws) = None

-- one word of TRST
unfoldable pub one_trst : List Word → Option TrstWord
one_trst [] = None
one_trst (w ∷ []) = trst_of w
one_trst (w ∷ x ∷ ws) = None

abbrev pub with_state : Option State → Option (List State) → Option (List State)
with_state (Some s) (Some ss) = Some (s ∷ ss)
with_state (Some s) None = None
with_state None ss = None

-- each word is a state
unfoldable pub each_state : List Word → Option (List State)
each_state [] = Some []
each_state (w ∷ ws) = with_state (state_of w) (each_state ws)

unfoldable pub some_states : List Word → Option (List State)
some_states [] = None
some_states (w ∷ ws) = each_state (w ∷ ws)

-- [number HZ]
unfoldable pub hertz : List Word → Option (Option Word)
hertz [] = Some None
hertz (n ∷ []) = None
hertz (n ∷ u ∷ []) = if is_number n && reads u (codes "HZ") then Some (Some n) else None
hertz (n ∷ u ∷ x ∷ ws) = None

-- length {field}
unfoldable pub scan_of : Which → List Word → Option Form
scan_of which [] = None
scan_of which (n ∷ ws) = if is_number n then option_map (scan_form which n) (fields_say no_fields (cut_at_close ws))
    else None

-- the form of the words after a command
abbrev pub form_of : Command → List Word → Option Form
form_of command.EndDr ws = option_map end_dr_form (one_state ws)
form_of command.EndIr ws = option_map end_ir_form (one_state ws)
form_of command.Frequency ws = option_map frequency_form (hertz ws)
form_of (command.Scan which) ws = scan_of which ws
form_of command.RunTest ws = option_map run_test_form (run_test_of ws)
form_of command.State ws = option_map states_form (some_states ws)
form_of command.Trst ws = option_map trst_form (one_trst ws)
form_of command.Pio ws = Some port_form
form_of command.PioMap ws = Some port_form
