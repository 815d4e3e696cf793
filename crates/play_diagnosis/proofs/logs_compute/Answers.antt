use Rattle.std.proofs.Common.{◌≡◌, true, Some, refl, arith}
use Rattle.std.proofs.lemmas.Fmt.{decimal_digit}
use Rattle.jt_tap.specs.declared.State.{State}
use Rattle.jt_tap.specs.declared.State.TheVariants.{Reset, Idle, DrSelect, DrCapture, DrShift, DrExit1, DrPause}
use Rattle.jt_tap.specs.declared.State.TheVariants.{DrExit2, DrUpdate, IrSelect, IrCapture, IrShift, IrExit1, IrPause}
use Rattle.jt_tap.specs.declared.State.TheVariants.{IrExit2, IrUpdate}
use Rattle.jt_tap.specs.Words.{word}
use Rattle.pin_nets.specs.declared.Level.{Level}
use Rattle.pin_nets.specs.declared.Level.TheVariants.{Zero, One, Contend, Float}
use Rattle.output_words.specs.Levels.{level_word}
use Rattle.scan_vectors.specs.declared.part.Part.{Part}
use Rattle.scan_vectors.specs.declared.part.Part.TheVariants.{Header, Data, Trailer}
use Rattle.play_model.specs.Endings.{part_word}
use Rattle.play_diagnosis.specs.LogLines.{is_level, is_state, part}
use Rattle.play_diagnosis.proofs.logs_compute.Goals as goal

states : (s : State) → is_state (word s) ≡ true
states Reset = refl
states Idle = refl
states DrSelect = refl
states DrCapture = refl
states DrShift = refl
states DrExit1 = refl
states DrPause = refl
states DrExit2 = refl
states DrUpdate = refl
states IrSelect = refl
states IrCapture = refl
states IrShift = refl
states IrExit1 = refl
states IrPause = refl
states IrExit2 = refl
states IrUpdate = refl

levels : (l : Level) → is_level (level_word l) ≡ true
levels Zero = refl
levels One = refl
levels Contend = refl
levels Float = refl

parts : (p : Part) → part (part_word p) ≡ Some p
parts Header = refl
parts Data = refl
parts Trailer = refl

pub returns : goal.returns
returns c = record {
  states = states;
  levels = levels;
  parts = parts;
  pass = refl;
  carriage_return = refl;
  fails = refl;
  a_zero_first = refl;
  failures = refl;
  lost = refl;
  a_bad_answer = refl;
  a_device = refl;
  a_net = refl;
  nothing = refl;
  blanks = refl;
  passes = refl;
  first = refl;
  all = refl;
  cut_off = refl;
  another_number = refl;
  two_verdicts = refl;
  no_such_statement = refl;
  no_such_bit = refl;
  no_verdict = refl;
  explained = rw (decimal_digit 7 (omega arith)) refl;
  refused = rw (decimal_digit 9 (omega arith)) refl;
  without_a_line = refl;
  every_way = refl;
  some_ways = refl;
  no_way = refl;
  none = refl;
}
