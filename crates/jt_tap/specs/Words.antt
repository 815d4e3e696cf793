-- The words of the Serial Vector Format for the states of the controller.
use Rattle.std.specs.Prelude.{◌≡◌, ℕ, Bool, List, map, codes}
use Rattle.std.specs.Str.{bytes_eq}
use Rattle.std.specs.Char.{to_ascii_lowercase}
use Rattle.jt_tap.specs.declared.State.{State}
use Rattle.jt_tap.specs.declared.State.TheVariants.{Reset, Idle, DrSelect, DrCapture, DrShift, DrExit1, DrPause}
use Rattle.jt_tap.specs.declared.State.TheVariants.{DrExit2, DrUpdate, IrSelect, IrCapture, IrShift, IrExit1, IrPause}
use Rattle.jt_tap.specs.declared.State.TheVariants.{IrExit2, IrUpdate}

abbrev pub word : State → List ℕ
word Reset = codes "RESET"
word Idle = codes "IDLE"
word DrSelect = codes "DRSELECT"
word DrCapture = codes "DRCAPTURE"
word DrShift = codes "DRSHIFT"
word DrExit1 = codes "DREXIT1"
word DrPause = codes "DRPAUSE"
word DrExit2 = codes "DREXIT2"
word DrUpdate = codes "DRUPDATE"
word IrSelect = codes "IRSELECT"
word IrCapture = codes "IRCAPTURE"
word IrShift = codes "IRSHIFT"
word IrExit1 = codes "IREXIT1"
word IrPause = codes "IRPAUSE"
word IrExit2 = codes "IREXIT2"
word IrUpdate = codes "IRUPDATE"

-- A text is a state's word, its letters in either case.
abbrev pub IsWordOf : State → List ℕ → Type 0
IsWordOf s text = map to_ascii_lowercase text ≡ map to_ascii_lowercase (word s)

-- The same, as a test.
abbrev pub reads : List ℕ → State → Bool
reads text s = bytes_eq (map to_ascii_lowercase text) (map to_ascii_lowercase (word s))
