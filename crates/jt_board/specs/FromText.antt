-- Boards that a board file and the descriptions it names make.
use Rattle.std.specs.Prelude.{◌≡◌, ℕ, List, Option, Some, None, MatchOption, Result, Ok, Err}
use Rattle.jt_limits.specs.declared.Limits.{Limits}
use Rattle.jt_limits.specs.Limits.{limits}
use Rattle.bsdl_device.specs.Device.{Device}
use Rattle.bsdl.specs.Judging.{text_says, text_says_within}
use Rattle.bsdl.specs.View as reading
use Rattle.bsdl.specs.declared.fault.BsdlFault.{BsdlFault}
use Rattle.board_loops.specs.Loops.{HasNoLoop}
use Rattle.board_loops.specs.Depending.{dependencies}
use Rattle.board_file.specs.View.{TellsRefusal}
use Rattle.board_file.specs.Wiring.{Fault}
use Rattle.board_plan.specs.Planned as planned
use Rattle.board_tables.specs.declared.fault.BoardFault.{BoardFault}
use Rattle.board_model.specs.Chain.{BoardState}
use Rattle.jt_board.specs.Made.{board_of}

-- the device that a text in BSDL says within limits, none where it is refused
abbrev pub said_device_within : Limits → List ℕ → Option Device
said_device_within l text = elim (text_says_within l text) [ Ok d ↦ Some d | Err r ↦ None ]

-- within those that stand
abbrev pub said_device : List ℕ → Option Device
said_device text = said_device_within limits text

-- why a text is refused; want of memory is no reason
abbrev pub IsWhyRefused : List ℕ → BsdlFault → Type 0
IsWhyRefused text fault = MatchOption (reading.refusal fault) ⊥ (λ r. text_says text ≡ Err r)

-- The board as it powers up, on which no string is on a loop, or why it is refused, given the targets of all strings;
-- unless memory runs out.
abbrev pub TellsMade : Result BoardState (BoardFault BsdlFault) → Result planned.Wiring Fault → List (List ℕ) → Type 0
TellsMade (Ok b) (Ok w) targets = (b ≡ board_of w) × HasNoLoop (dependencies w)
TellsMade (Ok b) (Err e) targets = ⊥
TellsMade (Err f) said targets = TellsRefusal IsWhyRefused f said targets
