-- What the code's values stand for.
use Rattle.std.specs.Prelude.{⊤}
use Rattle.std.specs.Prelude.{◌≡◌, ℕ, ◌+◌, List, length, map, slice_get, string_bytes, Option}
use Rattle.std.specs.Prelude.{Some, None, Result, Ok, Err}
use denote.Ref.{Bor}
use Rattle.bsdl_device.specs.Device as described
use Rattle.board_tables.specs.declared.fault.BoardFault.{BoardFault}
use Rattle.board_tables.specs.declared.fault.BoardFault.TheVariants as fault
use Rattle.board_file.specs.declared.wiring.Miswired.{Miswired}
use Rattle.board_file.specs.declared.wiring.Miswired.TheVariants as miswired
use Rattle.board_plan.specs.declared.plan.Plan.{Plan}
use Rattle.board_parts.specs.LibraryView.{stands_at}
use Rattle.toml.specs.Data.{Members}
use Rattle.std.specs.List.{filter_map}
use Rattle.board_tables.specs.Fields.{name_at}
use Rattle.board_loops.specs.Loops.{HasNoLoop}
use Rattle.board_loops.specs.Depending.{dependencies}
use Rattle.board_file.specs.Wiring.{wire_fault, Fault, BadField, UnknownFile, Bsdl, IsCoreLoop}
use Rattle.board_parts.specs.Parts.{member_in, net_of}
use Rattle.board_plan.specs.Planned.{Wiring}
use Rattle.board_plan.specs.View.{wiring}
use Rattle.board_file.specs.Wiring.{UnknownPin, PinTwice, TooLarge}

-- ---- refusals and boards

-- the fault that a refusal names, unless memory runs out
abbrev pub TellsFault : {F : Type 0} → (List ℕ → F → Type 0) → BoardFault F → Option Fault → Type 0
TellsFault refuses (fault.BadField k) o = o ≡ Some (BadField (string_bytes k))
TellsFault refuses (fault.UnknownFile s) o = o ≡ Some (UnknownFile (string_bytes s))
TellsFault refuses (fault.Bsdl f) o = (text : List ℕ) × (o ≡ Some (Bsdl text)) × refuses text f
TellsFault refuses (fault.UnknownPin s) o = o ≡ Some (UnknownPin (string_bytes s))
TellsFault refuses (fault.PinTwice s) o = o ≡ Some (PinTwice (string_bytes s))
TellsFault refuses fault.TooLarge o = o ≡ Some TooLarge
TellsFault refuses fault.NoMemory o = ⊤
TellsFault refuses fault.BadToml o = ⊥
TellsFault refuses (fault.CoreLoop s) o = ⊥

-- A judgement of keys passes where none is at fault, and else names the one that is, unless memory runs out.
abbrev pub JudgesKeys : {F : Type 0} → Result (Unit {0}) (BoardFault F) → Option (List ℕ) → Type 0
JudgesKeys (Ok x) o = o ≡ None
JudgesKeys (Err (fault.BadField k)) o = o ≡ Some (string_bytes k)
JudgesKeys (Err fault.NoMemory) o = ⊤
JudgesKeys (Err _) o = ⊥

abbrev pub IsUnknownFile : {F : Type 0} → List ℕ → BoardFault F → Type 0
IsUnknownFile name (fault.UnknownFile s) = string_bytes s ≡ name
IsUnknownFile name fault.NoMemory = ⊤
IsUnknownFile name _ = ⊥

-- the target at this place, unless memory runs out
abbrev pub IsLoopOf : {F : Type 0} → (place : ℕ) → (targets : List (List ℕ)) → BoardFault F → Type 0
IsLoopOf place targets (fault.CoreLoop s) = slice_get targets place ≡ Some (string_bytes s)
IsLoopOf place targets fault.NoMemory = ⊤
IsLoopOf place targets _ = ⊥

-- the text at a place, or how far the place is behind the last
abbrev pub CountsOn : Result (Bor (List ℕ)) ℕ → List (List ℕ) → (place : ℕ) → Type 0
CountsOn (Ok text) texts place = slice_get texts place ≡ Some text.now
CountsOn (Err left) texts place = place ≡ length texts + left

-- a judgement of pins
abbrev pub ChecksPins : {A : Type 0} → Result A Miswired → Option Fault → Type 0
ChecksPins (Ok x) o = o ≡ None
ChecksPins (Err (miswired.UnknownPin s)) o = o ≡ Some (UnknownPin s.now)
ChecksPins (Err (miswired.PinTwice s)) o = o ≡ Some (PinTwice s.now)
ChecksPins (Err miswired.TooLarge) o = o ≡ Some TooLarge
ChecksPins (Err miswired.Memory) o = ⊤

-- why pins are refused
abbrev pub IsMisfit : Miswired → Option Fault → Type 0
IsMisfit f o = ChecksPins {A = Unit {0}} (Err f) o

-- as a caller sees it
abbrev pub IsMiswired : {F : Type 0} → Miswired → BoardFault F → Type 0
IsMiswired f fault.NoMemory = ⊤
IsMiswired (miswired.UnknownPin t) (fault.UnknownPin s) = string_bytes s ≡ t.now
IsMiswired (miswired.PinTwice t) (fault.PinTwice s) = string_bytes s ≡ t.now
IsMiswired miswired.TooLarge fault.TooLarge = ⊤
IsMiswired _ _ = ⊥

-- The wiring, or the fault that the refusal names, unless memory runs out.
abbrev pub TellsWiring : {F : Type 0} → (List ℕ → F → Type 0) → Result Plan (BoardFault F) → Result Wiring Fault
    → Type 0
TellsWiring refuses (Ok p) said = said ≡ Ok (wiring p)
TellsWiring refuses (Err f) (Ok w) = TellsFault refuses f None
TellsWiring refuses (Err f) (Err e) = TellsFault refuses f (Some e)

-- Why a board is refused: the fault, or where there is none the first string on a loop, given the targets of all
-- strings; unless memory runs out.
abbrev pub TellsRefusal : {F : Type 0} → (List ℕ → F → Type 0) → BoardFault F → Result Wiring Fault → List (List ℕ)
    → Type 0
TellsRefusal refuses (fault.CoreLoop s) (Ok w) targets = IsCoreLoop w targets (string_bytes s)
TellsRefusal refuses f (Ok w) targets = TellsFault refuses f None
TellsRefusal refuses f (Err e) targets = TellsFault refuses f (Some e)

-- The board, on which no string is on a loop, or why it is refused.
abbrev pub TellsBoard : {F : Type 0} → (List ℕ → F → Type 0) → Result Plan (BoardFault F) → Result Wiring Fault
    → List (List ℕ) → Type 0
TellsBoard refuses (Ok p) said targets = (said ≡ Ok (wiring p)) × HasNoLoop (dependencies (wiring p))
TellsBoard refuses (Err f) said targets = TellsRefusal refuses f said targets

-- The board of these devices and nets, or the fault of their pins, unless memory runs out; given all names of files and
-- what is described in each.
abbrev pub PlansBoard : {F : Type 0} → Result Plan (BoardFault F) → List (List ℕ) → List (Option described.Device)
    → List Members → List Members → Type 0
PlansBoard {F} r files ds devices nets = by r (map name_at devices) (filter_map (stands_at files ds) devices)
  where
    by : Result Plan (BoardFault F) → List (List ℕ) → List described.Device → Type 0
    by (Ok p) names found =
        (wire_fault names found nets ≡ None)
        × (wiring p ≡ record {
          members = filter_map (member_in files ds) devices;
          nets = map (net_of names found) nets;
        })
    by (Err (fault.UnknownPin s)) names found = wire_fault names found nets ≡ Some (UnknownPin (string_bytes s))
    by (Err (fault.PinTwice s)) names found = wire_fault names found nets ≡ Some (PinTwice (string_bytes s))
    by (Err fault.TooLarge) names found = wire_fault names found nets ≡ Some TooLarge
    by (Err fault.NoMemory) names found = ⊤
    by (Err _) names found = ⊥
