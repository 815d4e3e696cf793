-- What one play of a program tells of a board's faults.
use Rattle.std.specs.Prelude.{⊤, ◌≡◌, ◌<◌, ◌≤◌, Bool, true, false, List, [], ◌∷◌, ◌++◌, flat_map, length, map}
use Rattle.std.specs.Prelude.{Option, Some, None}
use Rattle.std.specs.Global.{Vec}
use Rattle.std.specs.List.{AllByRecursion}
use Rattle.scan_vectors.specs.declared.failures.Mismatch.{Mismatch}
use Rattle.svf_programs.specs.Steps.{Program}
use Rattle.pin_nets.specs.declared.Pin.{Pin}
use Rattle.pin_nets.specs.Wired.{Net}
use Rattle.board_plan.specs.Planned.{Wiring}
use Rattle.play_model.specs.declared.ending.Ending.{Ending}
use Rattle.play_model.specs.declared.ending.Ending.TheVariants.{Pass}
use Rattle.play_model.specs.Play.{play}
use Rattle.play_direct.specs.ToTheEnd.{all_failures}
use Rattle.board_faults.specs.declared.kinds.Fault.{Fault}
use Rattle.board_faults.specs.declared.kinds.Way.{Way}
use Rattle.board_faults.specs.Faults.{IsFaultOf, ways}
use Rattle.board_faults.specs.Judging.{HasMeaning, HasNoStrings, ending_with, wiring_with}
use Rattle.board_faults.specs.Listing.{AreNext}
use Rattle.board_faults.specs.Made.{board_of}
use Rattle.fault_events.specs.declared.nets.NetCapture.{NetCapture}
use Rattle.fault_events.specs.Blocks.{IsBlock, noted_in}
use Rattle.fault_events.specs.declared.captures.Captures.{Captures}
use Rattle.fault_events.specs.Captures.{AreLeft, Noted, captures, steps_left}
use Rattle.fault_events.specs.Endings.{and_then, ending_noted}
use Rattle.fault_serving.specs.Firsts.{HasOther}
use Rattle.fault_events.specs.Nets.{seen, with_nets_noted}
use Rattle.fault_serving.specs.declared.planing.NoteWords.{NoteWords}
use Rattle.fault_serving.specs.declared.serving.Chunk.{Chunk}
use Rattle.fault_serving.specs.declared.serving.Planes.{Planes}
use Rattle.fault_serving.specs.declared.serving.Serving.{Serving}
use Rattle.fault_serving.specs.declared.serving.Serving.TheVariants.{Nothing, Whole, Blocks}
use Rattle.fault_serving.specs.declared.serving.Telling.{Telling}
use Rattle.fault_serving.specs.Planes.{AreBlocksOf, AreNetWords}

-- one play tells of a board's faults: the board has no strings, and the program passes on it
pub record Serves (program : Program) (w : Wiring) : Type 0 where
  pub plain : HasNoStrings w
  pub passes : (play program (board_of w)).ending ≡ Pass

-- a block of captures, and the same of its nets by words
pub record IsTelling (nets : List Net) (t : Telling) : Type 0 where
  pub block : IsBlock nets t.block
  pub words : AreNetWords (map seen t.block.nets.items) t.words.items

-- these are what is noted of nets at the first captures of a play
pub record AreFirst (program : Program) (w : Wiring) (cs : List NetCapture) : Type 0 where
  pub first : List Noted
  pub rest : List Noted
  pub are : captures program w ≡ first ++ rest
  pub nets : map seen cs ≡ map (with_nets_noted w.nets) first

-- These captures begin with some at which this is noted of nets, and the others are left; they are none where nothing
-- is.
pub record BeginsNoted (nets : List Net) (cs : List Noted) (pins : List Pin) (old : Captures) (noted : List NetCapture)
    (new : Captures) : Type 0 where
  pub first : List Noted
  pub rest : List Noted
  pub are : cs ≡ first ++ rest
  pub by_net : map seen noted ≡ map (with_nets_noted nets) first
  pub leaves : AreLeft rest pins new
  pub over : noted ≡ [] → rest ≡ []
  pub fewer : (noted ≡ [] → ⊥) → length (steps_left new) < length (steps_left old)

-- what is noted of nets at the first captures by words, and whether these are all of them
pub record ArePlanes (program : Program) (w : Wiring) (p : Planes) : Type 0 where
  pub first : List Noted
  pub rest : List Noted
  pub are : captures program w ≡ first ++ rest
  pub words : AreBlocksOf w.nets first (map (λ b. b.items) p.blocks.items)
  pub over : p.whole ≡ true → rest ≡ []

-- what one play tells, if it tells anything: by a block that has all its captures, or block by block
abbrev pub MayServe : Program → Wiring → Serving → Type 0
MayServe program w Nothing = ⊤
MayServe program w (Whole t) =
    Serves program w × IsTelling w.nets t × (noted_in t.block ≡ captures program w) × (length (noted_in t.block) ≤ 64)
MayServe program w (Blocks f) = Serves program w × AreFirst program w f.captures.items × ArePlanes program w f.planes

-- what is noted of nets at the first captures of a play, as far as it is kept
abbrev pub kept_captures : Serving → List NetCapture
kept_captures Nothing = []
kept_captures (Whole t) = t.block.nets.items
kept_captures (Blocks f) = f.captures.items

-- and by words
abbrev pub first_blocks : Serving → List (Vec NoteWords)
first_blocks Nothing = []
first_blocks (Whole t) = t.words ∷ []
first_blocks (Blocks f) = f.planes.blocks.items

-- words have all captures of a play
abbrev pub is_whole : Serving → Bool
is_whole Nothing = false
is_whole (Whole t) = true
is_whole (Blocks f) = f.planes.whole

-- ---- how a program ends in ways

abbrev pub endings_by : List Net → List Noted → List Way → List (Option Ending)
endings_by nets cs ways = map (λ way. ending_noted nets way cs) ways

abbrev pub is_open : Option Ending → Bool
is_open (Some Pass) = true
is_open _ = false

-- by some captures more
abbrev pub judged_on : List Net → List Noted → List Way → List (Option Ending) → List (Option Ending)
judged_on nets more (way ∷ ways) (o ∷ os) = and_then o (ending_noted nets way more) ∷ judged_on nets more ways os
judged_on nets more _ os = os

-- How a program that passes on the board itself ends where a fault shows in a way, if that is told.
abbrev pub IsToldOf : Program → Wiring → Way → Option Ending → Type 0
IsToldOf program w way None = ⊤
IsToldOf program w way (Some ending) =
    HasMeaning w way × (ending_with program w way ≡ ending) × ((play program (board_of w)).ending ≡ Pass)

-- of ways, one after another; of those behind the last that is told nothing is
abbrev pub AreTold : Program → Wiring → List Way → List (Option Ending) → Type 0
AreTold program w [] os = ⊤
AreTold program w (way ∷ ways) [] = ⊤
AreTold program w (way ∷ ways) (o ∷ os) = IsToldOf program w way o × AreTold program w ways os

-- ---- some faults at a time

-- the next of those that are left, and the others, with what is told of their ways
pub record IsChunk (program : Program) (w : Wiring) (left : List Fault) (c : Chunk) (rest : List Fault) : Type 0 where
  pub next : AreNext left c.faults.items rest
  pub theirs : AllByRecursion (IsFaultOf w.nets) c.faults.items
  pub others : AllByRecursion (IsFaultOf w.nets) rest
  pub told : AreTold program w (flat_map ways c.faults.items) c.endings.items

-- ---- plays to the end

-- one of the bits that the play to the end lists where a fault shows in a way is none of these
abbrev pub ListsOther : Program → Wiring → Way → List Mismatch → Type 0
ListsOther program w way bits = HasOther bits (all_failures program (board_of (wiring_with way w)))
