-- Which cells capture what their port sees and which their core's bit, as masks, and a capture by them.
use Rattle.std.specs.Prelude.{⊤}
use Rattle.std.specs.Prelude.{◌≡◌, ◌<◌, Bool, true, false, ℕ, List, ◌∷◌, map, length, Option, Some, None}
use Rattle.std.specs.Prelude.{if◌then◌else◌}
use Rattle.jt_bits.specs.Packed.{has_bit}
use Rattle.jt_bits.specs.Words.{bit_of}
use Rattle.bsdl_device.specs.declared.Cell.{Cell}
use Rattle.bsdl_device.specs.declared.Function.{Function}
use Rattle.bsdl_device.specs.declared.Function.TheVariants.{Input, Clock, ObserveOnly, Bidir, Internal}

-- an input, clock, observe-only or bidirectional cell with a port captures what the port sees
abbrev pub is_sighted : Option ℕ → Function → Bool
is_sighted (Some p) Input = true
is_sighted (Some p) Clock = true
is_sighted (Some p) ObserveOnly = true
is_sighted (Some p) Bidir = true
is_sighted port _ = false

-- the port whose sight a cell captures
abbrev pub sighted_port : Option ℕ → Function → Option ℕ
sighted_port port function = if is_sighted port function then port else None

-- each cell that captures what its port sees was told that
abbrev pub SeesSighted : (ℕ → Bool) → List Cell → List Bool → Type 0
SeesSighted sees (c ∷ cs) (s ∷ seen) =
    (is_sighted c.port c.function ≡ true → (p : ℕ) → c.port ≡ Some p → s ≡ sees p) × SeesSighted sees cs seen
SeesSighted sees _ _ = ⊤

-- an internal cell captures its core bit in every mode
abbrev pub is_inner : Function → Bool
is_inner Internal = true
is_inner _ = false

abbrev pub sighted_cells : List Cell → List Bool
sighted_cells cells = map (λ (c : Cell). is_sighted c.port c.function) cells

abbrev pub inner_cells : List Cell → List Bool
inner_cells cells = map (λ (c : Cell). is_inner c.function) cells

-- the masks of these cells
pub record AreMasks (cells : List Cell) (sees takes_core : List Bool) : Type 0 where
  pub sighted : sees ≡ sighted_cells cells
  pub inner : takes_core ≡ inner_cells cells

-- a word's lowest bits are these
abbrev pub IsWordOf : List Bool → ℕ → Type 0
IsWordOf bits word = (j : ℕ) → j < length bits → has_bit word j ≡ bit_of bits j

-- what a cell captures by its bits in the masks; `held` is what an output or control captures
abbrev pub chosen : (sighted inner seen held core : Bool) → Bool
chosen true inner seen held core = seen
chosen false true seen held core = core
chosen false false seen held core = held

-- each bit is what its cell captures
pub record CapturesEach (sighted inner seen held core old new : List Bool) : Type 0 where
  pub long : length new ≡ length old
  pub each : (i : ℕ) → i < length old
      → bit_of new i ≡ chosen (bit_of sighted i) (bit_of inner i) (bit_of seen i) (bit_of held i) (bit_of core i)
