-- Cores that follow: which net depends on which, what a circle is, and what the core bits in force are where there is
-- none.
use Rattle.std.specs.Prelude.{⊤}
use Rattle.std.specs.Prelude.{◌≡◌, ◌<◌, ◌≤◌, Bool, true, false, ◌&&◌, ◌||◌, ◌⊎◌, ℕ, zero, suc, ◌==◌, List, [], ◌∷◌}
use Rattle.std.specs.Prelude.{length, slice_get, set, find, Option, Some, None, if◌then◌else◌}
use Rattle.std.specs.List.{AllByRecursion}
use Rattle.jt_bits.specs.Words.{bit_of}
use Rattle.bsdl_device.specs.Driving.{drives}
use Rattle.bsdl_device.specs.declared.Cell.{Cell}
use Rattle.bsdl_device.specs.declared.Control3.{Control3}
use Rattle.boundary.specs.Cells.{driver_from, is_port}
use Rattle.pin_nets.specs.declared.Pin.{Pin}
use Rattle.pin_nets.specs.Wired.{Net, joins}
use Rattle.pin_nets.specs.declared.Follow.{Follow}
use Rattle.board_model.specs.Cells.{Member, drive}
use Rattle.board_model.specs.Nets.{given_by, in_force, level, level_under, net_of, one_round, sees_under, told}

-- whether it is one of these
abbrev pub IsAmong : {X : Type 0} → X → List X → Type 0
IsAmong x [] = ⊥
IsAmong x (y ∷ ys) = (y ≡ x) ⊎ IsAmong x ys

abbrev pub is_control : (bit : ℕ) → Option Control3 → Bool
is_control bit (Some t) = t.cell == bit
is_control bit None = false

-- whether what port bit p drives takes this core bit, as its driving cell's own or as that cell's control's, from cell
-- k on
abbrev pub takes_from : (p bit k : ℕ) → List Cell → Bool
takes_from p bit k [] = false
takes_from p bit k (c ∷ cs) =
    if drives c.function && is_port p c.port then (k == bit) || is_control bit c.control
    else takes_from p bit (suc k) cs

-- A net depends, in one step, on the net of a string's source if one of its pins takes the string's core bit, whatever
-- the instructions are.
pub record DependsOn (nets : List Net) (ms : List Member) (net source : Net) : Type 0 where
  pub pin : Pin
  pub member : Member
  pub string : Follow
  pub on_net : IsAmong pin net.pins
  pub stands : slice_get ms pin.device ≡ Some member
  pub follows : IsAmong string member.follows
  pub takes : takes_from pin.port string.cell 0 member.device.cells ≡ true
  pub its_net : source ≡ net_of nets pin.device string.source

-- from one net to another in so many steps of a relation
abbrev pub InSteps : (Net → Net → Type 0) → ℕ → Net → Net → Type 0
InSteps R zero net source = net ≡ source
InSteps R (suc n) net source = (next : Net) × R net next × InSteps R n next source

abbrev pub DependsIn : List Net → List Member → ℕ → Net → Net → Type 0
DependsIn nets ms = InSteps (DependsOn nets ms)

-- No net depends on itself.
abbrev pub HasNoCircle : List Net → List Member → Type 0
HasNoCircle nets ms = (net : Net) (n : ℕ) → DependsIn nets ms (suc n) net net → ⊥

-- One device held with other core bits: each bit with a string is what the string's source sees, or its opposite, and
-- every other bit is its constant.
pub record StringsHold (sight : ℕ → Bool) (m held : Member) : Type 0 where
  pub same : held ≡ record m { core = held.core }
  pub long : length held.core ≡ length m.core
  pub followed : (f : Follow) → IsAmong f m.follows → bit_of held.core f.cell ≡ given_by f (sight f.source)
  pub constant : (bit : ℕ) → ((f : Follow) → IsAmong f m.follows → f.cell ≡ bit → ⊥)
      → bit_of held.core bit ≡ bit_of m.core bit

-- the same of all devices, from device k on
abbrev pub StringsHoldFrom : (ℕ → ℕ → Bool) → ℕ → (ms held : List Member) → Type 0
StringsHoldFrom sight k [] [] = ⊤
StringsHoldFrom sight k (m ∷ ms) (h ∷ held) = StringsHold (sight k) m h × StringsHoldFrom sight (suc k) ms held
StringsHoldFrom sight k _ _ = ⊥

-- Every string holds under the core bits held, where each port bit sees what it sees under these same bits.
abbrev pub EveryStringHolds : List Net → List Member → (held : List Member) → Type 0
EveryStringHolds nets ms held = StringsHoldFrom (sees_under nets held) 0 ms held

-- no bit has a second string
abbrev pub HasOneEach : List Follow → Type 0
HasOneEach [] = ⊤
HasOneEach (f ∷ fs) = ((g : Follow) → IsAmong g fs → g.cell ≡ f.cell → ⊥) × HasOneEach fs

-- a device's strings: one for a bit, each for a bit that is there
pub record AreFit (m : Member) : Type 0 where
  pub one : HasOneEach m.follows
  pub there : (f : Follow) → IsAmong f m.follows → f.cell < length m.core

-- the law: without strings the constants are in force, and a device is told them
pub record ConstantsWithoutStrings (nets : List Net) (ms : List Member) : Type 0 where
  pub cores : in_force nets ms ≡ ms
  pub levels : (net : Net) → level nets ms net ≡ level_under ms net
  pub told : (place : ℕ) (m : Member) → slice_get ms place ≡ Some m
      → told nets ms place ≡ record { sight = sees_under nets ms place; core = m.core }

abbrev pub ConstantsInForce : Type 0
ConstantsInForce = (nets : List Net) (ms : List Member) → AllByRecursion (λ m. m.follows ≡ []) ms
    → ConstantsWithoutStrings nets ms

-- the law: on a board without circles one round more changes nothing
abbrev pub OneRoundMoreChangesNothing : Type 0
OneRoundMoreChangesNothing = (nets : List Net) (ms : List Member) → HasNoCircle nets ms
    → one_round nets ms (in_force nets ms) ≡ in_force nets ms

-- the law: on a board without circles every string holds under the bits in force ..
abbrev pub EveryStringHoldsInForce : Type 0
EveryStringHoldsInForce = (nets : List Net) (ms : List Member) → HasNoCircle nets ms → AllByRecursion (λ m. AreFit m) ms
    → EveryStringHolds nets ms (in_force nets ms)

-- .. and under no others
abbrev pub OnlyInForce : Type 0
OnlyInForce = (nets : List Net) (ms held : List Member) → HasNoCircle nets ms → EveryStringHolds nets ms held
    → held ≡ in_force nets ms

-- A string of a device on the board, from the net of its target, the port bit that its cell drives, to the net of its
-- source.
pub record StringBetween (nets : List Net) (ms : List Member) (net source : Net) : Type 0 where
  pub place : ℕ
  pub member : Member
  pub string : Follow
  pub target : ℕ
  pub stands : slice_get ms place ≡ Some member
  pub follows : IsAmong string member.follows
  pub drives : driver_from target 0 member.device.cells ≡ Some string.cell
  pub target_net : net ≡ net_of nets place target
  pub source_net : source ≡ net_of nets place string.source

-- no net depends on itself by targets and sources alone, as a board file names them
abbrev pub HasNoLoop : List Net → List Member → Type 0
HasNoLoop nets ms = (net : Net) (n : ℕ) → InSteps (StringBetween nets ms) (suc n) net net → ⊥

-- no string is for the control of another cell; an output2 cell may be its own
abbrev pub FollowsNoOtherControl : Member → Type 0
FollowsNoOtherControl m = (f : Follow) → IsAmong f m.follows → (k : ℕ) (c : Cell) → slice_get m.device.cells k ≡ Some c
    → is_control f.cell c.control ≡ true → k ≡ f.cell

-- a pin of a net is found there
abbrev pub AreFound : List Net → Type 0
AreFound nets = (net : Net) → IsAmong net nets → (pin : Pin) → IsAmong pin net.pins
    → find (joins pin.device pin.port) nets ≡ Some net

-- the law: where pins are on one net each and no string is for the control of another cell, that is no circle
abbrev pub NoLoopIsNoCircle : Type 0
NoLoopIsNoCircle = (nets : List Net) (ms : List Member) → AreFound nets
    → AllByRecursion (λ m. FollowsNoOtherControl m) ms → HasNoLoop nets ms → HasNoCircle nets ms

-- the law: a circle of targets and sources is a net that depends on itself
abbrev pub NoCircleIsNoLoop : Type 0
NoCircleIsNoLoop = (nets : List Net) (ms : List Member) → HasNoCircle nets ms → HasNoLoop nets ms

-- A string is on a circle where its source's net depends, in any number of steps, on its target's net.
pub record IsOnCircle (nets : List Net) (ms : List Member) (target source : Net) : Type 0 where
  pub string : StringBetween nets ms target source
  pub steps : ℕ
  pub back : InSteps (StringBetween nets ms) steps source target

-- the law: numbers of nets that every string lowers show that no net depends on itself
abbrev pub LoweredNumbersShowNoLoop : Type 0
LoweredNumbersShowNoLoop = (nets : List Net) (ms : List Member) (number : Net → ℕ)
    → ((target source : Net) → StringBetween nets ms target source → number source < number target)
    → HasNoLoop nets ms

-- the law: where no string raises a number, one that lowers it is on no circle
abbrev pub LoweringStringsAreOnNoCircle : Type 0
LoweringStringsAreOnNoCircle = (nets : List Net) (ms : List Member) (number : Net → ℕ)
    → ((target source : Net) → StringBetween nets ms target source → number source ≤ number target)
    → (target source : Net) → number source < number target → IsOnCircle nets ms target source → ⊥

-- a string of the device at a place
pub record Placed : Type 0 where
  pub device : ℕ
  pub string : Follow

-- one core bit set of the device at a place
abbrev pub with_core_bit : (place cell : ℕ) → Bool → List Member → List Member
with_core_bit place cell b [] = []
with_core_bit zero cell b (m ∷ ms) = record m { core = set m.core cell b } ∷ ms
with_core_bit (suc place) cell b (m ∷ ms) = m ∷ with_core_bit place cell b ms

-- a string put: its bit is what its source sees under the cores held, or its opposite
abbrev pub after_string : List Net → Placed → (held : List Member) → List Member
after_string nets s held =
    with_core_bit s.device s.string.cell (given_by s.string (sees_under nets held s.device s.string.source)) held

-- strings put one after another
abbrev pub after_strings : List Net → List Placed → (held : List Member) → List Member
after_strings nets [] held = held
after_strings nets (s ∷ ss) held = after_strings nets ss (after_string nets s held)

-- no pin of a net takes a string's core bit
abbrev pub IsFreeOf : List Member → Net → Placed → Type 0
IsFreeOf ms net s = (pin : Pin) → IsAmong pin net.pins → pin.device ≡ s.device → (m : Member)
    → slice_get ms pin.device ≡ Some m → takes_from pin.port s.string.cell 0 m.device.cells ≡ true → ⊥

-- it is a string of the board, for a bit that is there
pub record IsOfBoard (ms : List Member) (s : Placed) : Type 0 where
  pub member : Member
  pub stands : slice_get ms s.device ≡ Some member
  pub follows : IsAmong s.string member.follows
  pub there : s.string.cell < length member.core

-- Each string stands behind those that its source's net depends on: it and all after it leave its source's net, and
-- all after it its bit, as they are.
abbrev pub IsInOrder : List Net → List Member → List Placed → Type 0
IsInOrder nets ms [] = ⊤
IsInOrder nets ms (s ∷ ss) =
    IsOfBoard ms s
    × ((t : Placed) → IsAmong t (s ∷ ss) → IsFreeOf ms (net_of nets s.device s.string.source) t)
    × ((t : Placed) → IsAmong t ss → t.device ≡ s.device → t.string.cell ≡ s.string.cell → ⊥)
    × IsInOrder nets ms ss

-- every string of the board is one of these
abbrev pub AreAll : List Member → List Placed → Type 0
AreAll ms order = (place : ℕ) (m : Member) (f : Follow) → slice_get ms place ≡ Some m → IsAmong f m.follows
    → IsAmong (record { device = place; string = f }) order

-- each key at least the one before it
abbrev pub IsRising : (Placed → ℕ) → List Placed → Type 0
IsRising key [] = ⊤
IsRising key (s ∷ ss) = ((t : Placed) → IsAmong t ss → key s ≤ key t) × IsRising key ss

-- no two are for the same bit
abbrev pub AreSeparate : List Placed → Type 0
AreSeparate [] = ⊤
AreSeparate (s ∷ ss) =
    ((t : Placed) → IsAmong t ss → t.device ≡ s.device → t.string.cell ≡ s.string.cell → ⊥) × AreSeparate ss

-- Strings with numbers of nets and keys: each is of the board, its source's net has a number below its key, and the
-- board's nets whose pins take its bit have none below its key.
pub record AreNumbered (nets : List Net) (ms : List Member) (number : Net → ℕ) (key : Placed → ℕ) (order : List Placed)
    : Type 0 where
  pub of_board : (s : Placed) → IsAmong s order → IsOfBoard ms s
  pub above : (s : Placed) → IsAmong s order → number (net_of nets s.device s.string.source) < key s
  pub below : (s : Placed) → IsAmong s order → (device port : ℕ)
      → (IsFreeOf ms (net_of nets device port) s → ⊥) → key s ≤ number (net_of nets device port)

-- the law: by rising keys, such strings are in order
abbrev pub RisingStringsAreInOrder : Type 0
RisingStringsAreInOrder = (nets : List Net) (ms : List Member) (number : Net → ℕ) (key : Placed → ℕ)
    (order : List Placed) → AreNumbered nets ms number key order → IsRising key order → AreSeparate order
    → IsInOrder nets ms order

-- Strings with targets, each the port bit that its string's cell drives, and with numbers of nets that each lowers.
pub record AreNumberedByTargets (nets : List Net) (ms : List Member) (number : Net → ℕ) (target : Placed → ℕ)
    (order : List Placed) : Type 0 where
  pub of_board : (s : Placed) → IsAmong s order → IsOfBoard ms s
  pub drives : (s : Placed) → IsAmong s order → (m : Member) → slice_get ms s.device ≡ Some m
      → driver_from (target s) 0 m.device.cells ≡ Some s.string.cell
  pub lowers : (s : Placed) → IsAmong s order
      → number (net_of nets s.device s.string.source) < number (net_of nets s.device (target s))

-- the law: by rising numbers of their targets' nets, such strings are in order
abbrev pub RisingTargetsAreInOrder : Type 0
RisingTargetsAreInOrder = (nets : List Net) (ms : List Member) (number : Net → ℕ) (target : Placed → ℕ)
    (order : List Placed) → AreFound nets → AllByRecursion (λ m. FollowsNoOtherControl m) ms
    → AreNumberedByTargets nets ms number target order
    → IsRising (λ s. number (net_of nets s.device (target s))) order → AreSeparate order → IsInOrder nets ms order

-- An order of work on a board without circles: all its strings, each behind those that its source's net depends on.
pub record IsOrderOf (nets : List Net) (ms : List Member) (order : List Placed) : Type 0 where
  pub free : HasNoCircle nets ms
  pub ordered : IsInOrder nets ms order
  pub all : AreAll ms order

-- the same devices in other registers
abbrev pub InOtherRegisters : (ms ns : List Member) → Type 0
InOtherRegisters [] [] = ⊤
InOtherRegisters (m ∷ ms) (n ∷ ns) = (n ≡ record m { registers = n.registers }) × InOtherRegisters ms ns
InOtherRegisters _ _ = ⊥

-- The board's devices held with other cores: every bit that no string is for is its constant.
pub record IsHeld (m held : Member) : Type 0 where
  pub same : held ≡ record m { core = held.core }
  pub long : length held.core ≡ length m.core
  pub constant : (bit : ℕ) → ((f : Follow) → IsAmong f m.follows → f.cell ≡ bit → ⊥)
      → bit_of held.core bit ≡ bit_of m.core bit

abbrev pub AreHeld : (ms held : List Member) → Type 0
AreHeld [] [] = ⊤
AreHeld (m ∷ ms) (h ∷ held) = IsHeld m h × AreHeld ms held
AreHeld _ _ = ⊥

-- the law: on a board without circles all strings put in such an order make the bits in force, whatever was held
abbrev pub StringsInOrderMakeTheBitsInForce : Type 0
StringsInOrderMakeTheBitsInForce = (nets : List Net) (ms held : List Member) (order : List Placed) → HasNoCircle nets ms
    → AreHeld ms held → IsInOrder nets ms order → AreAll ms order → after_strings nets order held ≡ in_force nets ms

-- Two states of a device's registers under which every pin drives the same, whatever the core bits are.
pub record DrivesAlike (m n : Member) : Type 0 where
  pub same : n ≡ record m { registers = n.registers }
  pub drives : (core : List Bool) (port : ℕ)
      → drive (record m { core = core }) port ≡ drive (record n { core = core }) port

abbrev pub AllDriveAlike : (ms ns : List Member) → Type 0
AllDriveAlike [] [] = ⊤
AllDriveAlike (m ∷ ms) (n ∷ ns) = DrivesAlike m n × AllDriveAlike ms ns
AllDriveAlike _ _ = ⊥

-- the same levels, and every device is told the same
pub record IsToldAlike (nets : List Net) (ms ns : List Member) : Type 0 where
  pub levels : (net : Net) → level nets ms net ≡ level nets ns net
  pub told : (place : ℕ) → told nets ms place ≡ told nets ns place

-- the law: what changes no pin's drive, as a capture or a shift, leaves levels and core bits in force
abbrev pub BitsInForceStay : Type 0
BitsInForceStay = (nets : List Net) (ms ns : List Member) → AllDriveAlike ms ns → IsToldAlike nets ms ns
