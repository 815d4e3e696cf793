-- A board with TCK low and every controller in one state, and one cycle from there.
use Rattle.std.proofs.Common.{◌≡◌, Bool, true, false, ℕ, suc, List, [], ◌∷◌, ◌++◌, refl, ap, ◌∙◌, map}
use Rattle.std.specs.Prelude.{unwrap_or, if◌then◌else◌, flat_map}
use Rattle.std.specs.List.{AllByRecursion}
use Rattle.jt_tap.specs.declared.State.{State}
use Rattle.jt_tap.specs.Controller.{next, work}
use Rattle.scan_registers.specs.Edges.{after_rise, after_fall, tdo_after}
use Rattle.board_model.specs.Cells.{Member, surroundings, Told, untold}
use Rattle.pin_nets.specs.Wired.{Net}
use Rattle.board_model.specs.Nets.{told}
use Rattle.bitbang_protocol.specs.declared.Message.{Message}
use Rattle.bitbang_protocol.specs.declared.Message.TheVariants.{Write, Ask}
use Rattle.bitbang_protocol.specs.declared.Cycle.{Cycle}
use Rattle.bitbang_protocol.specs.Protocol.{cycle_messages}
use Rattle.board_model.specs.Chain.{ChipState, BoardState, is_held, rise, fall, rise_all, tdi_before, members, hear, Heard}

-- a device after a falling edge in a state
abbrev pub lowered : State → Member → ChipState
lowered s m = record { member = m; state = s; tdo = tdo_after (work s) m.device m.registers }

abbrev pub low : State → (trst : Bool) → List Net → List Member → BoardState
low s trst nets ms = record { tck = false; trst = trst; nets = nets; chips = map (lowered s) ms }

-- no device is held by TRST
abbrev pub Free : Bool → List Member → Type 0
Free trst ms = AllByRecursion (λ m. is_held trst m ≡ false) ms

-- the TDI of what stands before these devices
abbrev pub given : State → Bool → List Member → Bool
given s tdi [] = tdi
given s tdi (m ∷ ms) = unwrap_or (tdo_after (work s) m.device m.registers) true

-- the devices after a rising edge in a state
abbrev pub risen_one : State → Bool → Told → Member → Member
risen_one s tdi about m = record m { registers = after_rise (work s) m.device (surroundings about m) tdi m.registers }

abbrev pub risen_all : State → Bool → (ℕ → Told) → ℕ → List Member → List Member
risen_all s tdi about k [] = []
risen_all s tdi about k (m ∷ ms) = risen_one s (given s tdi ms) (about k) m ∷ risen_all s tdi about (suc k) ms

abbrev pub fallen_one : State → Member → Member
fallen_one s m = record m { registers = after_fall (work s) m.device (surroundings untold m) m.registers }

-- the devices after one whole cycle
abbrev pub cycled : State → (tms tdi : Bool) → List Net → List Member → List Member
cycled s tms tdi nets ms = map (fallen_one (next s tms)) (risen_all s tdi (told nets ms) 0 ms)

pub members-lowered : (s : State) (ms : List Member) → members (map (lowered s) ms) ≡ ms
members-lowered s [] = refl
members-lowered s (m ∷ ms) = ap (λ r. m ∷ r) (members-lowered s ms)

given-lowered : (s : State) (tdi : Bool) (ms : List Member) → tdi_before tdi (map (lowered s) ms) ≡ given s tdi ms
given-lowered s tdi [] = refl
given-lowered s tdi (m ∷ ms) = refl

fall-rise : (s : State) (trst tms tdi : Bool) (about : Told) (m : Member) → is_held trst m ≡ false
    → fall (rise trst tms tdi about (lowered s m)) ≡ lowered (next s tms) (fallen_one (next s tms) (risen_one s tdi about m))
fall-rise s trst tms tdi about m free = rw free refl

pub fall-rise_all : (s : State) (trst tms tdi : Bool) (about : ℕ → Told) (k : ℕ) (ms : List Member) → Free trst ms
    → map fall (rise_all trst tms tdi about k (map (lowered s) ms))
    ≡ map (lowered (next s tms)) (map (fallen_one (next s tms)) (risen_all s tdi about k ms))
fall-rise_all s trst tms tdi about k [] free = refl
fall-rise_all s trst tms tdi about k (m ∷ ms) free =
    let head = ap (λ t. fall (rise trst tms t (about k) (lowered s m))) (given-lowered s tdi ms)
    ∙ fall-rise s trst tms (given s tdi ms) (about k) m free.0 in
    λ i. head i ∷ fall-rise_all s trst tms tdi about (suc k) ms free.1 i

-- the high byte of a cycle and the low byte after it, whatever that one is
pub high-low : (s : State) (trst tms tdi a b : Bool) (nets : List Net) (ms : List Member) (rest : List Message) → Free trst ms
    → hear (Write true tms tdi ∷ Write false a b ∷ rest) (low s trst nets ms)
    ≡ hear rest (low (next s tms) trst nets (cycled s tms tdi nets ms))
high-low s trst tms tdi a b nets ms rest free =
    rw (members-lowered, fall-rise_all s trst tms tdi (told nets ms) 0 ms free) refl

Free-risen_all : (s : State) (tdi trst : Bool) (about : ℕ → Told) (k : ℕ) (ms : List Member) → Free trst ms → Free trst (risen_all s tdi about k ms)
Free-risen_all s tdi trst about k [] free = tt
Free-risen_all s tdi trst about k (m ∷ ms) free = (free.0, Free-risen_all s tdi trst about (suc k) ms free.1)

Free-fallen : (s : State) (trst : Bool) (ms : List Member) → Free trst ms → Free trst (map (fallen_one s) ms)
Free-fallen s trst [] free = tt
Free-fallen s trst (m ∷ ms) free = (free.0, Free-fallen s trst ms free.1)

pub Free-cycled : (s : State) (trst tms tdi : Bool) (nets : List Net) (ms : List Member) → Free trst ms → Free trst (cycled s tms tdi nets ms)
Free-cycled s trst tms tdi nets ms free = Free-fallen (next s tms) trst _ (Free-risen_all s tdi trst (told nets ms) 0 ms free)

-- what a list of cycles does: answers, state and devices
pub record Ran : Type 0 where
  pub answers : List Bool
  pub state : State
  pub members : List Member

abbrev pub asked : Bool → State → List Member → List Bool
asked read s ms = if read then given s true ms ∷ [] else []

abbrev pub ran : List Net → List Cycle → State → List Member → Ran
ran nets [] s ms = record { answers = []; state = s; members = ms }
ran nets (c ∷ cs) s ms =
    let r = ran nets cs (next s c.tms) (cycled s c.tms c.tdi nets ms) in
    record { answers = asked c.read s ms ++ r.answers; state = r.state; members = r.members }

abbrev pub heard_of : Bool → List Net → Ran → Heard
heard_of trst nets r = record { answers = r.answers; board = low r.state trst nets r.members }

-- cycles, and the low byte that closes them
abbrev pub tail : List Cycle → List Message
tail cs = flat_map cycle_messages cs ++ Write false false false ∷ []

step-on : (trst : Bool) (nets : List Net) (tms tdi : Bool) (cs : List Cycle) (s : State) (ms : List Member) → Free trst ms
    → hear (Write true tms tdi ∷ tail cs) (low s trst nets ms)
    ≡ hear (tail cs) (low (next s tms) trst nets (cycled s tms tdi nets ms))
step-on trst nets tms tdi [] s ms free = high-low s trst tms tdi false false nets ms [] free
step-on trst nets tms tdi (d ∷ ds) s ms free = high-low s trst tms tdi d.tms d.tdi nets ms
    ((if d.read then Ask ∷ [] else []) ++ Write true d.tms d.tdi ∷ [] ++ flat_map cycle_messages ds ++ Write false false false ∷ []) free

one-more : (trst : Bool) (nets : List Net) (tms tdi read : Bool) (cs : List Cycle) (s : State) (ms : List Member)
    → hear (Write true tms tdi ∷ tail cs) (low s trst nets ms) ≡ heard_of trst nets (ran nets cs (next s tms) (cycled s tms tdi nets ms))
    → hear (tail (record { tms = tms; tdi = tdi; read = read } ∷ cs)) (low s trst nets ms)
    ≡ heard_of trst nets (ran nets (record { tms = tms; tdi = tdi; read = read } ∷ cs) s ms)
one-more trst nets tms tdi false cs s ms e = e
one-more trst nets tms tdi true cs s ms e =
    λ i. record { answers = given-lowered s true ms i ∷ (e i).answers; board = (e i).board }

-- A list of cycles heard by a board is one cycle of all devices after another.
pub hear-tail : (trst : Bool) (nets : List Net) (cs : List Cycle) (s : State) (ms : List Member) → Free trst ms
    → hear (tail cs) (low s trst nets ms) ≡ heard_of trst nets (ran nets cs s ms)
hear-tail trst nets [] s ms free = refl
hear-tail trst nets (c ∷ cs) s ms free =
    one-more trst nets c.tms c.tdi c.read cs s ms
    (step-on trst nets c.tms c.tdi cs s ms free
    ∙ hear-tail trst nets cs (next s c.tms) (cycled s c.tms c.tdi nets ms) (Free-cycled s trst c.tms c.tdi nets ms free))
