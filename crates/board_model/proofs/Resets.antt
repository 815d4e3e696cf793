-- TRST and the opening, from rest: devices that stand in different states move apart, so this goes device by device.
use Rattle.std.proofs.Common.{◌≡◌, Bool, true, false, ℕ, suc, List, [], ◌∷◌, refl, ap, ◌∙◌, map}
use Rattle.std.specs.Prelude.{if◌then◌else◌}
use Rattle.std.specs.List.{AllByRecursion}
use Rattle.jt_tap.specs.declared.State.{State}
use Rattle.jt_tap.specs.declared.State.TheVariants.{Reset, Idle, DrSelect, DrCapture, DrShift, DrExit1, DrPause, DrExit2, DrUpdate, IrSelect, IrCapture, IrShift, IrExit1, IrPause, IrExit2, IrUpdate}
use Rattle.jt_tap.specs.declared.Work.{Work}
use Rattle.jt_tap.specs.declared.Work.TheVariants.{Resets, Captures, Shifts, Updates, Waits}
use Rattle.jt_tap.specs.Controller.{next, work, is_stable}
use Rattle.bsdl_device.specs.Device.{Device}
use Rattle.bsdl_device.specs.declared.Cell.{Cell}
use Rattle.bsdl_device.specs.declared.Function.{Function}
use Rattle.bsdl_device.specs.declared.Function.TheVariants.{ControlR, Input}
use Rattle.boundary.specs.Registers.{Registers, Surroundings}
use Rattle.scan_registers.specs.Edges.{after_rise}
use Rattle.board_model.specs.Cells.{Member, surroundings, Told}
use Rattle.boundary.specs.Cells.{reset_cell, reset_from}
use Rattle.pin_nets.specs.Wired.{Net}
use Rattle.board_model.specs.Nets.{told}
use Rattle.bitbang_protocol.specs.declared.Message.TheVariants.{Lines, Write}
use Rattle.board_model.specs.Chain.{ChipState, BoardState, is_held, assert_trst, rise, fall, rise_all, tdi_before, members, after_message, hear}
use Rattle.board_model.specs.Whole.{reset_member, after_opening, settled_member, trst_asserted, trst_member}
use Rattle.bitbang_protocol.specs.Cycles.{five_resets, closed_messages, opening}
use Rattle.board_model.specs.Resting.{chip_at_rest, board_at_rest}
use Rattle.board_model.proofs.Walks.{at_rest}

reset_cell-twice : (all : List Cell) (k : ℕ) (f : Function) (u : Bool) → reset_cell all k f (reset_cell all k f u) ≡ reset_cell all k f u
reset_cell-twice all k ControlR u = refl
reset_cell-twice all k Input u = refl
reset_cell-twice all k _ u = refl

reset_from-twice : (all : List Cell) (k : ℕ) (cs : List Cell) (us : List Bool) → reset_from all k cs (reset_from all k cs us) ≡ reset_from all k cs us
reset_from-twice all k [] us = refl
reset_from-twice all k (c ∷ cs) [] = refl
reset_from-twice all k (c ∷ cs) (u ∷ us) = λ i. reset_cell-twice all k c.function u i ∷ reset_from-twice all (suc k) cs us i

-- a second reset changes nothing
pub reset-twice : (m : Member) → reset_member (reset_member m) ≡ reset_member m
reset-twice m = λ i. record m {
  registers = record (reset_member m).registers { update = reset_from-twice m.device.cells 0 m.device.cells m.registers.update i };
}

-- no capture, no shift
abbrev pub is_quiet : Work → Bool
is_quiet (Captures column) = false
is_quiet (Shifts column) = false
is_quiet _ = true

abbrev pub AllQuiet : List ChipState → Type 0
AllQuiet cs = AllByRecursion (λ c. is_quiet (work c.state) ≡ true) cs

risen-quiet : (w : Work) (d : Device) (around : Surroundings) (tdi : Bool) (r : Registers) → is_quiet w ≡ true → after_rise w d around tdi r ≡ r
risen-quiet Resets d around tdi r quiet = refl
risen-quiet (Captures column) d around tdi r quiet = absurd (cc)
risen-quiet (Shifts column) d around tdi r quiet = absurd (cc)
risen-quiet (Updates column) d around tdi r quiet = refl
risen-quiet Waits d around tdi r quiet = refl

-- a rising edge with TMS 1 that only moves
abbrev pub up : Bool → ChipState → ChipState
up trst c = if is_held trst c.member then c else record { member = c.member; state = next c.state true; tdo = c.tdo }

rise-up : (trst tdi : Bool) (about : Told) (c : ChipState) → is_quiet (work c.state) ≡ true → rise trst true tdi about c ≡ up trst c
rise-up trst tdi about c quiet =
    λ i. if is_held trst c.member then c else record {
      member = record c.member { registers = risen-quiet (work c.state) c.member.device (surroundings about c.member) tdi c.member.registers quiet i };
      state = next c.state true;
      tdo = c.tdo;
    }

pub rise_all-up : (trst tdi : Bool) (about : ℕ → Told) (k : ℕ) (cs : List ChipState) → AllQuiet cs → rise_all trst true tdi about k cs ≡ map (up trst) cs
rise_all-up trst tdi about k [] quiet = refl
rise_all-up trst tdi about k (c ∷ cs) quiet =
    λ i. rise-up trst (tdi_before tdi cs) (about k) c quiet.0 i ∷ rise_all-up trst tdi about (suc k) cs quiet.1 i

-- Capture and Shift are entered by TMS 0 alone
next-quiet : (s : State) → is_quiet (work (next s true)) ≡ true
next-quiet Reset = refl
next-quiet Idle = refl
next-quiet DrSelect = refl
next-quiet DrCapture = refl
next-quiet DrShift = refl
next-quiet DrExit1 = refl
next-quiet DrPause = refl
next-quiet DrExit2 = refl
next-quiet DrUpdate = refl
next-quiet IrSelect = refl
next-quiet IrCapture = refl
next-quiet IrShift = refl
next-quiet IrExit1 = refl
next-quiet IrPause = refl
next-quiet IrExit2 = refl
next-quiet IrUpdate = refl

up-quiet : (held : Bool) (c : ChipState) → is_quiet (work c.state) ≡ true
    → is_quiet (work (if held then c else record { member = c.member; state = next c.state true; tdo = c.tdo }).state) ≡ true
up-quiet true c quiet = quiet
up-quiet false c quiet = next-quiet c.state

AllQuiet-up : (trst : Bool) (cs : List ChipState) → AllQuiet cs → AllQuiet (map (up trst) cs)
AllQuiet-up trst [] quiet = tt
AllQuiet-up trst (c ∷ cs) quiet = (up-quiet (is_held trst c.member) c quiet.0, AllQuiet-up trst cs quiet.1)

AllQuiet-fall : (cs : List ChipState) → AllQuiet cs → AllQuiet (map fall cs)
AllQuiet-fall [] quiet = tt
AllQuiet-fall (c ∷ cs) quiet = (quiet.0, AllQuiet-fall cs quiet.1)

abbrev pub board : (tck trst : Bool) → List Net → List ChipState → BoardState
board tck trst nets cs = record { tck = tck; trst = trst; nets = nets; chips = cs }

abbrev pub one : BoardState → BoardState
one b = after_message (Write true true false) (after_message (Write false true false) b)

pub one-low : (trst : Bool) (nets : List Net) (cs : List ChipState) → AllQuiet cs → one (board false trst nets cs) ≡ board true trst nets (map (up trst) cs)
one-low trst nets cs quiet = λ i. board true trst nets (rise_all-up trst false (told nets (members cs)) 0 cs quiet i)

pub one-high : (trst : Bool) (nets : List Net) (cs : List ChipState) → AllQuiet cs
    → one (board true trst nets cs) ≡ board true trst nets (map (up trst) (map fall cs))
one-high trst nets cs quiet =
    λ i. board true trst nets (rise_all-up trst false (told nets (members (map fall cs))) 0 (map fall cs) (AllQuiet-fall cs quiet) i)

-- one device through five cycles with TMS 1 and the last low byte
abbrev through : Bool → ChipState → ChipState
through trst c = fall (up trst (fall (up trst (fall (up trst (fall (up trst (fall (up trst c)))))))))

-- the chain through them
abbrev chain_through : Bool → List ChipState → List ChipState
chain_through trst cs =
    let U = map (up trst) in
    map fall (U (map fall (U (map fall (U (map fall (U (map fall (U cs)))))))))

chain-map : (trst : Bool) (cs : List ChipState) → chain_through trst cs ≡ map (through trst) cs
chain-map trst [] = refl
chain-map trst (c ∷ cs) = ap (λ r. through trst c ∷ r) (chain-map trst cs)

pub ones-through : (trst : Bool) (nets : List Net) (cs : List ChipState) → AllQuiet cs
    → hear (closed_messages five_resets) (board false trst nets cs) ≡ record { answers = []; board = board false trst nets (map (through trst) cs) }
ones-through trst nets cs quiet =
    let U : List ChipState → List ChipState = map (up trst) in
    let c1 = U cs in
    let q1 : AllQuiet c1 = AllQuiet-up trst cs quiet in
    let c2 = U (map fall c1) in
    let q2 : AllQuiet c2 = AllQuiet-up trst (map fall c1) (AllQuiet-fall c1 q1) in
    let c3 = U (map fall c2) in
    let q3 : AllQuiet c3 = AllQuiet-up trst (map fall c2) (AllQuiet-fall c2 q2) in
    let c4 = U (map fall c3) in
    let q4 : AllQuiet c4 = AllQuiet-up trst (map fall c3) (AllQuiet-fall c3 q3) in
    let five : one (one (one (one (one (board false trst nets cs))))) ≡ board true trst nets (U (map fall c4)) =
    ap (λ b. one (one (one (one b)))) (one-low trst nets cs quiet)
    ∙ ap (λ b. one (one (one b))) (one-high trst nets c1 q1)
    ∙ ap (λ b. one (one b)) (one-high trst nets c2 q2)
    ∙ ap (λ b. one b) (one-high trst nets c3 q3)
    ∙ one-high trst nets c4 q4 in
    (λ i. record { answers = []; board = after_message (Write false false false) (five i) })
    ∙ (λ i. record { answers = []; board = board false trst nets (chain-map trst cs i) })

abbrev R : Member → Member
R m = reset_member m

-- repeated resets are one
thrice : (m : Member) → R (R (R m)) ≡ R m
thrice m = ap R (reset-twice m) ∙ reset-twice m

five-times : (m : Member) → R (R (R (R (R m)))) ≡ R m
five-times m = ap (λ x. R (R x)) (thrice m) ∙ thrice m

six-times : (m : Member) → R (R (R (R (R (R m))))) ≡ R m
six-times m = ap R (five-times m) ∙ reset-twice m

-- a member whose TRST port is said beside it
abbrev with_trst : Bool → Member → Member
with_trst b m = record m { device = record m.device { has_trst = b } }

-- no TRST asserted: settled, then reset
released-one : (place : State) (m : Member) → is_stable place ≡ true
    → through false (chip_at_rest place m) ≡ chip_at_rest Reset (R (settled_member place m))
released-one Reset m stable = ap (chip_at_rest Reset) (five-times m)
released-one Idle m stable = ap (chip_at_rest Reset) (thrice m)
released-one DrPause m stable = refl
released-one IrPause m stable = refl
released-one _ m stable = absurd (cc)

asserted-one : (b : Bool) (place : State) (m : Member) → is_stable place ≡ true
    → through true (assert_trst (chip_at_rest place (with_trst b m))) ≡ chip_at_rest Reset (trst_member (settled_member place) (with_trst b m))
asserted-one true place m stable = ap (chip_at_rest Reset) (six-times (with_trst true m))
asserted-one false Reset m stable = ap (chip_at_rest Reset) (five-times (with_trst false m))
asserted-one false Idle m stable = ap (chip_at_rest Reset) (thrice (with_trst false m))
asserted-one false DrPause m stable = refl
asserted-one false IrPause m stable = refl
asserted-one false _ m stable = absurd (cc)

asserted-all : (place : State) (ms : List Member) → is_stable place ≡ true
    → map (through true) (map assert_trst (map (chip_at_rest place) ms)) ≡ map (chip_at_rest Reset) (map (trst_member (settled_member place)) ms)
asserted-all place [] stable = refl
asserted-all place (m ∷ ms) stable = λ i. asserted-one m.device.has_trst place m stable i ∷ asserted-all place ms stable i

stable-is-quiet : (s : State) → is_stable s ≡ true → is_quiet (work s) ≡ true
stable-is-quiet Reset stable = refl
stable-is-quiet Idle stable = refl
stable-is-quiet DrPause stable = refl
stable-is-quiet IrPause stable = refl
stable-is-quiet _ stable = absurd (cc)

asserted-quiet-one : (b : Bool) (place : State) (m : Member) → is_stable place ≡ true → is_quiet (work (assert_trst (chip_at_rest place (with_trst b m))).state) ≡ true
asserted-quiet-one true place m stable = refl
asserted-quiet-one false place m stable = stable-is-quiet place stable

asserted-quiet : (place : State) (ms : List Member) → is_stable place ≡ true → AllQuiet (map assert_trst (map (chip_at_rest place) ms))
asserted-quiet place [] stable = tt
asserted-quiet place (m ∷ ms) stable = (asserted-quiet-one m.device.has_trst place m stable, asserted-quiet place ms stable)

-- From rest, the bytes of TRST ON reset a device with a TRST port at once, and settle and reset any other.
pub trst-on-law : (place : State) (trst : Bool) (nets : List Net) (ms : List Member) → is_stable place ≡ true
    → hear (Lines true false ∷ closed_messages five_resets) (board_at_rest (at_rest place trst nets ms))
    ≡ record { answers = []; board = board_at_rest (trst_asserted (at_rest place trst nets ms)) }
trst-on-law place trst nets ms stable =
    ones-through true nets (map assert_trst (map (chip_at_rest place) ms)) (asserted-quiet place ms stable)
    ∙ (λ i. record { answers = []; board = board false true nets (asserted-all place ms stable i) })

pub standing-quiet : (place : State) (ms : List Member) → is_stable place ≡ true → AllQuiet (map (chip_at_rest place) ms)
standing-quiet place [] stable = tt
standing-quiet place (m ∷ ms) stable = (stable-is-quiet place stable, standing-quiet place ms stable)

released-all : (place : State) (ms : List Member) → is_stable place ≡ true
    → map (through false) (map (chip_at_rest place) ms) ≡ map (chip_at_rest Reset) (map (λ m. R (settled_member place m)) ms)
released-all place [] stable = refl
released-all place (m ∷ ms) stable = λ i. released-one place m stable i ∷ released-all place ms stable i

opened-members : (place : State) (trst : Bool) (nets : List Net) (ms : List Member) → is_stable place ≡ true
    → at_rest Reset false nets (map (λ m. R (settled_member place m)) ms) ≡ after_opening (at_rest place trst nets ms)
opened-members Reset trst nets ms stable = refl
opened-members Idle trst nets ms stable = refl
opened-members DrPause trst nets ms stable = ap (at_rest Reset false nets) (go ms)
  where
    go : (ms : List Member) → map (λ m. R (settled_member DrPause m)) ms ≡ map R (map (settled_member DrPause) ms)
    go [] = refl
    go (m ∷ ms) = ap (λ r. R (settled_member DrPause m) ∷ r) (go ms)
opened-members IrPause trst nets ms stable = ap (at_rest Reset false nets) (go ms)
  where
    go : (ms : List Member) → map (λ m. R (settled_member IrPause m)) ms ≡ map R (map (settled_member IrPause) ms)
    go [] = refl
    go (m ∷ ms) = ap (λ r. R (settled_member IrPause m) ∷ r) (go ms)
opened-members _ trst nets ms stable = absurd (cc)

-- From rest in M the opening gives M with TRST released, settled and reset.
pub opening-law : (place : State) (trst : Bool) (nets : List Net) (ms : List Member) → is_stable place ≡ true
    → hear opening (board_at_rest (at_rest place trst nets ms)) ≡ record { answers = []; board = board_at_rest (after_opening (at_rest place trst nets ms)) }
opening-law place trst nets ms stable =
    ones-through false nets (map (chip_at_rest place) ms) (standing-quiet place ms stable)
    ∙ (λ i. record { answers = []; board = board false false nets (released-all place ms stable i) })
    ∙ (λ i. record { answers = []; board = board_at_rest (opened-members place trst nets ms stable i) })
