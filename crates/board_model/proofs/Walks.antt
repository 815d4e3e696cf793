-- A walk of a path by cycles is the whole-register actions of its states.
use Rattle.std.specs.Prelude.{⊤}
use Rattle.std.proofs.Common.{◌≡◌, Bool, true, false, ℕ, suc, List, [], ◌∷◌, refl, sym, ap, ◌∙◌, map}
use Rattle.std.specs.Prelude.{None}
use Rattle.jt_tap.specs.declared.State.{State}
use Rattle.jt_tap.specs.declared.State.TheVariants.{Reset, Idle, DrSelect, DrCapture, DrShift, DrExit1, DrPause, DrExit2, DrUpdate, IrSelect, IrCapture, IrShift, IrExit1, IrPause, IrExit2, IrUpdate}
use Rattle.jt_tap.specs.declared.Work.{Work}
use Rattle.jt_tap.specs.declared.Work.TheVariants.{Resets, Captures, Shifts, Updates, Waits}
use Rattle.jt_tap.specs.Controller.{next, work, entered_by, is_stable}
use Rattle.scan_registers.specs.Edges.{after_rise, after_fall, tdo_after}
use Rattle.board_model.specs.Cells.{Member, surroundings, Told, untold}
use Rattle.bsdl_device.specs.Device.{Device}
use Rattle.boundary.specs.Registers.{Registers}
use Rattle.pin_nets.specs.Wired.{Net}
use Rattle.board_model.specs.Nets.{told}
use Rattle.board_model.specs.Chain.{hear}
use Rattle.board_model.specs.Whole.{AtRest, arrive, capture_all, settle, update_member, reset_member}
use Rattle.jt_tap.specs.Paths.{go, last_of}
use Rattle.bitbang_protocol.specs.Cycles.{entering, closed_messages}
use Rattle.board_model.specs.Resting.{board_at_rest, chip_at_rest}
use Rattle.board_model.proofs.OneCycle.{low, lowered, Free, given, risen_one, risen_all, fallen_one, cycled, Ran, ran, heard_of, hear-tail}

-- the devices after a rising edge with this work to do, no shift
abbrev pub rise_whole : Work → List Net → List Member → List Member
rise_whole (Captures column) nets ms = capture_all column (told nets ms) 0 ms
rise_whole _ nets ms = ms

-- the devices after a falling edge
abbrev pub fall_whole : Work → List Member → List Member
fall_whole (Updates column) ms = map (update_member column) ms
fall_whole Resets ms = map reset_member ms
fall_whole _ ms = ms

abbrev pub is_shift : Work → Bool
is_shift (Shifts column) = true
is_shift _ = false

-- one device after a rising edge of this work, the first of those from k on
abbrev rise_by : Work → (ℕ → Told) → ℕ → List Member → List Member
rise_by (Captures column) about k ms = capture_all column about k ms
rise_by _ about k ms = ms

rise-one : (w : Work) (tdi : Bool) (about : ℕ → Told) (k : ℕ) (m : Member) (ms : List Member) → is_shift w ≡ false
    → record m { registers = after_rise w m.device (surroundings (about k) m) tdi m.registers } ∷ rise_by w about (suc k) ms ≡ rise_by w about k (m ∷ ms)
rise-one Resets tdi about k m ms quiet = refl
rise-one (Captures column) tdi about k m ms quiet = refl
rise-one (Shifts column) tdi about k m ms quiet = absurd (cc)
rise-one (Updates column) tdi about k m ms quiet = refl
rise-one Waits tdi about k m ms quiet = refl

rise-nil : (w : Work) (about : ℕ → Told) (k : ℕ) → [] ≡ rise_by w about k []
rise-nil Resets about k = refl
rise-nil (Captures column) about k = refl
rise-nil (Shifts column) about k = refl
rise-nil (Updates column) about k = refl
rise-nil Waits about k = refl

risen-by : (s : State) (tdi : Bool) (about : ℕ → Told) (k : ℕ) (ms : List Member) → is_shift (work s) ≡ false
    → risen_all s tdi about k ms ≡ rise_by (work s) about k ms
risen-by s tdi about k [] quiet = rise-nil (work s) about k
risen-by s tdi about k (m ∷ ms) quiet =
    ap (λ r. risen_one s (given s tdi ms) (about k) m ∷ r) (risen-by s tdi about (suc k) ms quiet)
    ∙ rise-one (work s) (given s tdi ms) about k m ms quiet

risen-whole : (w : Work) (nets : List Net) (ms : List Member) → rise_by w (told nets ms) 0 ms ≡ rise_whole w nets ms
risen-whole Resets nets ms = refl
risen-whole (Captures column) nets ms = refl
risen-whole (Shifts column) nets ms = refl
risen-whole (Updates column) nets ms = refl
risen-whole Waits nets ms = refl

fall-one : (w : Work) (m : Member) (ms : List Member)
    → record m { registers = after_fall w m.device (surroundings untold m) m.registers } ∷ fall_whole w ms ≡ fall_whole w (m ∷ ms)
fall-one Resets m ms = refl
fall-one (Captures column) m ms = refl
fall-one (Shifts column) m ms = refl
fall-one (Updates column) m ms = refl
fall-one Waits m ms = refl

fall-nil : (w : Work) → [] ≡ fall_whole w []
fall-nil Resets = refl
fall-nil (Captures column) = refl
fall-nil (Shifts column) = refl
fall-nil (Updates column) = refl
fall-nil Waits = refl

fallen-whole : (s : State) (ms : List Member) → map (fallen_one s) ms ≡ fall_whole (work s) ms
fallen-whole s [] = fall-nil (work s)
fallen-whole s (m ∷ ms) = ap (λ r. fallen_one s m ∷ r) (fallen-whole s ms) ∙ fall-one (work s) m ms

-- One cycle anywhere but in Shift: what the state that is left does on the rising edge, then what the state that is
-- entered does on the falling one.
pub cycled-whole : (s : State) (tms tdi : Bool) (nets : List Net) (ms : List Member) → is_shift (work s) ≡ false
    → cycled s tms tdi nets ms ≡ fall_whole (work (next s tms)) (rise_whole (work s) nets ms)
cycled-whole s tms tdi nets ms quiet =
    fallen-whole (next s tms) _
    ∙ ap (λ r. fall_whole (work (next s tms)) r) (risen-by s tdi (told nets ms) 0 ms quiet ∙ risen-whole (work s) nets ms)

abbrev pub walked : List Net → State → List State → List Member → List Member
walked nets s [] ms = ms
walked nets s (t ∷ path) ms = walked nets t path (fall_whole (work t) (rise_whole (work s) nets ms))

-- each state one cycle from the one before, and none that is left is a Shift
abbrev pub IsWalk : State → List State → Type 0
IsWalk s [] = ⊤
IsWalk s (t ∷ path) = (next s (entered_by t) ≡ t) × (is_shift (work s) ≡ false) × IsWalk t path

abbrev pub ends_at : State → List Member → Ran
ends_at s ms = record { answers = []; state = s; members = ms }

pub ran-walk : (nets : List Net) (path : List State) (s : State) (ms : List Member) → IsWalk s path
    → ran nets (map entering path) s ms ≡ ends_at (last_of s path) (walked nets s path ms)
ran-walk nets [] s ms legal = refl
ran-walk nets (t ∷ path) s ms legal =
    (λ i. ran nets (map entering path) (legal.0 i) (cycled s (entered_by t) false nets ms))
    ∙ ap (λ r. ran nets (map entering path) t r)
    (cycled-whole s (entered_by t) false nets ms legal.1 ∙ ap (λ u. fall_whole (work u) (rise_whole (work s) nets ms)) legal.0)
    ∙ ran-walk nets path t _ legal.2

tdo-quiet : (w : Work) (d : Device) (r : Registers) → is_shift w ≡ false → tdo_after w d r ≡ None
tdo-quiet Resets d r quiet = refl
tdo-quiet (Captures column) d r quiet = refl
tdo-quiet (Shifts column) d r quiet = absurd (cc)
tdo-quiet (Updates column) d r quiet = refl
tdo-quiet Waits d r quiet = refl

-- outside Shift a falling edge leaves TDO undriven
pub lowered-standing : (s : State) (ms : List Member) → is_shift (work s) ≡ false → map (lowered s) ms ≡ map (chip_at_rest s) ms
lowered-standing s [] quiet = refl
lowered-standing s (m ∷ ms) quiet =
    λ i. record { member = m; state = s; tdo = tdo-quiet (work s) m.device m.registers quiet i } ∷ lowered-standing s ms quiet i

abbrev pub at_rest : State → Bool → List Net → List Member → AtRest
at_rest s trst nets ms = record { place = s; trst = trst; nets = nets; members = ms }

pub low-resting : (s : State) (trst : Bool) (nets : List Net) (ms : List Member) → is_shift (work s) ≡ false
    → low s trst nets ms ≡ board_at_rest (at_rest s trst nets ms)
low-resting s trst nets ms quiet = λ i. record { tck = false; trst = trst; nets = nets; chips = lowered-standing s ms quiet i }

pub stable-quiet : (s : State) → is_stable s ≡ true → is_shift (work s) ≡ false
stable-quiet DrShift stable = cc
stable-quiet IrShift stable = cc
stable-quiet Reset stable = refl
stable-quiet Idle stable = refl
stable-quiet DrSelect stable = refl
stable-quiet DrCapture stable = refl
stable-quiet DrExit1 stable = refl
stable-quiet DrPause stable = refl
stable-quiet DrExit2 stable = refl
stable-quiet DrUpdate stable = refl
stable-quiet IrSelect stable = refl
stable-quiet IrCapture stable = refl
stable-quiet IrExit1 stable = refl
stable-quiet IrPause stable = refl
stable-quiet IrExit2 stable = refl
stable-quiet IrUpdate stable = refl

-- what a default path is: a walk, to its end, whose effect is settle and arrive
pub record IsMove (from to : State) : Type 0 where
  pub walk : IsWalk from (go from to)
  pub ends : last_of from (go from to) ≡ to
  pub effect : (trst : Bool) (nets : List Net) (ms : List Member)
      → at_rest to trst nets (walked nets from (go from to) ms) ≡ arrive to (settle (at_rest from trst nets ms))

pub default-path : (from to : State) → is_stable from ≡ true → is_stable to ≡ true → IsMove from to
default-path Reset Reset sf st = record { walk = (refl, refl, tt); ends = refl; effect = λ trst nets ms. refl }
default-path Reset Idle sf st = record { walk = (refl, refl, tt); ends = refl; effect = λ trst nets ms. refl }
default-path Reset DrPause sf st = record { walk = (refl, refl, (refl, refl, (refl, refl, (refl, refl, (refl, refl, tt))))); ends = refl; effect = λ trst nets ms. refl }
default-path Reset IrPause sf st = record { walk = (refl, refl, (refl, refl, (refl, refl, (refl, refl, (refl, refl, (refl, refl, tt)))))); ends = refl; effect = λ trst nets ms. refl }
default-path Reset _ sf st = absurd (cc)
default-path Idle Reset sf st = record { walk = (refl, refl, (refl, refl, (refl, refl, tt))); ends = refl; effect = λ trst nets ms. refl }
default-path Idle Idle sf st = record { walk = (refl, refl, tt); ends = refl; effect = λ trst nets ms. refl }
default-path Idle DrPause sf st = record { walk = (refl, refl, (refl, refl, (refl, refl, (refl, refl, tt)))); ends = refl; effect = λ trst nets ms. refl }
default-path Idle IrPause sf st = record { walk = (refl, refl, (refl, refl, (refl, refl, (refl, refl, (refl, refl, tt))))); ends = refl; effect = λ trst nets ms. refl }
default-path Idle _ sf st = absurd (cc)
default-path DrPause Reset sf st = record { walk = (refl, refl, (refl, refl, (refl, refl, (refl, refl, (refl, refl, tt))))); ends = refl; effect = λ trst nets ms. refl }
default-path DrPause Idle sf st = record { walk = (refl, refl, (refl, refl, (refl, refl, tt))); ends = refl; effect = λ trst nets ms. refl }
default-path DrPause DrPause sf st = record { walk = (refl, refl, (refl, refl, (refl, refl, (refl, refl, (refl, refl, (refl, refl, tt)))))); ends = refl; effect = λ trst nets ms. refl }
default-path DrPause IrPause sf st = record { walk = (refl, refl, (refl, refl, (refl, refl, (refl, refl, (refl, refl, (refl, refl, (refl, refl, tt))))))); ends = refl; effect = λ trst nets ms. refl }
default-path DrPause _ sf st = absurd (cc)
default-path IrPause Reset sf st = record { walk = (refl, refl, (refl, refl, (refl, refl, (refl, refl, (refl, refl, tt))))); ends = refl; effect = λ trst nets ms. refl }
default-path IrPause Idle sf st = record { walk = (refl, refl, (refl, refl, (refl, refl, tt))); ends = refl; effect = λ trst nets ms. refl }
default-path IrPause DrPause sf st = record { walk = (refl, refl, (refl, refl, (refl, refl, (refl, refl, (refl, refl, (refl, refl, tt)))))); ends = refl; effect = λ trst nets ms. refl }
default-path IrPause IrPause sf st = record { walk = (refl, refl, (refl, refl, (refl, refl, (refl, refl, (refl, refl, (refl, refl, (refl, refl, tt))))))); ends = refl; effect = λ trst nets ms. refl }
default-path IrPause _ sf st = absurd (cc)
default-path _ to sf st = absurd (cc)

pub closed-walk : (path : List State) (s : State) (trst : Bool) (nets : List Net) (ms : List Member) → IsWalk s path → Free trst ms
    → hear (closed_messages (map entering path)) (low s trst nets ms) ≡ heard_of trst nets (ends_at (last_of s path) (walked nets s path ms))
closed-walk [] s trst nets ms legal free = refl
closed-walk (t ∷ path) s trst nets ms legal free =
    hear-tail trst nets (map entering (t ∷ path)) s ms free ∙ ap (heard_of trst nets) (ran-walk nets (t ∷ path) s ms legal)

-- From rest, a STATE step's bytes settle and arrive.
pub go-law : (from to : State) (trst : Bool) (nets : List Net) (ms : List Member) → is_stable from ≡ true → is_stable to ≡ true → Free trst ms
    → hear (closed_messages (map entering (go from to))) (board_at_rest (at_rest from trst nets ms))
    ≡ record { answers = []; board = board_at_rest (arrive to (settle (at_rest from trst nets ms))) }
go-law from to trst nets ms sf st free =
    let move = default-path from to sf st in
    let after = walked nets from (go from to) ms in
    ap (λ b. hear (closed_messages (map entering (go from to))) b) (sym (low-resting from trst nets ms (stable-quiet from sf)))
    ∙ closed-walk (go from to) from trst nets ms move.walk free
    ∙ (λ i. record { answers = []; board = low (move.ends i) trst nets after })
    ∙ (λ i. record { answers = []; board = low-resting to trst nets after (stable-quiet to st) i })
    ∙ (λ i. record { answers = []; board = board_at_rest (move.effect trst nets ms i) })
