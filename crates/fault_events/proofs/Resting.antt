-- Boards at rest while their captures are noted.
use Rattle.std.proofs.Common.{◌≡◌, ◌<◌, ◌+◌, ℕ, zero, suc, List, length, drop, get_or, IfOk, OnOk, Result, Ok, Err, arith, [], ◌∷◌, ◌++◌, map, refl, sym, ap, ◌∙◌, append_assoc}
use Rattle.std.proofs.lemmas.List.{append-nil, map-append}
use Rattle.svf_programs.specs.declared.program.Steps.{Steps}
use Rattle.svf_programs.specs.Left.{left}
use Rattle.svf_programs.specs.Steps.{Numbered}
use Rattle.pin_nets.specs.declared.Pin.{Pin}
use Rattle.board_plan.specs.declared.plan.PlannedDevice.{PlannedDevice}
use Rattle.board_model.specs.Cells.{Member}
use Rattle.board_model.specs.Chain.{BoardState, members}
use Rattle.board_model.specs.Resting.{IsAtRest}
use Rattle.board_model.specs.Whole.{AtRest}
use Rattle.play_model.proofs.AfterOpening.{standing-members}
use Rattle.fault_events.specs.declared.captures.Capture.{Capture}
use Rattle.fault_events.specs.declared.captures.Captures.{Captures}
use Rattle.fault_events.specs.declared.tables.PinNumbers.{PinNumbers}
use Rattle.fault_events.specs.Captures.{AreLeft, Begins, Fits, Goes, GoesOn, Noted, noted_at, noted_by, seen}
use Rattle.fault_events.specs.Events.{Event}
use Rattle.fault_events.specs.Numbers.{AllFormed}
use Rattle.fault_events.specs.Parts.{AllPlannedFormed, planned_parts}

pub rests_members : (b : BoardState) (m : AtRest) → IsAtRest b m → members b.chips ≡ m.members
rests_members b m is = ap (λ (x : BoardState). members x.chips) is ∙ standing-members m.place m.members

-- devices that keep all but their registers still fit
pub fits_next : (b c : BoardState) (m n : AtRest) → IsAtRest b m → IsAtRest c n → planned_parts n.members ≡ planned_parts m.members
    → (ds : List PlannedDevice) (pins : PinNumbers) → Fits (members b.chips) ds pins → Fits (members c.chips) ds pins
fits_next b c m n is now kept ds pins fits = record {
  same = ap planned_parts (rests_members c n now) ∙ kept ∙ sym (ap planned_parts (rests_members b m is)) ∙ fits.same;
  formed = fits.formed;
  numbered = fits.numbered;
}

pub fits_state : (m n : AtRest) → planned_parts n.members ≡ planned_parts m.members → (ds : List PlannedDevice) (pins : PinNumbers)
    → Fits m.members ds pins → Fits n.members ds pins
fits_state m n kept ds pins fits = record { same = kept ∙ fits.same; formed = fits.formed; numbered = fits.numbered }

pub all_formed : (ms : List Member) → AllPlannedFormed (planned_parts ms) → AllFormed ms
all_formed [] all = tt
all_formed (m ∷ ms) all = (all.0, all_formed ms all.1)

-- ---- what was noted

pub goes_none : (pins : List Pin) (m : AtRest) (b : BoardState) (old : List Capture) → IsAtRest b m → Goes pins [] m b old old
goes_none pins m b old is = record { rests = is; noted = sym (append-nil (map seen old)) }

pub goes_both : (pins : List Pin) (es fs : List Event) (m n : AtRest) (b c : BoardState) (old mid new : List Capture)
    → Goes pins es m b old mid → Goes pins fs n c mid new → Goes pins (es ++ fs) n c old new
goes_both pins es fs m n b c old mid new one more = record {
  rests = more.rests;
  noted = more.noted ∙ ap (λ (l : List Noted). l ++ map (noted_at pins) fs) one.noted
      ∙ append_assoc (map seen old) (map (noted_at pins) es) (map (noted_at pins) fs)
      ∙ ap (λ (l : List Noted). map seen old ++ l) (sym (map-append (noted_at pins) es fs));
}

-- a block of what is left
pub begins : (cs : List Noted) (pins : List Pin) (old : Captures) (are : AreLeft cs pins old) (steps : Steps) (board : BoardState) (block : List Capture)
    → GoesOn old.numbers.pins.items (left old.steps) are.way.state (left steps) board block
    → Begins cs pins old block (record { devices = old.devices; numbers = old.numbers; steps = steps; board = board })
begins cs pins old are steps board block goes = record {
  rest = noted_by pins (left steps) goes.state;
  are = are.noted ∙ ap (λ (ps : List Pin). noted_by ps (left old.steps) are.way.state) (sym are.numbered) ∙ goes.noted
      ∙ ap (λ (ps : List Pin). map seen block ++ noted_by ps (left steps) goes.state) are.numbered;
  leaves = record {
    way = record {
      state = goes.state;
      rests = goes.rests;
      within = goes.within;
      fits = fits_state are.way.state goes.state goes.kept old.devices.now old.numbers are.way.fits;
    };
    numbered = are.numbered;
    noted = refl;
  };
  over = λ none. ap (λ (l : List Numbered). noted_by pins l goes.state) (goes.over none);
  none = goes.over;
  fewer = goes.fewer;
}

pub if_ok_then : {T E : Type 0} (r : Result T E) (P Q : T → Type 0) → ((t : T) → P t → Q t) → IfOk r P → IfOk r Q
if_ok_then (Ok t) P Q f p = f t p
if_ok_then (Err e) P Q f p = tt

pub on_ok_then : {T E : Type 0} (r : Result T E) (P Q : Type 0) → (P → Q) → OnOk r P → OnOk r Q
on_ok_then (Ok t) P Q f p = f p
on_ok_then (Err e) P Q f p = tt

pub path_next : {X : Type 0} (xs : List X) (i : ℕ) (d : X) → i < length xs → drop i xs ≡ get_or xs i d ∷ drop (i + 1) xs
path_next [] i d h = absurd (omega (arith, h))
path_next (x ∷ xs) zero d h = refl
path_next {X} (x ∷ xs) (suc i) d h =
    let more : suc i + 1 ≡ suc (i + 1) = omega arith in
    path_next xs i d (omega (arith, h)) ∙ sym (ap (λ (k : ℕ). get_or xs i d ∷ drop k (x ∷ xs)) more)
