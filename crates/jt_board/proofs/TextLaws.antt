-- Boards that a board file and the descriptions it names make.
use Rattle.std.proofs.Common.{◌≡◌, ◌≢◌, ◌<◌, ◌+◌, ℕ, zero, suc, Bool, true, false, ◌&&◌, ◌||◌, cond, List, [], ◌∷◌, ◌++◌, length, map, get_or, slice_get, Option, Some, None, Result, Ok, Err, IfOk, refl, sym, ap, ap₂, subst, ◌∙◌, arith, ◌⊎◌, inl, inr, ⊎_elim}
use Rattle.std.specs.List.{AllByRecursion, AllPairs, list_any}
use Rattle.std.proofs.lemmas.Bool.{and_parts, eq-eqb, eqb-true, false≢true}
use Rattle.std.proofs.lemmas.Option.{none-some, same_Some}
use Rattle.bsdl_device.specs.Device.{Device}
use Rattle.bsdl_device.specs.Driving.{drives}
use Rattle.bsdl_device.specs.declared.Cell.{Cell}
use Rattle.bsdl_device.specs.declared.Control3.{Control3}
use Rattle.bsdl_device.specs.declared.Function.{Function}
use Rattle.bsdl_device.specs.declared.Function.TheVariants.{Input, Clock, ObserveOnly, Bidir, Output2, Output3, Control, ControlR, Internal}
use Rattle.board_parts.specs.Cells.{driver_from, is_port}
use Rattle.bsdl.specs.Controls.{is_control as is_control_cell}
use Rattle.bsdl.specs.FitCells.{ControlFits, HasFitCells, IsControlCell}
use Rattle.bsdl.proofs.FitLaws.{every_device as every_fit}
use Rattle.board_loops.specs.Loops.{HasNoLoop}
use Rattle.pin_nets.specs.declared.Follow.{Follow}
use Rattle.pin_nets.specs.declared.Pin.{Pin}
use Rattle.board_parts.specs.Pins.{same_pin}
use Rattle.board_parts.specs.Strings.{HasStrings, IsStringOf}
use Rattle.board_loops.specs.Depending.{IsOrdered, dependencies}
use Rattle.board_model.specs.Cells.{Member}
use Rattle.board_model.specs.Following.{FollowsNoOtherControl, IsAmong, is_control}
use Rattle.board_model.specs.Planned.{powered_up}
use Rattle.bsdl_device.specs.Sound.{IsSoundDevice}
use Rattle.chip_instructions.specs.Fitting.{IsFormed}
use Rattle.bsdl.specs.Describing.{Refusal}
use Rattle.bsdl.specs.Judging.{text_says}
use Rattle.bsdl.specs.declared.fault.BsdlFault.{BsdlFault}
use Rattle.bsdl.proofs.SoundLaws.{every_device}
use Rattle.jt_board.proofs.FormedLaws.{every_device as every_formed}
use Rattle.board_file.specs.Fits.{AreApart, AreSaid, FitsTogether, IsSaid}
use Rattle.board_file.specs.View.{TellsBoard}
use Rattle.board_plan.specs.View.{wiring}
use Rattle.board_file.specs.Wiring.{Fault}
use Rattle.board_plan.specs.Planned.{all_pins}
use Rattle.board_plan.specs.Planned as planned
use Rattle.board_tables.specs.declared.fault.BoardFault.{BoardFault}
use Rattle.board_tables.specs.declared.fault.BoardFault.TheVariants.{NoMemory}
use Rattle.board_plan.specs.declared.plan.Plan.{Plan}
use Rattle.board_model.specs.Chain.{BoardState}
use Rattle.board_chain.specs.Ready.{IsReady}
use Rattle.jt_board.specs.FromText.{TellsMade, IsWhyRefused, said_device}
use Rattle.jt_board.specs.Made.{IsReadyPlan, IsSoundWiring, board_of}

-- ---- what is said

says : (text : List ℕ) (d : Device) → said_device text ≡ Some d → text_says text ≡ Ok d
says text d e = by (text_says text) e
  where
    device_in : Result Device Refusal → Option Device
    device_in (Ok x) = Some x
    device_in (Err f) = None

    by : (r : Result Device Refusal) → device_in r ≡ Some d → r ≡ Ok d
    by (Ok x) is = ap Ok (same_Some _ _ is)
    by (Err f) is = absurd (none-some d is)

all-said : (P : Device → Type 0) → ((d : Device) → IsSaid said_device d → P d) → (ms : List planned.Member)
    → AllByRecursion (λ (m : planned.Member). IsSaid said_device m.device) ms → AllByRecursion (λ (m : planned.Member). P m.device) ms
all-said P each [] all = tt
all-said P each (m ∷ ms) all = (each m.device all.0, all-said P each ms all.1)

pub sound_wiring : (w : planned.Wiring) → FitsTogether w → AreSaid said_device w → IsSoundWiring w
sound_wiring w fits said = record {
  some = fits.some;
  most = fits.most;
  sound = all-said IsSoundDevice (λ d is. every_device is.0 d (says is.0 d is.1)) w.members said;
}

-- ---- strings

-- a control cell drives no port
drives-no-port : (f : Function) → is_control_cell f ≡ true → drives f ≡ true → ⊥
drives-no-port Input control driven = false≢true driven
drives-no-port Clock control driven = false≢true driven
drives-no-port ObserveOnly control driven = false≢true driven
drives-no-port Bidir control driven = false≢true control
drives-no-port Output2 control driven = false≢true control
drives-no-port Output3 control driven = false≢true control
drives-no-port Control control driven = false≢true driven
drives-no-port ControlR control driven = false≢true driven
drives-no-port Internal control driven = false≢true driven

-- the cell that drives a port bit drives
driver : (p k j : ℕ) (cells : List Cell) → driver_from p k cells ≡ Some j → (i : ℕ) × (c : Cell) × (j ≡ k + i) × (slice_get cells i ≡ Some c) × (drives c.function ≡ true)
driver p k j [] e = absurd (none-some j e)
driver p k j (c ∷ cs) e = by (drives c.function && is_port p c.port) refl e (driver p (suc k) j cs)
  where
    by : (b : Bool) → (drives c.function && is_port p c.port) ≡ b → cond b (Some k) (driver_from p (suc k) cs) ≡ Some j
        → (driver_from p (suc k) cs ≡ Some j → (i : ℕ) × (d : Cell) × (j ≡ suc k + i) × (slice_get cs i ≡ Some d) × (drives d.function ≡ true))
        → (i : ℕ) × (d : Cell) × (j ≡ k + i) × (slice_get (c ∷ cs) i ≡ Some d) × (drives d.function ≡ true)
    by true is e more =
        let here : j ≡ k + 0 = omega (arith, same_Some k j e) in
        (0, c, here, refl, (and_parts (drives c.function) (is_port p c.port) is).0)
    by false is e more =
        let (i, d, at, stands, driven) = more e in
        let there : j ≡ k + suc i = omega (arith, at) in
        (suc i, d, there, stands, driven)

-- what controls a cell is a control cell, or the cell itself
controlled : (cells : List Cell) (k : ℕ) (f : Function) (t : Control3) → ControlFits cells k f (Some t) → (t.cell ≡ k) ⊎ IsControlCell cells t.cell
controlled cells k Input t fits = absurd (none-some t (sym fits))
controlled cells k Clock t fits = absurd (none-some t (sym fits))
controlled cells k ObserveOnly t fits = absurd (none-some t (sym fits))
controlled cells k Bidir t fits = inr fits
controlled cells k Output2 t fits = fits
controlled cells k Output3 t fits = inr fits
controlled cells k Control t fits = absurd (none-some t (sym fits))
controlled cells k ControlR t fits = absurd (none-some t (sym fits))
controlled cells k Internal t fits = absurd (none-some t (sym fits))

-- no string is for the control of another cell, since a string's cell drives a port bit
follows-none : (d : Device) (f : Follow) → HasFitCells d → IsStringOf d f → (k : ℕ) (c : Cell) → slice_get d.cells k ≡ Some c
    → is_control f.cell c.control ≡ true → k ≡ f.cell
follows-none d f fit string k c at control = by c.control refl (fit.each k c at).control control
  where
    apart : (t : Control3) → t.cell ≡ f.cell → IsControlCell d.cells t.cell → ⊥
    apart t same (x, there, is) =
        let (i, y, place, stands, driven) = driver string.target 0 f.cell d.cells string.drives in
        let here : i ≡ t.cell = omega (arith, place, same) in
        let one : y ≡ x = same_Some y x (sym stands ∙ ap (slice_get d.cells) here ∙ there) in
        drives-no-port x.function is (sym (ap (λ (z : Cell). drives z.function) one) ∙ driven)

    by : (o : Option Control3) → c.control ≡ o → ControlFits d.cells k c.function c.control → is_control f.cell c.control ≡ true → k ≡ f.cell
    by None is fits e = absurd (false≢true (sym (ap (is_control f.cell) is) ∙ e))
    by (Some t) is fits e =
        let same : t.cell ≡ f.cell = eqb-true t.cell f.cell (sym (ap (is_control f.cell) is) ∙ e) in
        ⊎_elim
        (λ (own : t.cell ≡ k). sym own ∙ same)
        (λ (other : IsControlCell d.cells t.cell). absurd (apart t same other))
        (controlled d.cells k c.function t (subst (ControlFits d.cells k c.function) is fits))

controls : (ms : List planned.Member) → AllByRecursion HasStrings ms → AllByRecursion (λ (m : planned.Member). HasFitCells m.device) ms
    → AllByRecursion (λ (m : Member). FollowsNoOtherControl m) (map powered_up ms)
controls [] strings fit = tt
controls (m ∷ ms) strings fit = ((λ f among k c at control. follows-none m.device f fit.0 (one m.follows strings.0.each f among) k c at control), controls ms strings.1 fit.1)
  where
    one : (fs : List Follow) → AllByRecursion (IsStringOf m.device) fs → (f : Follow) → IsAmong f fs → IsStringOf m.device f
    one [] all f among = absurd among
    one (g ∷ fs) all f (inl e) = subst (IsStringOf m.device) e all.0
    one (g ∷ fs) all f (inr later) = one fs all.1 f later

-- ---- pins

same-itself : (p : Pin) → same_pin p p ≡ true
same-itself p = ap₂ (λ (x y : Bool). x && y) (eq-eqb p.device p.device refl) (eq-eqb p.port p.port refl)

any-parts : {X : Type 0} (test : X → Bool) (xs : List X) (x : X) → list_any test (xs ++ x ∷ []) ≡ false → (list_any test xs ≡ false) × (test x ≡ false)
any-parts test [] x e = (refl, both (test x) e)
  where
    both : (b : Bool) → (b || false) ≡ false → b ≡ false
    both true e = e
    both false e = e
any-parts test (y ∷ xs) x e = by (test y) refl e (any-parts test xs x)
  where
    by : (b : Bool) → test y ≡ b → (b || list_any test (xs ++ x ∷ [])) ≡ false
        → (list_any test (xs ++ x ∷ []) ≡ false → (list_any test xs ≡ false) × (test x ≡ false)) → (list_any test (y ∷ xs) ≡ false) × (test x ≡ false)
    by true is h more = absurd (false≢true (sym h))
    by false is h more = let rest = more h in (ap (λ (b : Bool). b || list_any test xs) is ∙ rest.0, rest.1)

fresh : (before ps : List Pin) → AreApart before ps → (j : ℕ) (d : Pin) → j < length ps → list_any (same_pin (get_or ps j d)) before ≡ false
fresh before [] apart j d inside = absurd (omega (arith, inside))
fresh before (p ∷ ps) apart zero d inside = apart.0
fresh before (p ∷ ps) apart (suc j) d inside =
    (any-parts (same_pin (get_or ps j d)) before p (fresh (before ++ p ∷ []) ps apart.1 j d (omega (arith, inside)))).0

pairs : (before ps : List Pin) → AreApart before ps → AllPairs (λ (p q : Pin). p ≢ q) ps
pairs before [] apart i j d below inside same = omega (arith, inside)
pairs before (p ∷ ps) apart i zero d below inside same = omega (arith, below)
pairs before (p ∷ ps) apart zero (suc j) d below inside same =
    let none = (any-parts (same_pin (get_or ps j d)) before p (fresh (before ++ p ∷ []) ps apart.1 j d (omega (arith, inside)))).1 in
    false≢true (sym none ∙ ap (same_pin (get_or ps j d)) same ∙ same-itself (get_or ps j d))
pairs before (p ∷ ps) apart (suc i) (suc j) d below inside same = pairs (before ++ p ∷ []) ps apart.1 i j d (omega (arith, below)) (omega (arith, inside)) same

pub ready_wiring : (w : planned.Wiring) → FitsTogether w → AreSaid said_device w → HasNoLoop (dependencies w) → IsReady w
ready_wiring w fits said loops = record {
  chips = record {
    cores = fits.cores;
    pins = fits.pins;
    formed = all-said IsFormed (λ d is. every_formed is.0 d (says is.0 d is.1)) w.members said;
  };
  apart = pairs [] (all_pins w.nets) fits.apart;
  strings = fits.strings;
  controls = controls w.members fits.strings (all-said HasFitCells (λ d is. every_fit is.0 d (says is.0 d is.1)) w.members said);
  no_loop = loops;
}

pub ready_plan : (p : Plan) → FitsTogether (wiring p) → AreSaid said_device (wiring p) → HasNoLoop (dependencies (wiring p)) → IsOrdered p → IsReadyPlan p
ready_plan p fits said loops ordered = record {
  powers_up = record {
    ready = ready_wiring (wiring p) fits said loops;
    sound = sound_wiring (wiring p) fits said;
    ordered = ordered;
  };
  nets = fits.nets;
  counted = fits.counted;
}

pub ready_made : {E : Type 0} (r : Result Plan E) → IfOk r (λ p. FitsTogether (wiring p)) → IfOk r (λ p. AreSaid said_device (wiring p)) → IfOk r (λ p. HasNoLoop (dependencies (wiring p)))
    → IfOk r (λ p. IsOrdered p) → IfOk r (λ p. IsReadyPlan p)
ready_made (Ok p) fits said loops ordered = ready_plan p fits said loops ordered
ready_made (Err e) fits said loops ordered = tt

-- ---- what is told

pub told_board : (p : Plan) (b : BoardState) (said : Result planned.Wiring Fault) (targets : List (List ℕ)) → TellsBoard IsWhyRefused (Ok p) said targets → b ≡ board_of (wiring p)
    → TellsMade (Ok b) said targets
told_board p b (Ok w) targets h is =
    let same : w ≡ wiring p = cc (h.0) in
    (is ∙ ap board_of (sym same), subst (λ (x : planned.Wiring). HasNoLoop (dependencies x)) (sym same) h.1)
told_board p b (Err e) targets h is = absurd (cc (h.0))

pub told_no_memory : (said : Result planned.Wiring Fault) (targets : List (List ℕ)) → TellsMade (Err NoMemory) said targets
told_no_memory (Ok w) targets = tt
told_no_memory (Err e) targets = tt
