-- What is written where devices keep their states, and nets their levels: the lines of the TAP alone.
use Rattle.std.proofs.Common.{◌≡◌, ◌⊎◌, inl, inr, ⊎_elim, ◌+◌, ℕ, Bool, true, false, ◌&&◌, List, [], ◌∷◌, ◌++◌, drop, map, is_none, refl, sym, ap, ap₂, ◌∙◌, Option, None}
use Rattle.std.proofs.lemmas.List.{append-nil}
use Rattle.std.specs.Prelude.{slice_get, unwrap_or, zip, if◌then◌else◌}
use Rattle.jt_tap.specs.declared.State.{State}
use Rattle.jt_tap.specs.declared.State.TheVariants.{Reset, Idle, DrSelect, DrCapture, DrShift, DrExit1, DrPause, DrExit2, DrUpdate, IrSelect, IrCapture, IrShift, IrExit1, IrPause, IrExit2, IrUpdate}
use Rattle.jt_tap.specs.Controller.{is_at}
use Rattle.pin_nets.specs.Wired.{Net}
use Rattle.bitbang_protocol.specs.declared.Message.{Message}
use Rattle.board_model.specs.Chain.{ChipState}
use Rattle.play_drawing.specs.Drawing.{between, is_drawn, mark, shown, taken}
use Rattle.wave_files.specs.Changes.{board_changes, line_changes, stamp}
use Rattle.play_drawing.specs.Pens.{Pen}
use Rattle.play_drawing.specs.Quiet.{keeps_levels}
use Rattle.wave_files.specs.Changes.{TellsNoNet, KeepsInstructions}
use Rattle.wave_files.specs.declared.extras.Extras.{Extras}
use Rattle.wave_files.specs.Drives.{KeepsDrives}
use Rattle.wave_files.specs.Extras.{all_extra_changes, draws_of_devices, extra_change, tdo_change}
use Rattle.wave_files.specs.Values.{by_numbers, byte_change, device_change, extras_of_device, first_of_devices, first_of_extras, latch, state_change, undriven, variables_of_device, wire}
use Rattle.wave_files.proofs.Instructions.{no_change, no_name}
use Rattle.wave_files.proofs.Pins.{no_drive, unchanged}
use Rattle.play_drawing.proofs.Levels.{is_quiet, none_changed}

-- ---- devices

abbrev pub states_of : List ChipState → List State
states_of cs = map (λ (c : ChipState). c.state) cs

at_itself : (s : State) → is_at s s ≡ true
at_itself Reset = refl
at_itself Idle = refl
at_itself DrSelect = refl
at_itself DrCapture = refl
at_itself DrShift = refl
at_itself DrExit1 = refl
at_itself DrPause = refl
at_itself DrExit2 = refl
at_itself DrUpdate = refl
at_itself IrSelect = refl
at_itself IrCapture = refl
at_itself IrShift = refl
at_itself IrExit1 = refl
at_itself IrPause = refl
at_itself IrExit2 = refl
at_itself IrUpdate = refl

no_state : (n : ℕ) (was is : State) → was ≡ is → state_change n was is ≡ []
no_state n was is e = ap (λ (x : State). state_change n was x) (sym e) ∙ rw (at_itself was) refl

no_device : (n : ℕ) (cs ds : List ChipState) → states_of cs ≡ states_of ds → KeepsInstructions cs ds
    → by_numbers device_change variables_of_device n (zip cs ds) ≡ []
no_device n [] ds same keep = refl
no_device n (c ∷ cs) [] same keep = refl
no_device n (c ∷ cs) (d ∷ ds) same keep =
    let state : c.state ≡ d.state = ap (λ (l : List State). unwrap_or (slice_get l 0) Reset) same in
    let own : latch c ≡ latch d = ap (λ (l : List (List Bool)). unwrap_or (slice_get l 0) []) keep in
    ap₂ (λ (a b : List ℕ). a ++ b)
    (ap₂ (λ (a b : List ℕ). a ++ b) (no_state n c.state d.state state) (no_change n (latch c) (latch d) own))
    (no_device (n + variables_of_device) cs ds (ap (λ (l : List State). drop 1 l) same) (ap (λ (l : List (List Bool)). drop 1 l) keep))

-- ---- what is drawn of devices besides

abbrev tdos_of : List ChipState → List (Option Bool)
tdos_of cs = map (λ (c : ChipState). c.tdo) cs

no_tdo : (tdos : Bool) (n : ℕ) (c d : ChipState) → (tdos ≡ false) ⊎ (c.tdo ≡ d.tdo) → tdo_change tdos n c d ≡ []
no_tdo false n c d same = refl
no_tdo true n c d (inl not) = absurd cc
no_tdo true n c d (inr same) =
    ap (λ (o : Option Bool). byte_change n (wire undriven c.tdo) (wire undriven o)) (sym same) ∙ unchanged n (wire undriven c.tdo)

no_extras : (x : Extras) (n : ℕ) (cs ds : List ChipState) → (x.tdos ≡ false) ⊎ (tdos_of cs ≡ tdos_of ds) → KeepsInstructions cs ds
    → by_numbers (extra_change x) extras_of_device n (zip cs ds) ≡ []
no_extras x n [] ds same keep = refl
no_extras x n (c ∷ cs) [] same keep = refl
no_extras x n (c ∷ cs) (d ∷ ds) same keep =
    let own : latch c ≡ latch d = ap (λ (l : List (List Bool)). unwrap_or (slice_get l 0) []) keep in
    let first : (x.tdos ≡ false) ⊎ (c.tdo ≡ d.tdo) =
    ⊎_elim (λ not. inl not) (λ e. inr (ap (λ (l : List (Option Bool)). unwrap_or (slice_get l 0) None) e)) same in
    let others : (x.tdos ≡ false) ⊎ (tdos_of cs ≡ tdos_of ds) =
    ⊎_elim (λ not. inl not) (λ e. inr (ap (λ (l : List (Option Bool)). drop 1 l) e)) same in
    ap₂ (λ (a b : List ℕ). a ++ b)
    (ap₂ (λ (a b : List ℕ). a ++ b) (no_name x.names n c d own) (no_tdo x.tdos (n + 1) c d first))
    (no_extras x (n + extras_of_device) cs ds others (ap (λ (l : List (List Bool)). drop 1 l) keep))

none_anyway : (b : Bool) (l : List ℕ) → l ≡ [] → (if b then l else []) ≡ []
none_anyway true l e = e
none_anyway false l e = refl

no_extra : (x : Extras) (nets : List Net) (cs ds : List ChipState) → (x.tdos ≡ false) ⊎ (tdos_of cs ≡ tdos_of ds) → KeepsInstructions cs ds
    → KeepsDrives nets cs ds → all_extra_changes x nets cs ds ≡ []
no_extra x nets cs ds same keep drives =
    ap₂ (λ (a b : List ℕ). a ++ b)
    (none_anyway (draws_of_devices x) (by_numbers (extra_change x) extras_of_device (first_of_extras cs nets) (zip cs ds))
    (no_extras x (first_of_extras cs nets) cs ds same keep))
    (no_drive x.drives nets cs ds drives)

pub no_extra_same : (x : Extras) (nets : List Net) (cs : List ChipState) → all_extra_changes x nets cs cs ≡ []
no_extra_same x nets cs = no_extra x nets cs cs (inr refl) refl (λ pin. refl)

-- ---- a message

pub unmoved : (nets : List Net) (cs ds : List ChipState) → states_of cs ≡ states_of ds → KeepsInstructions cs ds → TellsNoNet nets cs ds
    → board_changes nets cs ds ≡ []
unmoved nets cs ds same keep none =
    ap₂ (λ (a b : List ℕ). a ++ b) (no_device first_of_devices cs ds same keep) none

pub unmoved_same : (nets : List Net) (cs : List ChipState) → board_changes nets cs cs ≡ []
unmoved_same nets cs = unmoved nets cs cs refl refl (none_changed nets cs cs (λ net. refl) _ nets)

-- what is written of a message that leaves devices and nets so
pub lines_alone : (m : Message) (p : Pen) → is_drawn m ≡ true → (is_none p.marks.tck && is_none (taken m p).marks.tck) ≡ false
    → board_changes p.board.nets p.board.chips (taken m p).board.chips ≡ []
    → all_extra_changes p.extras p.board.nets p.board.chips (taken m p).board.chips ≡ []
    → mark m p ≡ stamp p.marks.time ++ line_changes (shown p) (shown (taken m p))
lines_alone m p drawn seen none extra =
    let q = taken m p in
    let lines = line_changes (shown p) (shown q) in
    ap (λ (b : Bool). if b then between p q else []) drawn
    ∙ ap (λ (b : Bool). if b then [] else stamp p.marks.time ++ (lines ++ (board_changes p.board.nets p.board.chips q.board.chips
    ++ all_extra_changes p.extras p.board.nets p.board.chips q.board.chips))) seen
    ∙ ap (λ (l : List ℕ). stamp p.marks.time ++ (lines ++ l)) (ap₂ (λ (a b : List ℕ). a ++ b) none extra)
    ∙ ap (λ (l : List ℕ). stamp p.marks.time ++ l) (append-nil lines)

-- where states stay, the message leaves what every pin drives, and no TDO is drawn but that of the board
pub quiet_lines : (m : Message) (p : Pen) → p.extras.tdos ≡ false → is_drawn m ≡ true → (is_none p.marks.tck && is_none (taken m p).marks.tck) ≡ false
    → states_of p.board.chips ≡ states_of (taken m p).board.chips → keeps_levels m p.board.chips ≡ true
    → mark m p ≡ stamp p.marks.time ++ line_changes (shown p) (shown (taken m p))
quiet_lines m p alone drawn seen same keeps =
    let quiet = is_quiet m p.board keeps in
    lines_alone m p drawn seen (unmoved p.board.nets p.board.chips (taken m p).board.chips same quiet.no_instruction quiet.no_net)
    (no_extra p.extras p.board.nets p.board.chips (taken m p).board.chips (inl alone) quiet.no_instruction quiet.no_drive)
